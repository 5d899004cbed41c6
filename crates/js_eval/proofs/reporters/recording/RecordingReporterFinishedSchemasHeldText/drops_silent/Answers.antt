use Rattle.std.specs.Prelude.{true}
use Rattle.std.proofs.Common.{◌≡◌, refl, subst}
use Rattle.js_tree.specs.Events.{closing}
use Rattle.js_tree.specs.Note.{silent}
use Rattle.js_tree.specs.Rows.RelativeState.{relative_after, relative_state}
use Rattle.js_eval.proofs.reporters.recording.RecordingReporterFinishedSchemasHeldText.drops_silent.Goals as goal

pub returns : goal.returns
returns c = λ yes keyword absolute instance.
    let gone = c.drops_silent.ensures yes keyword absolute instance in
    let back = subst (λ rows. relative_state rows
    ≡ relative_after (relative_state gone.0) (closing true silent)) gone.2.2 gone.2.1 in
    (record { rows = gone.0; token = c.args.self.now.token }, gone.1, (c.args.self.now, back, refl))
