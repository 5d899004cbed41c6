use Rattle.std.proofs.Common.{◌++◌}
use Rattle.js_tree.specs.Rows.RelativeState.{relative_state}
use Rattle.js_eval.proofs.OpeningsAlike.{opening_alike}
use Rattle.js_eval.proofs.Paths.{location_is}
use Rattle.js_eval.proofs.reporters.recording.RecordingReporterFinishedSchemasHeldText.open_schema.Goals as goal

pub returns : goal.returns
returns c =
    let lent = c.location_of.result in
    let e = location_is c.args.world.now.schemas.now c.args.place (lent.0.now ++ lent.1.now) c.location_of.ensures in
    let new = relative_state c.enter.new.self in
    let old = relative_state c.args.self.now.rows in
    opening_alike c.enter.result new old c.as_str.ensures e c.as_str-2.ensures c.enter.ensures
