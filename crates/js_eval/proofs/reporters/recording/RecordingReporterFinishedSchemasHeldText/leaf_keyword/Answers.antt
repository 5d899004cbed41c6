use Rattle.std.specs.Prelude.{◌++◌}
use Rattle.std.proofs.Common.{◌≡◌, ◌∙◌, [], ap, subst, sym}
use Rattle.std.proofs.lemmas.Result.{on_ok_weaker}
use Rattle.js_doc.specs.Fragment.{fragment_token}
use Rattle.js_tree.specs.Events.{closing}
use Rattle.js_tree.specs.Seen.{note_of}
use Rattle.js_eval.specs.Bundle.{schemas_of}
use Rattle.js_eval.specs.Seen.{instance_of, keyword_of}
use Rattle.js_eval.specs.Sited.{numbered_site}
use Rattle.js_eval.specs.Walk.Progress.{says_at}
use Rattle.js_eval.specs.code.Recorded.{AddsRow, TakesEvent}
use Rattle.js_eval.proofs.LeafAsTwoEvents.{leaf_of_steps, leaf_recorded, name_as_it_is}
use Rattle.js_eval.proofs.Paths.{in_one_piece, keyword_location_is}
use Rattle.js_eval.proofs.Recursion.Splits.{split_at_name}
use Rattle.js_eval.proofs.Recursion.Stepping.{trail_back}
use Rattle.js_eval.proofs.reporters.recording.RecordingReporterFinishedSchemasHeldText.leaf_keyword.Goals as goal

pub returns-then-takes_leaf-clause-reported : goal.returns-then-takes_leaf-clause-reported
returns-then-takes_leaf-clause-reported c =
    let findings = c.of_leaf-findings.ensures in
    let said : note_of c.in_ok-note.note ≡ says_at (schemas_of c.args.world.now.schemas.now)
    (numbered_site c.args.world.now.schemas.now c.args.place) (instance_of c.args.value) c.args.matching
    (keyword_of c.args.keyword) c.args.judged.succeeded [] [] c.args.judged.passes =
    rw (findings.judged, findings.matching, findings.names, findings.indexes) at c.in_ok-note.ensures in
    let yes = c.if-takes_leaf.true in
    let above = c.args.keyword_location.now in
    let schema = c.location_of.result.0.now in
    let rest = c.location_of.result.1.now in
    let name = c.args.keyword.name.now in
    let written = c.takes_leaf.ensures.name yes in
    let none = sym c.is_empty.ensures ∙ c.if-is_empty.true in
    let added = ap (λ text. schema ++ text) (sym written.in_fragment) in
    let token = in_one_piece schema rest (fragment_token name) _ none added in
    let absolute = keyword_location_is c.args.world.now.schemas.now c.args.place name (schema ++ rest) _
    c.location_of.ensures token in
    on_ok_weaker c.add_leaf.result
    (λ leaf. leaf_recorded c.args.self.now _ above schema name c.args.instance_location.now _ _ c.args.judged.passes _
    _ leaf (name_as_it_is above (keyword_of c.args.keyword) written.in_pointer) absolute said)
    (c.add_leaf.ensures above c.args.instance_location.now (c.takes_leaf.ensures.at yes))

pub cut-requires : goal.cut-requires
cut-requires c =
    split_at_name c.args.keyword_location.now c.go_to_keyword.new.trail (keyword_of c.args.keyword) c.mark-here.result
    c.mark-here.ensures c.in_ok-go_to_keyword.ensures

pub returns-clause-reported : goal.returns-clause-reported
returns-clause-reported c =
    let findings = c.of_leaf-findings.ensures in
    let said : note_of c.in_ok-note.note ≡ says_at (schemas_of c.args.world.now.schemas.now)
    (numbered_site c.args.world.now.schemas.now c.args.place) (instance_of c.args.value) c.args.matching
    (keyword_of c.args.keyword) c.args.judged.succeeded [] [] c.args.judged.passes =
    rw (findings.judged, findings.matching, findings.names, findings.indexes) at c.in_ok-note.ensures in
    leaf_of_steps (schemas_of c.args.world.now.schemas.now) TakesEvent (numbered_site c.args.world.now.schemas.now
    c.args.place) (instance_of c.args.value) (keyword_of c.args.keyword) c.args.matching c.args.judged.passes
    c.args.judged.succeeded c.args.keyword_location.now c.args.instance_location.now c.go_to_keyword.new.trail
    c.args.self.now c.open_keyword.new.self (record { rows = c.leave.new.self; token = c.open_keyword.new.self.token })
    c.in_ok-go_to_keyword.ensures c.in_ok-open_keyword.ensures
    (subst (λ note. AddsRow c.open_keyword.new.self.rows (closing c.args.judged.passes note)
    c.leave.new.self) said c.leave.ensures)

pub returns-clause-back : goal.returns-clause-back
returns-clause-back c =
    c.cut.ensures ∙ trail_back c.args.keyword_location.now c.go_to_keyword.new.trail (keyword_of c.args.keyword)
    c.mark-here.result c.mark-here.ensures c.in_ok-go_to_keyword.ensures
