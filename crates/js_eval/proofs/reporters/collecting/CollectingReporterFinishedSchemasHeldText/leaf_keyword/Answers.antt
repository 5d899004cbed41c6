use Rattle.std.proofs.Common.{◌≡◌, ◌∙◌, [], Some, refl, subst}
use Rattle.js_tree.specs.Events.{closing, opening}
use Rattle.js_tree.specs.Seen.{note_of}
use Rattle.js_eval.specs.Bundle.{schemas_of}
use Rattle.js_eval.specs.Seen.{instance_of, keyword_of}
use Rattle.js_eval.specs.Sited.{numbered_site}
use Rattle.js_eval.specs.Walk.Progress.{says_at}
use Rattle.js_eval.proofs.Recursion.Splits.{split_at_name}
use Rattle.js_eval.proofs.Recursion.Stepping.{trail_back}
use Rattle.js_eval.proofs.reporters.collecting.CollectingReporterFinishedSchemasHeldText.leaf_keyword.Goals as goal

pub cut-requires : goal.cut-requires
cut-requires g c =
    split_at_name c.args.keyword_location.now c.go_to_keyword.new.trail (keyword_of c.args.keyword) c.mark-here.result
    c.mark-here.ensures c.in_ok-go_to_keyword.ensures

pub returns-clause-reported : goal.returns-clause-reported
returns-clause-reported g c =
    let findings = c.of_leaf-findings.ensures in
    let said : note_of c.in_ok-note.note ≡ says_at (schemas_of c.args.world.now.schemas.now)
    (numbered_site c.args.world.now.schemas.now c.args.place) (instance_of c.args.value) c.args.matching
    (keyword_of c.args.keyword) c.args.judged.succeeded [] [] c.args.judged.passes =
    rw (findings.judged, findings.matching, findings.names, findings.indexes) at c.in_ok-note.ensures in
    let absolute = (schemas_of c.args.world.now.schemas.now).absolute
    (numbered_site c.args.world.now.schemas.now c.args.place) (Some c.args.keyword.name.now) in (
      c.open_keyword.new.self,
      subst (λ text. g.C.Collector.takes c.args.self.now.collector (opening text absolute c.args.instance_location.now)
          c.open_keyword.new.self.collector) c.in_ok-go_to_keyword.ensures c.in_ok-open_keyword.ensures,
      (
        record { collector = c.leave.new.self; notes = c.open_keyword.new.self.notes },
        subst (λ note. g.C.Collector.takes c.open_keyword.new.self.collector (closing c.args.judged.passes note)
            c.leave.new.self) said c.in_ok-leave.ensures,
        refl,
      ),
    )

pub returns-clause-back : goal.returns-clause-back
returns-clause-back g c =
    c.cut.ensures ∙ trail_back c.args.keyword_location.now c.go_to_keyword.new.trail (keyword_of c.args.keyword)
    c.mark-here.result c.mark-here.ensures c.in_ok-go_to_keyword.ensures
