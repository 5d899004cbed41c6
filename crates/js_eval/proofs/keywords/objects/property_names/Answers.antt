use Rattle.std.proofs.Common.{map, ap, ◌∙◌}
use Rattle.js_doc.specs.Value.{text}
use Rattle.js_eval.specs.code.Cursors.{members_asked}
use Rattle.js_eval.specs.SchemaSet as spec
use Rattle.js_eval.specs.code.Starting.{by_keyword}
use Rattle.js_eval.proofs.MembersLeft.{all_chosen}
use Rattle.js_eval.proofs.keywords.objects.property_names.Goals as goal

pub returns-clause-asked : goal.returns-clause-asked
returns-clause-asked c =
    let s = c.args.start.now in
    ap (members_asked s.schemas.now) c.in_ok-in_box.ensures ∙ c.on_chosen-cursor.ensures.asked
    ∙ ap (map (λ m. by_keyword s.schemas.now s.at.now spec.Alone (spec.Name m.0) (text m.0)))
    (all_chosen _ ∙ c.in-Some.ensures)
