use Rattle.std.proofs.Common.{map, ap, ap₂, filter, length, nat_lt, sym, ◌∙◌}
use Rattle.std.proofs.lemmas.List.{length-map}
use Rattle.js_doc.specs.Seen.{value_of}
use Rattle.js_eval.specs.Applications.{indexed_from}
use Rattle.js_eval.specs.SchemaSet as spec
use Rattle.js_eval.specs.code.Starting.{by_keyword}
use Rattle.js_eval.proofs.ItemsLeft.{first_left}
use Rattle.js_eval.proofs.keywords.arrays.prefix.Goals as goal

pub returns-clause-asked : goal.returns-clause-asked
returns-clause-asked c =
    let many = sym (length-map c.array_in-list.result.now value_of) ∙ ap length c.array_in-list.ensures in
    ap (map (λ e. by_keyword c.args.start.now.schemas.now c.args.start.now.at.now
    (spec.Index e.0) (spec.Index e.0) e.1))
    (first_left c.new.result.items c.array.result.now c.first_of.result.now (length c.array_in-list.result.now)
    c.new.ensures.items c.first_of.ensures
    ∙ ap₂ (λ n vs. filter (λ e. nat_lt e.0 n) (indexed_from 0 vs)) many c.array.ensures)
