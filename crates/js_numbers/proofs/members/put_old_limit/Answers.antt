use Rattle.std.proofs.Common.{ℤ, [], ◌∷◌, true, subst, sym, rules}
use Rattle.std.specs.Prelude.{codes}
use Rattle.std.specs.Int.{w128}
use Rattle.std.proofs.lemmas.Int.{to_z-of_z}
use mir.Val.{SFits}
use Rattle.json.specs.Json.{boolean}
use Rattle.js_numbers.specs.Change.{integer, old_limit_members}
use Rattle.js_numbers.specs.code.Appended.{Appends, named_tokens}
use Rattle.js_numbers.specs.declared.limit.Limit.{Limit}
use Rattle.js_numbers.proofs.members.put_old_limit.Goals as goal

pub returns-in-ExclusiveMinimum : goal.returns-in-ExclusiveMinimum
returns-in-ExclusiveMinimum c =
    let n = c.in-ExclusiveMinimum.value in
    let fits : SFits w128 n = search rules in
    let new = c.put_exclusive.new.writer in
    let all = λ (z : ℤ). named_tokens ((codes "minimum", integer z) ∷ (codes "exclusiveMinimum", boolean true) ∷ []) in
    subst (λ (m : Limit). Appends c.put_exclusive.result c.args.writer.now new (named_tokens (old_limit_members m)))
    (sym c.in-ExclusiveMinimum.is)
    (subst (λ (z : ℤ). Appends c.put_exclusive.result c.args.writer.now new (all z)) (to_z-of_z w128 n fits)
    c.put_exclusive.ensures)

pub returns-in-ExclusiveMaximum : goal.returns-in-ExclusiveMaximum
returns-in-ExclusiveMaximum c =
    let n = c.in-ExclusiveMaximum.value in
    let fits : SFits w128 n = search rules in
    let call = c.put_exclusive-in-ExclusiveMaximum in
    let all = λ (z : ℤ). named_tokens ((codes "maximum", integer z) ∷ (codes "exclusiveMaximum", boolean true) ∷ []) in
    subst (λ (m : Limit). Appends call.result c.args.writer.now call.new.writer (named_tokens (old_limit_members m)))
    (sym c.in-ExclusiveMaximum.is)
    (subst (λ (z : ℤ). Appends call.result c.args.writer.now call.new.writer (all z)) (to_z-of_z w128 n fits)
    call.ensures)
