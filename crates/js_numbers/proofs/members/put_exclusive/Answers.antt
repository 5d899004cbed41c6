use Rattle.std.proofs.Common.{ℤ, [], ◌∷◌, true, subst}
use Rattle.std.specs.Int.{w128}
use Rattle.std.proofs.lemmas.Int.{to_z-of_z}
use Rattle.json.specs.Json.{boolean}
use Rattle.js_numbers.specs.Change.{integer}
use Rattle.js_numbers.specs.code.Appended.{Appends, named_tokens}
use Rattle.js_numbers.proofs.Appending.{appends_more}
use Rattle.js_numbers.proofs.members.put_exclusive.Goals as goal

pub returns : goal.returns
returns c =
    let all = λ (z : ℤ). named_tokens ((c.args.name.now, integer z) ∷ (c.args.exclusive.now, boolean true) ∷ []) in
    subst (λ (z : ℤ). Appends c.put_true.result c.args.writer.now c.put_true.new.writer (all z))
    (to_z-of_z w128 c.args.value c.ranges.value)
    (appends_more _ c.args.writer.now c.put_integer.new.writer c.put_true.new.writer _ _
    c.in_ok-put_integer.ensures.ok c.in_ok-put_integer.ensures.before c.put_true.ensures)
