use Rattle.std.proofs.Common.{◌≡◌, Bool, true, false, not, Option, Some, None, is_some, is_none, map, refl, ◌∙◌, rules}
use Rattle.js_doc.specs.Seen.{value_of}
use Rattle.js_assert.proofs.EqualPairs.{unique_is}
use Rattle.js_assert.proofs.arrays.has_no_repeats.Goals as goal

turned : {A : Type 0} (o : Option A) (b : Bool) → is_some o ≡ not b → b ≡ is_none o
turned None true e = refl
turned None false e = absurd (cc)
turned (Some x) true e = absurd (cc)
turned (Some x) false e = refl

pub returns : goal.returns
returns c =
    let o = c.in_ok-least_equal_pair.field-0 in
    let vs = map value_of c.args.items.now in
    let asked : c.args.asked ≡ true = search rules in
    rw asked (turned o c.is_none.result c.is_none.ensures ∙ unique_is vs o c.in_ok-least_equal_pair.ensures)
