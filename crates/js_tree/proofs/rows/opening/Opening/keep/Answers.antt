use Rattle.std.proofs.Common.{◌≡◌, ◌∷◌, [], ◌++◌, ap, subst, sym, ◌∙◌, arith}
use Rattle.json.specs.Print.{escape}
use Rattle.js_doc.proofs.QuotedRuns.{nothing_escaped}
use Rattle.js_tree.specs.code.Opening.{schema_start}
use Rattle.js_tree.proofs.WrittenRows.OpeningKept.{kept_is, shape_is, start_left}
use Rattle.js_tree.proofs.rows.opening.Opening.keep.Goals as goal

pub invariant_of-self : goal.invariant_of-self
invariant_of-self c =
    let s = c.args.schema.now in
    let old = c.args.self.now in
    let text = c.add_location.new.text in
    let is : text.items ≡ schema_start ++ (s ++ 47 ∷ []) = c.add_location.ensures.items
    ∙ ap (λ l. l ++ (s ++ 47 ∷ [])) (c.truncate.ensures.items ∙ start_left old.text.items old.shape) in
    let plain = nothing_escaped s (sym c.stand_as_they_are.ensures ∙ c.if-not-stand_as_they_are.false) in
    record {
      shape = shape_is text.items s is;
      plain = subst (λ l. escape l ≡ l) (sym (kept_is text.items s is)) plain;
      room = omega (arith, old.room, c.truncate.ensures.capacity, c.add_location.ensures.capacity);
    }
