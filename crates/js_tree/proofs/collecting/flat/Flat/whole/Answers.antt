use Rattle.std.proofs.Common.{length, arith, ap}
use Rattle.js_tree.proofs.FlatFormCollected.{none_open}
use Rattle.js_tree.proofs.Nested.{not_none}
use Rattle.js_tree.proofs.collecting.flat.Flat.whole.Goals as goal

pub returns-else-is_empty : goal.returns-else-is_empty
returns-else-is_empty c =
    let numbers = c.args.self.now.numbers in (
      λ h. let n = c.if-is_empty.false in absurd cc,
      λ w.
          let some = not_none _ c.if-is_empty.ensures in
          let none = ap length (none_open numbers.items (ap (λ s. s.numbers) w.1)) in
          let ok = numbers.ok in
          absurd (omega (arith, some, none, ok)),
    )
