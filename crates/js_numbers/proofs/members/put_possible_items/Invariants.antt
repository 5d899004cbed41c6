use Rattle.std.proofs.Common.{◌≡◌, ◌++◌, drop}
use Rattle.json.specs.Tree.{ItemsHaveNumbers, items_tokens}
use Rattle.json.specs.Value.{items_view}
use Rattle.js_numbers.specs.Change.{possible_items}
use Rattle.js_numbers.proofs.members.put_possible_items.Given as goal

-- what is written and what the rest writes make the whole
abbrev pub invariant-loop-item : goal.invariant-loop-item
invariant-loop-item l =
    let rest = items_view (drop l.item-index l.item-items) in
    let all = items_view l.item-items in
    record {
      numbers : ItemsHaveNumbers rest;
      before : l.writer.before ≡ l.initial.writer.before;
      tokens : l.writer.tokens ++ items_tokens (possible_items rest)
          ≡ l.initial.writer.tokens ++ items_tokens (possible_items all);
    }
