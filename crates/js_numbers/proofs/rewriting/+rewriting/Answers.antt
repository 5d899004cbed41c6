use Rattle.std.proofs.Common.{◌≡◌, ◌+◌, ◌<◌, ◌∷◌, ap, arith, drop, length, subst, sym, ◌∙◌}
use Rattle.std.proofs.lemmas.List.{drop_more}
use Rattle.json.proofs.Trees.{item_smaller, member_smaller}
use Rattle.json.specs.Tree.{HasNumbers, ItemsHaveNumbers, MembersHaveNumbers, items_tokens, json_tokens, members_tokens}
use Rattle.json.specs.Value.{items_view, members_view, value_view}
use Rattle.js_upgrade.specs.Keyword.{change_in}
use Rattle.js_upgrade.specs.Upgrade.{holding_by_change}
use Rattle.js_numbers.specs.Change.{members_made, change}
use Rattle.js_numbers.specs.Schema.{keywords, rewritten}
use Rattle.js_numbers.specs.code.Appended.{Appends, named_tokens}
use Rattle.js_numbers.specs.declared.change.NumberChange.{NumberChange}
use Rattle.js_numbers.proofs.Appending.{members_then, walk_more}
use Rattle.js_numbers.proofs.rewriting.+rewriting.Goals as goal

pub put_keyword-returns-in_default : goal.put_keyword-returns-in_default
put_keyword-returns-in_default t c =
    let d = c.args.dialect in
    let name = c.args.name.now in
    let v = value_view c.args.value.now in
    let new = rewritten (holding_by_change (change_in d name)) d v in
    subst (λ (h : NumberChange). Appends c.put_change.result c.args.writer.now c.put_change.new.writer
    (named_tokens (members_made h name v new))) c.change-change.ensures.same (c.put_change.ensures new)

pub put_listed-put_rewritten-requires : goal.put_listed-put_rewritten-requires
put_listed-put_rewritten-requires t c =
    let l = c.loop-item in
    let xs = c.deref-item-items.result.now in
    let x = c.item-item.result in
    let here : drop l.item-index xs ≡ x ∷ drop (l.item-index + 1) xs =
    drop_more xs l.item-index x (omega arith) ∙ ap (λ y. y ∷ drop (l.item-index + 1) xs) (sym c.item-item.is) in
    let numbers : HasNumbers (value_view x) =
    (subst (λ ys. ItemsHaveNumbers (items_view ys)) here l.invariant.numbers).0 in
    let smaller : length (json_tokens (value_view x)) < length (items_tokens (items_view c.args.items.now.items)) =
    subst (λ ys. length (json_tokens (value_view x)) < length (items_tokens (items_view ys)))
    c.deref-item-items.ensures.value
    (subst (λ y. length (json_tokens (value_view y)) < length (items_tokens (items_view xs))) (sym c.item-item.is)
    (item_smaller xs l.item-index x (omega arith))) in
    (omega (arith, smaller, c.decreases), numbers)

pub put_named-put_rewritten-requires : goal.put_named-put_rewritten-requires
put_named-put_rewritten-requires t c =
    let l = c.loop-member in
    let xs = c.deref-member-items.result.now in
    let x = c.member-item.result in
    let here : drop l.member-index xs ≡ x ∷ drop (l.member-index + 1) xs =
    drop_more xs l.member-index x (omega arith) ∙ ap (λ y. y ∷ drop (l.member-index + 1) xs) (sym c.member-item.is) in
    let numbers : HasNumbers (value_view x.1) =
    (subst (λ ys. MembersHaveNumbers (members_view ys)) here l.invariant.numbers).0 in
    let all = members_view c.args.members.now.items in
    let smaller : length (json_tokens (value_view x.1)) < length (members_tokens all) =
    subst (λ ys. length (json_tokens (value_view x.1)) < length (members_tokens (members_view ys)))
    c.deref-member-items.ensures.value
    (subst (λ y. length (json_tokens (value_view y.1)) < length (members_tokens (members_view xs)))
    (sym c.member-item.is) (member_smaller xs l.member-index x (omega arith))) in
    (omega (arith, smaller, c.decreases), numbers)

pub put_schema-put_keyword-requires : goal.put_schema-put_keyword-requires
put_schema-put_keyword-requires t c =
    let l = c.loop-member in
    let xs = c.deref-member-items.result.now in
    let x = c.member-item.result in
    let here : drop l.member-index xs ≡ x ∷ drop (l.member-index + 1) xs =
    drop_more xs l.member-index x (omega arith) ∙ ap (λ y. y ∷ drop (l.member-index + 1) xs) (sym c.member-item.is) in
    let numbers : HasNumbers (value_view x.1) =
    (subst (λ ys. MembersHaveNumbers (members_view ys)) here l.invariant.numbers).0 in
    let all = members_view c.args.members.now.items in
    let smaller : length (json_tokens (value_view x.1)) < length (members_tokens all) =
    subst (λ ys. length (json_tokens (value_view x.1)) < length (members_tokens (members_view ys)))
    c.deref-member-items.ensures.value
    (subst (λ y. length (json_tokens (value_view y.1)) < length (members_tokens (members_view xs)))
    (sym c.member-item.is) (member_smaller xs l.member-index x (omega arith))) in
    (omega (arith, smaller, c.decreases), numbers)

pub put_schema-loop-member-preserved : goal.put_schema-loop-member-preserved
put_schema-loop-member-preserved t c =
    let l = c.loop-member in
    let xs = c.deref-member-items.result.now in
    let x = c.member-item.result in
    let d = c.args.dialect in
    let schema = value_view c.args.schema.now in
    let name = x.0.now in
    let v = value_view x.1 in
    let later = members_view (drop (l.member-index + 1) xs) in
    let here : drop l.member-index xs ≡ x ∷ drop (l.member-index + 1) xs =
    drop_more xs l.member-index x (omega arith) ∙ ap (λ y. y ∷ drop (l.member-index + 1) xs) (sym c.member-item.is) in
    let front = members_made (change d schema name v) name v (rewritten (holding_by_change (change_in d name)) d v) in
    let step = ap (λ ys. members_tokens (keywords d schema (members_view ys))) here
    ∙ members_then front (keywords d schema later) in
    record {
      numbers = (subst (λ ys. MembersHaveNumbers (members_view ys)) here l.invariant.numbers).1;
      before = c.in_ok-put_keyword.ensures.before ∙ l.invariant.before;
      tokens = walk_more l.writer.tokens _ _ (named_tokens front) (members_tokens (keywords d schema later)) _
          c.in_ok-put_keyword.ensures.ok step l.invariant.tokens;
    }
