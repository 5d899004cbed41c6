use Rattle.std.proofs.Common.{◌≡◌, ◌+◌, [], ◌∷◌, ◌++◌, take, get_or, sym, ap, ◌∙◌, subst, arith, rules}
use Rattle.std.proofs.lemmas.List.{take_more, take_all}
use Rattle.js_doc.specs.Members.{NamesAscendInItems}
use Rattle.js_doc.specs.Short.{AreShortItems}
use Rattle.js_doc.specs.Seen.{items_seen}
use Rattle.js_doc.proofs.Ascending.{items_ascend-push}
use Rattle.js_doc.proofs.Shortness.{count_short, items_short-push}
use Rattle.js_doc.proofs.items.Items.new.Goals as goal

pub loop-doc-preserved : goal.loop-doc-preserved
loop-doc-preserved c =
    let l = c.loop-doc in
    let xs = c.deref-doc-items.result.now in
    let d = c.doc-item.result in
    let here : get_or xs l.doc-index d ≡ d = search rules in
    let next : take (l.doc-index + 1) xs ≡ take l.doc-index xs ++ d ∷ [] = take_more xs l.doc-index d (search rules)
    ∙ ap (λ x. take l.doc-index xs ++ x ∷ []) here in (
      subst (λ ds. NamesAscendInItems (items_seen ds)) (sym next)
          (items_ascend-push (take l.doc-index xs) d l.invariant.0 c.lawful.ensures.0),
      subst (λ ds. AreShortItems (items_seen ds)) (sym next)
          (items_short-push (take l.doc-index xs) d l.invariant.1 c.lawful.ensures.1),
    )

pub invariant_of-result : goal.invariant_of-result
invariant_of-result c =
    let l = c.loop-doc in
    let v = c.args.items in
    let all : take l.doc-index c.deref-doc-items.result.now ≡ v.items =
    take_all l.doc-index c.deref-doc-items.result.now (search rules) ∙ c.deref-doc-items.ensures.value in (
      subst (λ ds. NamesAscendInItems (items_seen ds)) all l.invariant.0,
      (
        count_short v.items (omega (arith, v.ok.0, v.ok.1, v.small)),
        subst
            (λ ds. AreShortItems (items_seen ds)) all l.invariant.1,
      ),
    )
