use Rattle.std.proofs.Common.{◌≡◌, ◌+◌, [], ◌∷◌, ◌++◌, length, Ok, string_bytes, decimal}
use Rattle.std.proofs.Common.{sym, ap, ◌∙◌, subst, append_assoc, arith}
use Rattle.std.proofs.lemmas.List.{length_push}
use Rattle.std.specs.List.Sorted.{IsStrictlySortedBy}
use Rattle.std.specs.Map.{keys_of}
use Rattle.std.specs.String.{string_cmp}
use Rattle.serde_json.specs.View.{view, items_view, members_view}
use Rattle.js_doc.specs.Value.{members}
use Rattle.js_doc.specs.Members.{put}
use Rattle.js_doc.specs.Seen.{items_seen, value_of}
use Rattle.js_doc.specs.code.Places.{IsAboveAll}
use Rattle.js_doc.specs.WholeNumbers.{value_in, items_in, members_in}
use Rattle.js_doc.specs.Reading.{Lifts}
use Rattle.js_doc.proofs.Finding.{Entry, items_extend, items_stop, snoc_items_seen, members_extend}
use Rattle.js_doc.proofs.Finding.{members_stop, above_found, lifted_stops}
use Rattle.js_doc.proofs.conversion.+convert.Goals as goal

pub convert_items-loop-value-preserved : goal.convert_items-loop-value-preserved
convert_items-loop-value-preserved t c =
    let l = c.loop-value in let done = l.invariant.0 in let v = c.in-Some.value in
    let left = c.next.new.self.rest.items in let all : c.args.values.items ≡ done ++ v ∷ left = l.invariant.1
    ∙ ap (λ ws. done ++ ws) c.in-Some.ensures.steps.0 in
    let pushed = c.push_reserved.ensures.items in (
      done ++ v ∷ [],
      all ∙ sym (append_assoc done (v ∷ []) left),
      items_extend 0 done v _ _ l.invariant.2 c.in-Ok.ensures.ok
          ∙ ap Ok (sym (snoc_items_seen l.docs.items c.in-Ok.doc) ∙ ap items_seen (sym pushed)),
      ap length pushed ∙ length_push l.docs.items c.in-Ok.doc ∙ ap (λ n. n + 1) l.invariant.3
          ∙ sym (length_push done v),
      omega (arith, l.invariant.4, c.push_reserved.ensures.capacity),
    )

pub convert_items-returns-in-Err-clause-err : goal.convert_items-returns-in-Err-clause-err
convert_items-returns-in-Err-clause-err t c =
    let l = c.loop-value in let done = l.invariant.0 in let v = c.in-Some.value in
    let left = c.next.new.self.rest.items in let all : c.args.values.items ≡ done ++ v ∷ left = l.invariant.1
    ∙ ap (λ ws. done ++ ws) c.in-Some.ensures.steps.0 in
    let named = c.in_ok-index_token-in-Err.ensures ∙ ap decimal (c.len-in-Err.ensures ∙ l.docs.ok.0) in
    let so_far : length l.docs.items ≡ 0 + length done = omega (arith, l.invariant.3) in
    lifted_stops (items_in 0 (items_view c.args.values.items)) (value_in (view v)) (decimal (length l.docs.items))
    c.in-Err.fault c.lifted.result c.in-Err.ensures.err
    (subst (λ k. Lifts k c.in-Err.fault c.lifted.result) named c.lifted.ensures)
    (λ p e. ap (λ ws. items_in 0 (items_view ws)) all ∙ items_stop 0 _ done v left _ p l.invariant.2 e so_far)

pub convert_members-push-requires : goal.convert_members-push-requires
convert_members-push-requires t c =
    let l = c.loop-name in
    let done = l.invariant.0 in
    let e : Entry = (c.in-Some.name, c.in-Some.value) in
    let left = c.next.new.self in
    let all : c.args.map.entries ≡ done ++ e ∷ left = l.invariant.1 ∙ ap (λ es. done ++ es) c.in-Some.ensures.steps in
    let above = above_found done e left l.members l.invariant.2
    (subst (λ es. IsStrictlySortedBy string_cmp (keys_of es)) all
    c.into_iter-name-iterator.ensures.into_iter_gives.5) in
    subst (λ k. IsAboveAll k l.members) (sym c.new.ensures) above

pub convert_members-loop-name-preserved : goal.convert_members-loop-name-preserved
convert_members-loop-name-preserved t c =
    let l = c.loop-name in
    let done = l.invariant.0 in
    let e : Entry = (c.in-Some.name, c.in-Some.value) in
    let left = c.next.new.self in
    let all : c.args.map.entries ≡ done ++ e ∷ left = l.invariant.1 ∙ ap (λ es. done ++ es) c.in-Some.ensures.steps in (
      done ++ e ∷ [],
      all ∙ sym (append_assoc done (e ∷ []) left),
      members_extend done e left l.members _ l.invariant.2 c.in-Ok.ensures.ok (subst
          (λ es. IsStrictlySortedBy string_cmp (keys_of es)) all c.into_iter-name-iterator.ensures.into_iter_gives.5)
          ∙ ap (λ k. Ok (members (put k (value_of c.in-Ok.doc) l.members))) (sym c.new.ensures)
          ∙ ap (λ ms. Ok (members ms)) (sym c.in_ok-push-in-Ok.ensures.ok),
    )

pub convert_members-returns-in-Err-clause-err : goal.convert_members-returns-in-Err-clause-err
convert_members-returns-in-Err-clause-err t c =
    let l = c.loop-name in
    let done = l.invariant.0 in
    let e : Entry = (c.in-Some.name, c.in-Some.value) in
    let left = c.next.new.self in
    let all : c.args.map.entries ≡ done ++ e ∷ left = l.invariant.1 ∙ ap (λ es. done ++ es) c.in-Some.ensures.steps in
    lifted_stops _ (value_in (view e.1)) (string_bytes e.0) c.in-Err.fault c.lifted.result c.in-Err.ensures.err
    (subst (λ k. Lifts k c.in-Err.fault c.lifted.result) c.new-in-Err.ensures c.lifted.ensures)
    (λ p is. ap (λ es. members_in (members_view es)) all ∙ members_stop done e left _ p l.invariant.2 is)
