use Rattle.std.proofs.Common.{◌≡◌, ◌-◌, ◌<◌, [], ◌∷◌, ◌++◌, length, Some, None, IfSome, Ok, option_map}
use Rattle.std.proofs.Common.{refl, sym, ap, ◌∙◌, subst, arith, rules}
use Rattle.json.proofs.Grammar.{value_is, value-begin_array, value-begin_object, read_key-shorter}
use Rattle.json.specs.Json.{parse_map, after_end_array, read_key, items, members, value}
use Rattle.json.specs.Reads.{token_of}
use Rattle.serde_json.specs.Data as tree
use Rattle.serde_json.specs.Read.{of_json, converted}
use Rattle.js_doc.specs.Members.{put}
use Rattle.js_doc.specs.Seen.{items_seen, value_of}
use Rattle.js_doc.specs.Value as doc
use Rattle.js_doc.specs.WholeNumbers.{found_map}
use Rattle.js_doc.specs.code.FromTokens.{IsNextValue, AreNextItems, AreNextMembers}
use Rattle.js_doc.proofs.Finding.{snoc_items_seen}
use Rattle.js_doc.proofs.FromTokens.{before, one_more, items_in_more, put_in, number_next}
use Rattle.js_doc.proofs.TokenLoops.{array_converted, object_converted, next_item}
use Rattle.js_doc.proofs.TokenLoops.{items_done, next_member, members_done}
use Rattle.js_doc.proofs.from_tokens.+next.Goals as goal

-- ---- a value

pub next_value-returns-in_ok-text-in-String-clause-is : goal.next_value-returns-in_ok-text-in-String-clause-is
next_value-returns-in_ok-text-in-String-clause-is t c =
    let rest = c.next.new.self in
    let is = c.in-Some.ensures.value ∙ ap (λ k. token_of k ∷ rest) c.in-String.is in
    let same : c.in-String.text.now ≡ c.in_ok-text-in-String.text = search rules in (
      tree.string c.in-String.text.now,
      ap (converted of_json) (ap (value c.args.depth) is ∙ value_is c.args.depth _),
      ap (λ s. Ok (doc.text s)) same,
    )

pub next_value-returns-in-Number-clause-is : goal.next_value-returns-in-Number-clause-is
next_value-returns-in-Number-clause-is t c =
    let rest = c.next.new.self in
    let is = c.in-Some.ensures.value ∙ ap (λ k. token_of k ∷ rest) c.in-Number.is in
    number_next c.whole_of.result value_of c.args.depth _ rest c.in-Number.text.now is c.whole_of.ensures

pub next_value-returns-in-Bool-clause-is : goal.next_value-returns-in-Bool-clause-is
next_value-returns-in-Bool-clause-is t c =
    let rest = c.next.new.self in
    let is = c.in-Some.ensures.value ∙ ap (λ k. token_of k ∷ rest) c.in-Bool.is in
    (tree.boolean c.in-Bool.b, ap (converted of_json) (ap (value c.args.depth) is ∙ value_is c.args.depth _), refl)

pub next_value-returns-in-Null-clause-is : goal.next_value-returns-in-Null-clause-is
next_value-returns-in-Null-clause-is t c =
    let rest = c.next.new.self in
    let is = c.in-Some.ensures.value ∙ ap (λ k. token_of k ∷ rest) c.in-Null.is in
    (tree.null, ap (converted of_json) (ap (value c.args.depth) is ∙ value_is c.args.depth _), refl)

pub next_value-returns-in-Some-2-clause-is : goal.next_value-returns-in-Some-2-clause-is
next_value-returns-in-Some-2-clause-is t c =
    let rest = c.next.new.self in let after = c.next_items.new.reader in
    let is = c.in-Some.ensures.value ∙ ap (λ k. token_of k ∷ rest) c.in-BeginArray.is in
    let opened = ap (converted of_json) (ap (value c.args.depth) is ∙ value-begin_array c.args.depth rest (omega arith))
    ∙ array_converted (items (value (c.args.depth - 1)) (length rest) rest) in
    let read = subst (λ o. IfSome o (λ v. AreNextItems (c.args.depth - 1) rest (items_seen v.items) after))
    c.in-Some-2.is c.in_ok-docs-in-BeginArray.ensures.are in (
      tree.array read.0,
      opened ∙ ap (parse_map tree.array) read.1,
      ap (found_map doc.list) read.2 ∙ ap (λ vs. Ok (doc.list (doc.items vs))) (sym c.new.ensures),
    )

pub next_value-returns-in-Some-3-clause-is : goal.next_value-returns-in-Some-3-clause-is
next_value-returns-in-Some-3-clause-is t c =
    let rest = c.next.new.self in let after = c.next_members.new.reader in
    let is = c.in-Some.ensures.value ∙ ap (λ k. token_of k ∷ rest) c.in-BeginObject.is in
    let opened = ap (converted of_json)
    (ap (value c.args.depth) is ∙ value-begin_object c.args.depth rest (omega arith))
    ∙ object_converted (members (value (c.args.depth - 1)) (length rest) rest) in
    let read = subst (λ o. IfSome o (λ m. AreNextMembers (c.args.depth - 1) rest (doc.members m) after))
    c.in-Some-3.is c.in_ok-members-in-BeginObject.ensures.are in
    (tree.object read.0, opened ∙ ap (parse_map tree.object) read.1, ap (found_map doc.object) read.2)

-- ---- the items of an array

pub next_items-items-preserved : goal.next_items-items-preserved
next_items-items-preserved t c =
    let l = c.items in let n = l.invariant.0 in let ds = l.invariant.3.0 in let r = c.next_value.new.reader in
    let s = c.take_end_array.new.self in
    let going : (after_end_array l.reader ≡ None) × (s ≡ l.reader) = grind arith in
    let read = subst (λ o. IfSome o (λ d. IsNextValue c.args.depth s (value_of d) r)) c.in-Some.is
    c.in_ok-doc.ensures.is in
    let shorter = subst (λ o. IfSome o (λ _. length r < length s)) c.in-Some.is c.in_ok-doc.ensures.shorter in
    let less : length r < length l.reader = rw (← going.1) shorter in
    let turn = next_item (value c.args.depth) n l.reader r read.0 (omega (arith, l.invariant.1, less)) going.0
    (rw (← going.1) read.1) in (
      n - 1,
      omega (arith, l.invariant.1, less),
      omega (arith, l.invariant.2, less),
      (
        ds ++ read.0 ∷ [],
        l.invariant.3.1 ∙ ap (parse_map (before ds)) turn ∙ one_more ds read.0 _,
        items_in_more 0 ds read.0 _ _ l.invariant.3.2 read.2
            ∙ ap Ok (sym (snoc_items_seen l.docs.items c.in-Some.doc) ∙ ap items_seen (sym c.in_ok-push.ensures.items)),
      ),
    )

pub next_items-returns-clause-are : goal.next_items-returns-clause-are
next_items-returns-clause-are t c =
    let l = c.items in let n = l.invariant.0 in let ds = l.invariant.3.0 in let r = c.take_end_array.new.self in
    let over = items_done (value c.args.depth) n l.reader r l.invariant.1 (grind arith) in
    (before ds tree.no_items, l.invariant.3.1 ∙ ap (parse_map (before ds)) over, l.invariant.3.2)

-- ---- the members of an object

pub next_members-members-init : goal.next_members-members-init
next_members-members-init t c =
    let none = ap (λ ms. Ok (doc.members ms)) (sym c.new-found.ensures) in
    (length c.args.reader.now, omega arith, omega arith, (tree.no_members, refl, none))

pub next_members-returns-in-None-clause-are : goal.next_members-returns-in-None-clause-are
next_members-returns-in-None-clause-are t c =
    let l = c.members in let n = l.invariant.0 in let ds = l.invariant.3.0 in let r = c.next_key.new.self in
    let ends : read_key l.reader ≡ Some (None, r) = c.in-Ok.ensures.value
    ∙ ap (λ k. Some (option_map (λ s. s.now) k, r)) c.in-None.is in
    (ds, l.invariant.3.1 ∙ members_done (value c.args.depth) ds n l.reader r l.invariant.1 ends, l.invariant.3.2)

pub next_members-members-preserved : goal.next_members-members-preserved
next_members-members-preserved t c =
    let l = c.members in let n = l.invariant.0 in let ds = l.invariant.3.0 in let r = c.next_value.new.reader in
    let k = c.in-Some.name.now in let s = c.next_key.new.self in
    let named : read_key l.reader ≡ Some (Some k, s) = c.in-Ok.ensures.value
    ∙ ap (λ o. Some (option_map (λ x. x.now) o, s)) c.in-Some.is in
    let read = subst (λ o. IfSome o (λ d. IsNextValue c.args.depth s (value_of d) r)) c.in-Some-2.is
    c.in_ok-doc-in-Some.ensures.is in
    let lesser = subst (λ o. IfSome o (λ _. length r < length s)) c.in-Some-2.is c.in_ok-doc-in-Some.ensures.shorter in
    let less = read_key-shorter l.reader (Some k) s named in
    let copied : c.in_ok-name-in-Some.name ≡ k = search rules in
    let added = c.in_ok-put-in-Some.ensures.ok ∙ ap (λ name. put name (value_of c.in-Some-2.doc) l.found) copied in (
      n - 1,
      omega (arith, l.invariant.1, less, lesser),
      omega (arith, l.invariant.2, less, lesser),
      (
        tree.put k read.0 ds,
        l.invariant.3.1 ∙ next_member (value c.args.depth) ds n k l.reader s r read.0
            (omega (arith, l.invariant.1, less)) named read.1,
        put_in k read.0 _ read.2 ds l.found l.invariant.3.2 ∙ ap (λ ms. Ok (doc.members ms)) (sym added),
      ),
    )
