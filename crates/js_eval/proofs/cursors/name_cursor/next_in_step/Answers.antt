use Rattle.std.proofs.Common.{◌≡◌, ◌∷◌, suc, Some, ℕ, List, Equal, drop, length, map}
use Rattle.std.proofs.Common.{refl, ap, ap₂, subst, sym, ◌∙◌, arith}
use Rattle.js_doc.specs.Members.{IsAscending, name_cmp}
use Rattle.js_doc.specs.Seen.{pair_of, value_of}
use Rattle.js_doc.specs.declared.doc.Doc.{Doc}
use Rattle.js_eval.specs.code.NamesLeft.{names_left}
use Rattle.js_eval.proofs.AskedNothing.{none_named}
use Rattle.js_eval.proofs.NamesLeft.{left_behind, member_passed, name_passed, next_left, take_both}
use Rattle.js_eval.proofs.cursors.name_cursor.next_in_step.Goals as goal

pub returns-in_err-name-clause-next : goal.returns-in_err-name-clause-next
returns-in_err-name-clause-next c =
    rw c.from_residual.ensures (ap (names_left (map pair_of c.args.members.now)) c.in_err-name.ensures.steps.0
    ∙ none_named (map pair_of c.args.members.now))

pub returns-in_err-key-clause-left : goal.returns-in_err-key-clause-left
returns-in_err-key-clause-left c = λ all h.
    let n : List ℕ × Doc = (c.in_ok-name.name.now, c.in_ok-name.schema.now) in
    let first : pair_of n ∷ map pair_of c.next.new.self
    ≡ drop c.args.rank.now all = sym (ap (map pair_of) c.in_ok-name.ensures.steps) ∙ h in (
      (next_left all c.args.rank.now (pair_of n) (map pair_of c.next.new.self) first).0,
      rw
          c.from_residual-in_err-key.ensures tt,
    )

pub returns-in_err-name-in-Less-clause-next : goal.returns-in_err-name-in-Less-clause-next
returns-in_err-name-in-Less-clause-next c =
    let l = c.loop-names in let n : List ℕ × Doc = (l.name.now, l.schema.now) in
    let m : List ℕ × Doc = (l.key.now, l.member.now) in
    let passed = name_passed n m l.names l.members _ _ _ _ c.name_order.ensures c.as_str.ensures
    c.as_str-in-loop-names.ensures c.in-Less.is l.invariant.members l.invariant.same in
    rw c.from_residual-in_err-name-in-Less.ensures
    (sym passed ∙ ap (names_left (map pair_of (m ∷ l.members))) c.in_err-name-in-Less.ensures.steps.0
    ∙ none_named (map pair_of (m ∷ l.members)))

pub returns-in_err-name-in-Less-clause-left : goal.returns-in_err-name-in-Less-clause-left
returns-in_err-name-in-Less-clause-left c = λ all h.
    let l = c.loop-names in let n : List ℕ × Doc = (l.name.now, l.schema.now) in
    let behind = left_behind all l.at l.rank (pair_of n) (map pair_of l.names) l.invariant.rank
    (l.invariant.left all h) in (
      ap (map pair_of) (c.in_err-name-in-Less.ensures.steps.1 ∙ sym c.in_err-name-in-Less.ensures.steps.0)
          ∙ behind,
      rw c.from_residual-in_err-name-in-Less.ensures tt,
    )

pub loop-names-preserved-in-Less : goal.loop-names-preserved-in-Less
loop-names-preserved-in-Less c =
    let l = c.loop-names in let n : List ℕ × Doc = (l.name.now, l.schema.now) in
    let m : List ℕ × Doc = (l.key.now, l.member.now) in
    let passed = name_passed n m l.names l.members _ _ _ _ c.name_order.ensures c.as_str.ensures
    c.as_str-in-loop-names.ensures c.in-Less.is l.invariant.members l.invariant.same in
    let steps = c.in_ok-name-in-Less.ensures.steps in
    let many : length l.names ≡ suc (length c.next-in-Less.new.self) = ap length steps in
    record {
      same = ap (names_left (map pair_of (m ∷ l.members))) (sym steps) ∙ passed;
      left = λ all h. sym (ap (map pair_of) steps)
          ∙ (next_left all l.at (pair_of n) (map pair_of l.names) (l.invariant.left all h)).0;
      rank = refl;
      few = omega (arith, many, l.invariant.rank, l.invariant.few);
      names = subst (λ ns. IsAscending (map pair_of ns)) steps l.invariant.names.1;
      members = l.invariant.members;
    }

pub returns-in-Equal-clause-next : goal.returns-in-Equal-clause-next
returns-in-Equal-clause-next c =
    let l = c.loop-names in let n : List ℕ × Doc = (l.name.now, l.schema.now) in
    let m : List ℕ × Doc = (l.key.now, l.member.now) in
    let equal : name_cmp (pair_of n).0 (pair_of m).0 ≡ Equal = sym (c.name_order.ensures
    ∙ ap₂ name_cmp c.as_str.ensures c.as_str-in-loop-names.ensures) ∙ c.in-Equal.is in
    sym l.invariant.same ∙ take_both (pair_of n) (pair_of m) (map pair_of l.names) (map pair_of l.members)
    equal l.invariant.members
    ∙ ap (λ k. (k, value_of l.member.now) ∷ names_left (map pair_of l.members) l.names)
    (sym c.as_str-in-Equal.ensures)

pub returns-in-Equal-clause-left : goal.returns-in-Equal-clause-left
returns-in-Equal-clause-left c = λ all h.
    let l = c.loop-names in let n : List ℕ × Doc = (l.name.now, l.schema.now) in
    let more = next_left all l.at (pair_of n) (map pair_of l.names) (l.invariant.left all h) in (
      more.0 ∙ ap (λ r. drop r all) (sym l.invariant.rank),
      more.1 ∙ ap (λ k. Some (k, value_of l.schema.now)) (sym c.as_str-in-Equal.ensures),
    )

pub returns-in_err-key-in-Greater-clause-next : goal.returns-in_err-key-in-Greater-clause-next
returns-in_err-key-in-Greater-clause-next c =
    let l = c.loop-names in let n : List ℕ × Doc = (l.name.now, l.schema.now) in
    let m : List ℕ × Doc = (l.key.now, l.member.now) in
    let passed = member_passed n m l.names l.members _ _ _ _ c.name_order.ensures c.as_str.ensures
    c.as_str-in-loop-names.ensures c.in-Greater.is l.invariant.names l.invariant.same in
    rw c.from_residual-in_err-key-in-Greater.ensures
    (sym passed ∙ ap (λ ms. names_left (map pair_of ms) (n ∷ l.names)) c.in_err-key-in-Greater.ensures.steps.0)

pub returns-in_err-key-in-Greater-clause-left : goal.returns-in_err-key-in-Greater-clause-left
returns-in_err-key-in-Greater-clause-left c = λ all h.
    let l = c.loop-names in let n : List ℕ × Doc = (l.name.now, l.schema.now) in (
      left_behind all l.at l.rank (pair_of n) (map pair_of l.names) l.invariant.rank (l.invariant.left all h),
      rw
          c.from_residual-in_err-key-in-Greater.ensures tt,
    )

pub loop-names-preserved : goal.loop-names-preserved
loop-names-preserved c =
    let l = c.loop-names in let n : List ℕ × Doc = (l.name.now, l.schema.now) in
    let m : List ℕ × Doc = (l.key.now, l.member.now) in
    let passed = member_passed n m l.names l.members _ _ _ _ c.name_order.ensures c.as_str.ensures
    c.as_str-in-loop-names.ensures c.in-Greater.is l.invariant.names l.invariant.same in
    let steps = c.in_ok-key-in-Greater.ensures.steps in
    record {
      same = ap (λ ms. names_left (map pair_of ms) (n ∷ l.names)) (sym steps) ∙ passed;
      left = l.invariant.left;
      rank = l.invariant.rank;
      few = l.invariant.few;
      names = l.invariant.names;
      members = subst (λ ms. IsAscending (map pair_of ms)) steps l.invariant.members.1;
    }
