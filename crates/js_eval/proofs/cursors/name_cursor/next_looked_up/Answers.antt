use Rattle.std.proofs.Common.{◌≡◌, ◌∷◌, suc, Some, None, option_map, drop, length, map}
use Rattle.std.proofs.Common.{ℕ, List, ap, subst, sym, ◌∙◌, arith}
use Rattle.js_doc.specs.Members.{IsAscending, get}
use Rattle.js_doc.specs.Seen.{pair_of, value_of}
use Rattle.js_doc.specs.declared.doc.Doc.{Doc}
use Rattle.js_eval.specs.code.NamesLeft.{names_left}
use Rattle.js_eval.proofs.AskedNothing.{none_named}
use Rattle.js_eval.proofs.NamesLeft.{look_up, next_left, pass_by}
use Rattle.js_eval.proofs.cursors.name_cursor.next_looked_up.Goals as goal

pub returns-in-Some-get-clause-next : goal.returns-in-Some-get-clause-next
returns-in-Some-get-clause-next c =
    let n : List ℕ × Doc = (c.in-Some.name.now, c.in-Some.schema.now) in let rest = c.next.new.self in
    let members = c.args.members.now in let l = c.loop-name in let ascend : IsAscending (map pair_of (n ∷ rest)) =
    subst (λ ns. IsAscending (map pair_of ns)) c.in-Some.ensures.steps l.invariant.ascend in
    let found : get (pair_of n).0 members ≡ Some (value_of c.in-Some-get.member.now) =
    ap (λ k. get k members) (sym c.as_str-name.ensures) ∙ sym c.get.ensures
    ∙ ap (option_map (λ d. value_of d.now)) c.in-Some-get.is in
    sym l.invariant.same ∙ ap (names_left members) c.in-Some.ensures.steps
    ∙ look_up (pair_of n) (map pair_of rest) members _ found ascend c.requires.ascend.1
    ∙ ap (λ k. (k, value_of c.in-Some-get.member.now) ∷ names_left members rest) (sym c.as_str-name.ensures)

pub returns-in-Some-get-clause-left : goal.returns-in-Some-get-clause-left
returns-in-Some-get-clause-left c = λ all h.
    let x : List ℕ × Doc = (c.in-Some.name.now, c.in-Some.schema.now) in
    let first : pair_of x ∷ map pair_of c.next.new.self ≡ drop c.loop-name.rank all =
    sym (ap (map pair_of) c.in-Some.ensures.steps) ∙ c.loop-name.invariant.left all h in
    let more = next_left all c.loop-name.rank (pair_of x) (map pair_of c.next.new.self) first in
    (more.0, more.1 ∙ ap (λ n. Some (n, value_of c.in-Some.schema.now)) (sym c.as_str-name.ensures))

pub returns-in-Some-get-clause-ascend : goal.returns-in-Some-get-clause-ascend
returns-in-Some-get-clause-ascend c =
    (subst (λ ns. IsAscending (map pair_of ns)) c.in-Some.ensures.steps c.loop-name.invariant.ascend).1

pub loop-name-preserved : goal.loop-name-preserved
loop-name-preserved c =
    let n : List ℕ × Doc = (c.in-Some.name.now, c.in-Some.schema.now) in let rest = c.next.new.self in
    let members = c.args.members.now in let l = c.loop-name in let ascend : IsAscending (map pair_of (n ∷ rest)) =
    subst (λ ns. IsAscending (map pair_of ns)) c.in-Some.ensures.steps l.invariant.ascend in
    let none : get (pair_of n).0 members ≡ None =
    ap (λ k. get k members) (sym c.as_str-name.ensures) ∙ sym c.get.ensures
    ∙ ap (option_map (λ d. value_of d.now)) c.in_default-get.is in
    let many : length l.names ≡ suc (length rest) = ap length c.in-Some.ensures.steps in
    record {
      can = (tt, tt);
      same = sym (ap (names_left members) c.in-Some.ensures.steps
          ∙ pass_by (pair_of n) (map pair_of rest) members none ascend c.requires.ascend.1) ∙ l.invariant.same;
      left = λ all h.
          let first : pair_of n ∷ map pair_of rest ≡ drop l.rank all = sym (ap (map pair_of) c.in-Some.ensures.steps)
          ∙ l.invariant.left all h in
          (next_left all l.rank (pair_of n) (map pair_of rest) first).0;
      few = omega (arith, many, l.invariant.few);
      ascend = ascend.1;
    }

pub returns-clause-next : goal.returns-clause-next
returns-clause-next c =
    let members = c.args.members.now in
    sym c.loop-name.invariant.same ∙ ap (names_left members) c.in_default.ensures.steps.0 ∙ none_named members
