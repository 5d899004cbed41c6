use Rattle.std.proofs.Common.{◌<◌, ℕ, List, bytes_eq, map, sym, ap, ◌∙◌, subst}
use Rattle.js_doc.specs.Members.{get}
use Rattle.js_doc.specs.Seen.{value_of, pair_of}
use Rattle.js_doc.specs.declared.doc.Doc.{Doc}
use Rattle.js_doc.proofs.TokenLookup.{is_text-sound}
use Rattle.js_upgrade.specs.code.Initials.{initial}
use Rattle.js_upgrade.proofs.FirstNames.{first_passed, first_there, not_there, rest_ascends}
use Rattle.js_upgrade.proofs.Loops.{all_seen}
use Rattle.js_upgrade.proofs.lookup.found_early.Goals as goal

pub returns-then-initial : goal.returns-then-initial
returns-then-initial c =
    let l = c.loop-key in
    let k = c.args.name.now in
    let m : List ℕ × Doc = (c.in-Some.key.now, c.in-Some.value.now) in
    let low = subst (λ x. x < initial m.0) c.initial.ensures (subst (λ y. c.initial.result < y)
    (c.initial-in-loop-key.ensures ∙ ap initial c.as_str-key.ensures) c.if-initial.true) in
    let seen = all_seen c.pairs-key-items.ensures.pairs c.into_iter-key-iterator.ensures.into_iter_gives in
    not_there k m.0 (value_of m.1) (map pair_of l.key-iterator) (map pair_of c.next.new.self)
    (ap (map pair_of) c.in-Some.ensures.steps) l.invariant.1 low ∙ l.invariant.0 ∙ ap (get k) seen

pub returns-then-eq : goal.returns-then-eq
returns-then-eq c =
    let l = c.loop-key in
    let k = c.args.name.now in
    let m : List ℕ × Doc = (c.in-Some.key.now, c.in-Some.value.now) in
    let same = sym c.as_str-key.ensures ∙ is_text-sound c.as_str-key.result.now k (sym c.if-eq.ensures) in
    let seen = all_seen c.pairs-key-items.ensures.pairs c.into_iter-key-iterator.ensures.into_iter_gives in
    first_there k m.0 (value_of m.1) (map pair_of l.key-iterator) (map pair_of c.next.new.self)
    (ap (map pair_of) c.in-Some.ensures.steps) same ∙ l.invariant.0 ∙ ap (get k) seen

pub loop-key-preserved : goal.loop-key-preserved
loop-key-preserved c =
    let l = c.loop-key in
    let k = c.args.name.now in
    let m : List ℕ × Doc = (c.in-Some.key.now, c.in-Some.value.now) in
    let steps = ap (map pair_of) c.in-Some.ensures.steps in
    let other = ap (λ n. bytes_eq n k) (sym c.as_str-key.ensures) ∙ sym c.if-eq.ensures in (
      first_passed k m.0 (value_of m.1) (map pair_of l.key-iterator) (map pair_of c.next.new.self) steps other
          ∙ l.invariant.0,
      rest_ascends (pair_of m) (map pair_of l.key-iterator) (map pair_of c.next.new.self) steps l.invariant.1,
    )
