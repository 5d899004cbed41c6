-- A schema none of whose keywords may apply schemas, for a reporter that takes any event.
use Rattle.std.specs.Prelude.{◌≡◌, ℕ, suc, ◌+◌, ◌<◌, Bool, true, false, ◌&&◌, List, [], None, map, refl}
use Rattle.std.proofs.Common.{sym, ◌∙◌, ap, arith}
use Rattle.js_doc.specs.Members.{IsAscending}
use Rattle.js_doc.specs.Value.{Value}
use Rattle.js_assert.specs.Argument.{entries}
use Rattle.js_tree.specs.Events.{Event}
use Rattle.js_eval.specs.Keywords.{keywords}
use Rattle.js_eval.specs.SchemaSet.{Text, SchemaSet}
use Rattle.js_eval.specs.Walk.Steps.{NodeDone}
use Rattle.js_eval.specs.Walk.Progress.{HasNone, IsStateRestored, accepts_at, keywords_at}
use Rattle.js_eval.specs.Walk.Visited.{AppliesNone, AreJudged}
use Rattle.js_eval.specs.declared.evaluation.tally.Others.{Others}
use Rattle.js_eval.specs.declared.evaluation.walk_state.WalkState.{WalkState}
use Rattle.js_eval.proofs.Recursion.KeywordByKeyword.{KeywordsSoFar, at_end, ended, ended_too_large}
use Rattle.js_eval.proofs.Recursion.AllKeywords.{node_unreported, node_walked}
use Rattle.js_eval.proofs.Recursion.KeywordByKeyword.{keywords_start}
use Rattle.js_eval.proofs.Recursion.Stepping.{kept_whole}

module _ {C P : Type 0} (S : SchemaSet P) (takes : C → Event → C
    → Type 0) (n : ℕ) (above : List P) (place : P) (v : Value) (none : AppliesNone S place) where
  -- all its keywords are behind when its node opens: none is visited
  pub all_behind : (names : List Text) (indexes : List ℕ) (valid : Bool) (old left : ℕ) (c : C)
      → valid ≡ accepts_at S place → left + 1 ≡ old
      → KeywordsSoFar S n above place v true (keywords (S.schema place)) [] valid None 0 names names
      indexes indexes old left
  unfolding AppliesNone accepts_at keywords_at
  all_behind names indexes valid old left c a e =
      (at_end S n above place v true takes valid None 0 names names indexes indexes old left [] [] c c (record {
        done = [];
        rest = keywords (S.schema place);
        are = sym none;
        so = keywords_start S n above place v true valid names indexes old left a e;
        reported = λ q at h. absurd (let z : true ≡ false = q in cc);
      })).so

  pub leaf_too_large : (o : Others) (valid : Bool) (old left : ℕ) (c : C) → valid ≡ accepts_at S place
      → AreJudged S place v 0 o.pass o.count → left + 1 ≡ old → left < o.count → HasNone S (suc n) above place v old
  leaf_too_large o valid old left c a judged e few =
      ended_too_large S n above place v true true refl o None 0 valid [] [] [] [] old left
      (all_behind [] [] valid old left c a e) judged few

  pub leaf_done : {M H K : Type 0} (text_of : M → Text) → IsAscending (entries (S.schema place))
      → ((c d : C) (e : Event) → takes c e d) → (o : Others) (valid : Bool) (w w₁ : WalkState M H K) (c : C)
      → valid ≡ accepts_at S place → AreJudged S place v 0 o.pass o.count → w₁.names.items ≡ w.names.items
      → w₁.indexes.items ≡ w.indexes.items → (w₁.left + o.count) + 1 ≡ w.left → IsStateRestored w w₁
      → NodeDone S text_of takes (suc n) above place v (valid && o.pass) w w₁ c c
  leaf_done text_of ascending any o valid w w₁ c a judged en ei left back =
      let names = map text_of w.names.items in
      let so = all_behind names w.indexes.items valid w.left (w₁.left + o.count) c a left in
      let all = ended S n above place v true true refl ascending o None 0 valid names names w.indexes.items
      w.indexes.items w.left (w₁.left + o.count) w₁.left so judged refl in
      let walked = node_walked S n above place v (valid && o.pass) names names (map text_of w₁.names.items)
      w.indexes.items w.indexes.items w₁.indexes.items w.left w₁.left all
      (ap (map text_of) en ∙ kept_whole (valid && o.pass) names) (ei ∙ kept_whole (valid && o.pass) w.indexes.items) in
      record {
        walked = walked;
        reported = λ at h. node_unreported S n above place v takes any at c c walked.settled;
        back = back;
        falls = omega (arith, left);
      }
