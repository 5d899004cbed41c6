-- If all keywords pass that apply no schemas, each assertion passes.
use Rattle.std.specs.Prelude.{◌≡◌, ℕ, Bool, true, false, not, ◌&&◌, ◌||◌, cond, List, [], ◌∷◌, ◌++◌, filter, refl}
use Rattle.std.specs.List.{list_all}
use Rattle.std.proofs.Common.{sym, ◌∙◌, ap, arith, length}
use Rattle.std.proofs.lemmas.List.Elements.{filter-append}
use Rattle.std.proofs.lemmas.List.Folds.{list_all-append}
use Rattle.js_doc.specs.Value.{Value}
use Rattle.js_eval.specs.Keywords.{Member}
use Rattle.js_keyword.specs.Keyword.{which_keyword}
use Rattle.js_eval.specs.SchemaSet.{SchemaSet}
use Rattle.js_eval.specs.Walk.Steps.{IsJudged}
use Rattle.js_eval.specs.Walk.Progress.{keywords_at, kind_at, passes_at}
use Rattle.js_eval.specs.code.Leaves.{is_assertion}
use Rattle.js_eval.specs.Walk.Visited.{AreJudged, IsListed, is_visited, may_apply}
use Rattle.js_keyword.specs.declared.keyword.Keyword.{Keyword}
use Rattle.js_keyword.specs.declared.keyword.Keyword.TheVariants.{Assertion}

left_holds : (a b : Bool) → (a && b) ≡ true → a ≡ true
left_holds true b e = refl
left_holds false b e = e

right_holds : (a b : Bool) → (a && b) ≡ true → b ≡ true
right_holds true b e = e
right_holds false b e = absurd (let z : false ≡ true = e in cc)

-- what all have that pass a test, one has that passes it
module _ (p q : Member → Bool) where
  first_holds : (b : Bool) (k : Member) (ks : List Member) → q k ≡ b → b ≡ true
      → list_all p (cond b (k ∷ filter q ks) (filter q ks)) ≡ true → p k ≡ true
  first_holds true k ks e t h = left_holds (p k) (list_all p (filter q ks)) h
  first_holds false k ks e t h = absurd (let z : false ≡ true = t in cc)

  one_holds : (before after : List Member) (k : Member) → q k ≡ true
      → list_all p (filter q (before ++ k ∷ after)) ≡ true → p k ≡ true
  one_holds before after k t h =
      let parts : (list_all p (filter q before) && list_all p (filter q (k ∷ after))) ≡ true =
      sym (list_all-append p (filter q before) (filter q (k ∷ after)))
      ∙ (ap (list_all p) (sym (filter-append q before (k ∷ after))) ∙ h) in
      first_holds (q k) k after refl t
      (right_holds (list_all p (filter q before)) (list_all p (filter q (k ∷ after))) parts)

not_visited : (κ : Keyword) → is_assertion κ ≡ true → not (not true || may_apply κ) ≡ true
not_visited (Assertion _) e = refl
not_visited _ e = cc

passes_alone : {P : Type 0} (S : SchemaSet P) (place : P) (v : Value) (k : Member) (matching count : ℕ)
    → AreJudged S place v matching true count → IsListed S place k → is_assertion (kind_at k) ≡ true
    → passes_at S place v matching k [] ≡ true
unfolding keywords_at kind_at is_visited
passes_alone S place v k matching count judged (before, after, split) e =
    let all = judged.verdict in
    one_holds (λ x. passes_at S place v matching x []) (λ x. not (is_visited true x)) before after k
    (not_visited (which_keyword k.0) e)
    (ap (λ ks. list_all (λ x. passes_at S place v matching x [])
    (filter (λ x. not (is_visited true x)) ks)) split ∙ sym all)

pub judged_together : {P : Type 0} (S : SchemaSet P) (place : P) (v : Value) (k : Member) (matching count : ℕ)
    → AreJudged S place v matching true count → IsListed S place k → is_assertion (kind_at k) ≡ true
    → IsJudged S place v k matching (record { asked = 0; succeeded = 0 }) true
judged_together S place v k matching count judged listed e [] l h =
    sym (passes_alone S place v k matching count judged listed e)
judged_together S place v k matching count judged listed e (b ∷ bs) l h =
    absurd (let z : length (b ∷ bs) ≡ 0 = l in omega (arith, z))
