-- Which keywords a walk visits one by one. A walk that reports nothing, a quiet one, visits those alone that may apply
-- schemas (Core, sections 8.2.3, 10 and 11), and judges all others together.
use Rattle.std.specs.Prelude.{◌≡◌, ℕ, Bool, true, false, not, ◌||◌, List, [], ◌∷◌, ◌++◌, filter, length}
use Rattle.std.specs.List.{list_all}
use Rattle.js_doc.specs.Value.{Value}
use Rattle.js_eval.specs.Keywords.{Member, keywords}
use Rattle.js_keyword.specs.Keyword.{which_keyword}
use Rattle.js_eval.specs.SchemaSet.{SchemaSet}
use Rattle.js_keyword.specs.declared.keyword.Keyword.{Keyword}
use Rattle.js_keyword.specs.declared.keyword.Keyword.TheVariants.{Assertion, Other}
use Rattle.js_eval.specs.declared.evaluation.tally.Others.{Others}
use Rattle.js_eval.specs.declared.evaluation.tally.Together.{Together}
use Rattle.js_eval.specs.Walk.Progress.{keywords_at, passes_at}

-- a keyword of this kind may apply schemas
abbrev pub may_apply : Keyword → Bool
may_apply (Assertion _) = false
may_apply (Other _) = false
may_apply _ = true

unfoldable pub is_visited : Bool → Member → Bool
is_visited quiet k = not quiet || may_apply (which_keyword k.0)

module _ {Place : Type 0} (S : SchemaSet Place) (place : Place) where
  -- the keywords of a place that a quiet walk doesn't visit
  abbrev pub others_at : List Member
  others_at = filter (λ k. not (is_visited true k)) (keywords_at S place)

  -- this is whether all of them pass, and how many there are, given how many items match the adjacent `contains`
  pub record AreJudged (v : Value) (matching : ℕ) (pass : Bool) (count : ℕ) : Type 0 where
    pub verdict : pass ≡ list_all (λ k. passes_at S place v matching k []) others_at
    pub many : count ≡ length others_at

  -- what is judged after those that are visited: nothing, if all are
  abbrev pub AreJudgedIf : Bool → Value → ℕ → Others → Type 0
  AreJudgedIf true v matching o = AreJudged v matching o.pass o.count
  AreJudgedIf false v matching o = (o.pass ≡ true) × (o.count ≡ 0)

  -- no keyword of the place may apply schemas, so that a quiet walk visits none
  unfoldable pub AppliesNone : Type 0
  AppliesNone = filter (is_visited true) (keywords_at S place) ≡ []

  -- it is one of the keywords that have a node
  abbrev pub IsListed : Member → Type 0
  IsListed k = (before : List Member) × (after : List Member) × (before ++ k ∷ after ≡ keywords (S.schema place))

  -- what is known of those that a quiet walk doesn't visit, if anything is
  abbrev pub AreTogether : Value → Together → Type 0
  AreTogether v t = t.known ≡ true → (count : ℕ) × AreJudged v t.matching t.pass count
