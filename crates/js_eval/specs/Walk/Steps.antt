-- What the steps of a walk do to its state and to its reporter.
use Rattle.std.specs.Prelude.{◌≡◌, ℕ, ◌+◌, ◌<◌, ◌≤◌, Bool, cond, List, [], ◌∷◌, ◌++◌}
use Rattle.std.specs.Prelude.{Some, None, map, take, drop, length}
use Rattle.js_doc.specs.Value.{Value}
use Rattle.js_eval.specs.Applications.{Application}
use Rattle.js_eval.specs.Evaluated.{name_in_step, index_in_step, names_origin, indexes_origin}
use Rattle.js_eval.specs.Keywords.{Member}
use Rattle.js_eval.specs.Location.{Location}
use Rattle.js_eval.specs.Passes.{how_many}
use Rattle.js_eval.specs.SchemaSet.{Text, SchemaSet}
use Rattle.js_keyword.specs.declared.keyword.Keyword.{Keyword}
use Rattle.js_tree.specs.Events.{Event, opening, closing}
use Rattle.js_eval.specs.Walk.Keeping.{keeps}
use Rattle.js_eval.specs.Walk.Progress.{IsAt, IsStateRestored, NodeWalked, NodeReported, KeywordWalked, KeywordReported}
use Rattle.js_eval.specs.Walk.Progress.{EachWalked, EachReported, passes_at, says_at, schema_says, at_name, at_step}
use Rattle.js_eval.specs.Walk.DynamicScope.{HasGrown}
use Rattle.js_eval.specs.declared.evaluation.walk_state.Mark.{Mark}
use Rattle.js_eval.specs.declared.evaluation.walk_state.Start.{Start}
use Rattle.js_eval.specs.declared.evaluation.tally.Tally.{Tally}
use Rattle.js_eval.specs.declared.evaluation.tally.KeywordVerdict.{KeywordVerdict}
use Rattle.js_eval.specs.declared.evaluation.walk_state.WalkState.{WalkState}

-- the lengths of the lists and of the dynamic scope
pub record StartOf {M H K : Type 0} (w : WalkState M H K) (start : Start) : Type 0 where
  pub names : start.names ≡ length w.names.items
  pub indexes : start.indexes ≡ length w.indexes.items
  pub scope : start.scope ≡ length w.scope

-- the lengths of the lists and of the trails
pub record MarkOf {M H K : Type 0} (len : K → ℕ) (w : WalkState M H K) (mark : Mark K) : Type 0 where
  pub names : mark.names ≡ length w.names.items
  pub indexes : mark.indexes ≡ length w.indexes.items
  pub keyword : len mark.keyword ≡ length w.keyword
  pub instance : len mark.instance ≡ length w.instance

pub record WentDown {M H K P : Type 0} (a : Application P) (w w' : WalkState M H K) : Type 0 where
  pub path : w'.path ≡ w.path
  pub scope : w'.scope ≡ w.scope
  pub keyword : w'.keyword ≡ at_step w.keyword a.step
  pub instance : w'.instance ≡ at_step w.instance a.at
  pub names : w'.names.items ≡ w.names.items
  pub indexes : w'.indexes.items ≡ w.indexes.items
  pub left : w'.left ≡ w.left

pub record CameBack {M H K P : Type 0} (text_of : M → Text) (len : K
    → ℕ) (κ : Keyword) (a : Application P) (here : Mark K) (holds : Bool) (w w' : WalkState M H K) : Type 0 where
  pub path : w'.path ≡ w.path
  pub scope : w'.scope ≡ w.scope
  pub keyword : w'.keyword ≡ take (len here.keyword) w.keyword
  pub instance : w'.instance ≡ take (len here.instance) w.instance
  pub names : map text_of w'.names.items ≡ take here.names (map text_of w.names.items)
      ++ keeps (names_origin κ) holds (name_in_step a.at) (drop here.names (map text_of w.names.items))
  pub indexes : w'.indexes.items ≡ take here.indexes w.indexes.items
      ++ keeps (indexes_origin κ) holds (index_in_step a.at) (drop here.indexes w.indexes.items)
  pub left : w'.left ≡ w.left

-- this is whether a keyword passes, of which this many applications hold
abbrev pub IsJudged : {P : Type 0} → SchemaSet P → P → Value → Member → ℕ → Tally → Bool → Type 0
IsJudged S site v k matching tally passes =
    (verdicts : List Bool) → length verdicts ≡ tally.asked → how_many verdicts ≡ tally.succeeded
    → passes ≡ passes_at S site v matching k verdicts

module _ {M H K C P : Type 0} (S : SchemaSet P) (text_of : M → Text) (takes : C → Event → C → Type 0) where
  pub record SchemaOpened (site : P) (place resource : ℕ) (w w' : WalkState M H K) (c d : C) : Type 0 where
    pub path : w'.path ≡ w.path ++ place ∷ []
    pub scope : HasGrown w.scope resource w'.scope
    pub keyword : w'.keyword ≡ w.keyword
    pub instance : w'.instance ≡ w.instance
    pub names : w'.names.items ≡ w.names.items
    pub indexes : w'.indexes.items ≡ w.indexes.items
    pub left : w'.left + 1 ≡ w.left
    pub reported : takes c (opening w.keyword (S.absolute site None) w.instance) d

  pub record SchemaClosed (site : P) (start : Start) (valid : Bool) (w w' : WalkState M H K) (c d : C) : Type 0 where
    pub path : (base : List ℕ) (place : ℕ) → w.path ≡ base ++ place ∷ [] → w'.path ≡ base
    pub scope : w'.scope ≡ take start.scope w.scope
    pub keyword : w'.keyword ≡ w.keyword
    pub instance : w'.instance ≡ w.instance
    pub names : w'.names.items ≡ cond valid w.names.items (take start.names w.names.items)
    pub indexes : w'.indexes.items ≡ cond valid w.indexes.items (take start.indexes w.indexes.items)
    pub left : w'.left ≡ w.left
    pub reported : takes c (closing valid (schema_says S site)) d

  pub record KeywordOpened (site : P) (k : Member) (w w' : WalkState M H K) (c d : C) : Type 0 where
    pub path : w'.path ≡ w.path
    pub scope : w'.scope ≡ w.scope
    pub keyword : w'.keyword ≡ at_name w.keyword k
    pub instance : w'.instance ≡ w.instance
    pub names : w'.names.items ≡ w.names.items
    pub indexes : w'.indexes.items ≡ w.indexes.items
    pub left : w'.left + 1 ≡ w.left
    pub reported : takes c (opening (at_name w.keyword k) (S.absolute site (Some k.0)) w.instance) d

  pub record KeywordClosed (len : K → ℕ) (site : P) (v : Value) (k : Member) (matching : ℕ) (tally : Tally)
      (here : Mark K) (passes : Bool) (w w' : WalkState M H K) (c d : C) : Type 0 where
    pub verdict : IsJudged S site v k matching tally passes
    pub path : w'.path ≡ w.path
    pub scope : w'.scope ≡ w.scope
    pub keyword : w'.keyword ≡ take (len here.keyword) w.keyword
    pub instance : w'.instance ≡ w.instance
    pub names : w'.names.items ≡ cond passes w.names.items (take here.names w.names.items)
    pub indexes : w'.indexes.items ≡ cond passes w.indexes.items (take here.indexes w.indexes.items)
    pub left : w'.left ≡ w.left
    pub reported : takes c (closing passes (says_at S site v matching k tally.succeeded
        (map text_of (drop here.names w.names.items)) (drop here.indexes w.indexes.items) passes)) d

  -- ---- what the three recursive functions of the walk ensure

  pub record NodeDone (n : ℕ) (above : List P) (place : P) (v : Value) (valid : Bool) (w w' : WalkState M H K)
      (c d : C) : Type 0 where
    pub walked : NodeWalked S n above place v valid (map text_of w.names.items) (map text_of w'.names.items)
        w.indexes.items w'.indexes.items w.left w'.left
    pub reported : (at : Location) → IsAt at w.keyword w.instance → NodeReported S n above place v takes at c d
    pub back : IsStateRestored w w'
    pub falls : w'.left < w.left

  pub record KeywordDone (n : ℕ) (path : List P) (place : P) (v : Value) (k : Member) (matching : ℕ)
      (apps : List (Application P)) (j : KeywordVerdict) (w w' : WalkState M H K) (c d : C) : Type 0 where
    pub walked : KeywordWalked S n path place v k matching apps j.passes j.succeeded (map text_of w.names.items)
        (map text_of w'.names.items) w.indexes.items w'.indexes.items w.left w'.left
    pub reported : (at : Location) → IsAt at w.keyword w.instance
        → KeywordReported S n path place v k takes at matching apps c d
    pub back : IsStateRestored w w'
    pub falls : w'.left < w.left

  pub record EachDone (n : ℕ) (path : List P) (κ : Keyword) (apps : List (Application P)) (t : Tally)
      (w w' : WalkState M H K) (c d : C) : Type 0 where
    pub walked : EachWalked S n path κ apps t.asked t.succeeded (map text_of w.names.items) (map text_of w'.names.items)
        w.indexes.items w'.indexes.items w.left w'.left
    pub reported : (at : Location) → IsAt at w.keyword w.instance → EachReported S n path takes at apps c d
    pub back : IsStateRestored w w'
    pub falls : w'.left ≤ w.left
