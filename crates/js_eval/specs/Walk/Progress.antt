-- What a walk knows of what it has evaluated, and what it has reported of it.
use Rattle.std.specs.Prelude.{◌≡◌, ℕ, ◌+◌, ◌<◌, ◌⊎◌, List, [], ◌∷◌, ◌++◌, Bool, true, false, cond}
use Rattle.std.specs.Prelude.{Option, Some, map, filter, length, sum_by}
use Rattle.std.specs.List.{list_all, flat_map}
use Rattle.js_doc.specs.Pointer.{pointer_text}
use Rattle.js_doc.specs.Members.{get}
use Rattle.js_doc.specs.Value.{Value}
use Rattle.js_assert.specs.Argument.{entries}
use Rattle.js_tree.specs.Forest.{Forest, empty, tree}
use Rattle.js_eval.specs.Applications.{Application, asks_of}
use Rattle.js_eval.specs.Evaluated.{names_of, indexes_of}
use Rattle.js_eval.specs.Keywords.{Member, keywords}
use Rattle.js_keyword.specs.Keyword.{which_keyword}
use Rattle.js_eval.specs.Location.{Location, at_keyword_named, step_tokens}
use Rattle.js_eval.specs.Note.{Note, keyword_note, schema_note}
use Rattle.js_eval.specs.Passes.{passes_of}
use Rattle.js_eval.specs.Result.{OutputUnit, ResultTree, IsNode, AreSchemaNodes}
use Rattle.js_eval.specs.SchemaSet.{Text, SchemaSet, Step}
use Rattle.js_eval.specs.Size.{node_total}
use Rattle.js_eval.specs.Verdict.{within, accepts}
use Rattle.js_keyword.specs.declared.keyword.Keyword.{Keyword}
use Rattle.js_eval.specs.Walk.Said.{keyword_says}
use Rattle.js_tree.specs.Events.{Event, Passes, closing, events, events_of, opening}
use Rattle.js_eval.specs.declared.evaluation.walk_state.WalkState.{WalkState}

-- the texts of a walk's two trails are those of this location
pub record IsAt (at : Location) (keyword instance : Text) : Type 0 where
  pub schemas : keyword ≡ pointer_text at.keyword
  pub value : instance ≡ pointer_text at.instance

-- what is at a place, in definitions that stay folded in the goals of the walk
module _ {Place : Type 0} (S : SchemaSet Place) (place : Place) where
  unfoldable pub keywords_at : List Member
  keywords_at = keywords (S.schema place)

  unfoldable pub accepts_at : Bool
  accepts_at = accepts (S.schema place)

  -- the schema has this keyword
  unfoldable pub IsKeywordAt : Member → Type 0
  IsKeywordAt k = get k.0 (entries (S.schema place)) ≡ Some k.1

  unfoldable pub schema_says : Note
  schema_says = schema_note (S.schema place)

  unfoldable pub passes_at : Value → ℕ → Member → List Bool → Bool
  passes_at v matching k verdicts = passes_of (entries (S.schema place)) v matching k verdicts (which_keyword k.0)

  unfoldable pub says_at : Value → ℕ → Member → ℕ → List Text → List ℕ → Bool → Note
  says_at v matching k succeeded names indexes b =
      keyword_says (entries (S.schema place)) v matching k succeeded names indexes b (which_keyword k.0)

unfoldable pub kind_at : Member → Keyword
kind_at k = which_keyword k.0

-- the trail at a keyword, and at a step
unfoldable pub at_name : Text → Member → Text
at_name trail k = trail ++ pointer_text (k.0 ∷ [])

unfoldable pub at_step : Text → Step → Text
at_step trail s = trail ++ pointer_text (step_tokens s)

-- the path, its resources and the trails are as before
pub record IsStateRestored {M H K : Type 0} (w w' : WalkState M H K) : Type 0 where
  pub path : w'.path ≡ w.path
  pub scope : w'.scope ≡ w.scope
  pub keyword : w'.keyword ≡ w.keyword
  pub instance : w'.instance ≡ w.instance

module _ {Place : Type 0} (S : SchemaSet Place) (n : ℕ) where
  -- ---- applications at the end of a path, by what is known within n

  module _ (path : List Place) where
    abbrev pub settled_at : Application Place → Bool
    settled_at a = (within S n).settled path a.place a.value

    abbrev pub holds_at : Application Place → Bool
    holds_at a = (within S n).holds path a.place a.value

    abbrev pub nodes_at : Application Place → ℕ
    nodes_at a = node_total S n path a.place a.value

    -- the members and the items that a keyword of this kind with these applications has evaluated if it passes
    unfoldable pub names_given : Keyword → List (Application Place) → List Text
    names_given κ apps = names_of apps (filter holds_at apps)
        (flat_map (λ a. (within S n).names path a.place a.value) (filter holds_at apps)) κ

    unfoldable pub indexes_given : Keyword → List (Application Place) → List ℕ
    indexes_given κ apps = indexes_of apps (filter holds_at apps)
        (flat_map (λ a. (within S n).indexes path a.place a.value) (filter holds_at apps)) κ

    -- they are evaluated: names and indexes grow by what they have evaluated, and their nodes are subtracted from those
    -- left
    pub record EachWalked (κ : Keyword) (apps : List (Application Place)) (asked succeeded : ℕ)
        (names names' : List Text)
        (indexes indexes' : List ℕ) (old left : ℕ) : Type 0 where
      pub settled : list_all settled_at apps ≡ true
      pub many : asked ≡ length apps
      pub holding : succeeded ≡ length (filter holds_at apps)
      pub of_names : names' ≡ names ++ names_given κ apps
      pub of_indexes : indexes' ≡ indexes ++ indexes_given κ apps
      pub spent : left + sum_by nodes_at apps ≡ old

    pub record EachReported {C : Type 0} (takes : C → Event → C
        → Type 0) (at : Location) (apps : List (Application Place)) (c d : C) : Type 0 where
      pub forest : Forest OutputUnit
      pub nodes : AreSchemaNodes S n path at apps forest
      pub passes : Passes takes (events_of forest) c d

    abbrev pub SomeHasNone : List (Application Place) → ℕ → Type 0
    SomeHasNone apps old = (list_all settled_at apps ≡ false) ⊎ (old < sum_by nodes_at apps)

    -- ---- a keyword of the place at the path's end, given these facts about the keywords before it

    module _ (place : Place) (v : Value) (k : Member) where
      unfoldable pub asked_by : Option Bool → List Text → List ℕ → List (Application Place)
      asked_by condition names indexes =
          asks_of S path place (entries (S.schema place)) v condition names indexes k (which_keyword k.0)

      unfoldable pub passes_by : ℕ → List (Application Place) → Bool
      passes_by matching apps = passes_at S place v matching k (map holds_at apps)

      unfoldable pub unit_by : Location → ℕ → List (Application Place) → OutputUnit
      unit_by at matching apps = record {
        valid = passes_by matching apps;
        keyword = pointer_text (at_keyword_named at k.0).keyword;
        absolute = S.absolute place (Some k.0);
        instance = pointer_text at.instance;
        note = keyword_note (entries (S.schema place)) v matching k apps (filter holds_at apps)
            (passes_by matching apps) (which_keyword k.0);
      }

      pub record KeywordWalked (matching : ℕ) (apps : List (Application Place)) (valid : Bool) (succeeded : ℕ)
          (names names' : List Text) (indexes indexes' : List ℕ) (old left : ℕ) : Type 0 where
        pub settled : list_all settled_at apps ≡ true
        pub verdict : valid ≡ passes_by matching apps
        pub holding : succeeded ≡ length (filter holds_at apps)
        pub of_names : names' ≡ names ++ cond (passes_by matching apps) (names_given (which_keyword k.0) apps) []
        pub of_indexes : indexes'
            ≡ indexes ++ cond (passes_by matching apps) (indexes_given (which_keyword k.0) apps) []
        pub spent : (left + sum_by nodes_at apps) + 1 ≡ old

      pub record KeywordReported {C : Type 0} (takes : C → Event → C
          → Type 0) (at : Location) (matching : ℕ) (apps : List (Application Place)) (c d : C) : Type 0 where
        pub forest : Forest OutputUnit
        pub nodes : AreSchemaNodes S n path (at_keyword_named at k.0) apps forest
        pub passes : Passes takes (events_of (tree (unit_by at matching apps) forest empty)) c d

      abbrev pub KeywordHasNone : List (Application Place) → ℕ → Type 0
      KeywordHasNone apps old = (list_all settled_at apps ≡ false) ⊎ (old < sum_by nodes_at apps + 1)

  -- ---- a value at a place, at the end of these places

  module _ (above : List Place) (place : Place) (v : Value) where
    pub record NodeWalked (valid : Bool) (names names' : List Text) (indexes indexes' : List ℕ)
        (old left : ℕ) : Type 0 where
      pub settled : (within S n).settled above place v ≡ true
      pub verdict : valid ≡ (within S n).holds above place v
      pub of_names : names' ≡ names ++ (within S n).names above place v
      pub of_indexes : indexes' ≡ indexes ++ (within S n).indexes above place v
      pub spent : left + node_total S n above place v ≡ old

    pub record NodeReported {C : Type 0} (takes : C → Event → C → Type 0) (at : Location) (c d : C) : Type 0 where
      pub result : ResultTree
      pub node : IsNode S n above place at v result
      pub passes : Passes takes (events result) c d

    abbrev pub HasNone : ℕ → Type 0
    HasNone old = ((within S n).settled above place v ≡ false) ⊎ (old < node_total S n above place v)

-- the node of a keyword of the place that applies no schema, below a schema's node at these locations, opens and closes
module _ {C P : Type 0} (S : SchemaSet P) (takes : C → Event → C → Type 0) (place : P) (v : Value) (k : Member) where
  abbrev pub LeafReported : (matching : ℕ) (passes : Bool) (succeeded : ℕ) (keyword instance : Text) → C → C → Type 0
  LeafReported matching passes succeeded keyword instance c d =
      Passes takes (opening (at_name keyword k) (S.absolute place (Some k.0)) instance
      ∷ closing passes (says_at S place v matching k succeeded [] [] passes) ∷ []) c d
