-- The locations of each node of a result begin with those of the node above, and the root's are empty.
use Rattle.std.specs.Prelude.{◌≡◌, ℕ, Bool, List, [], ◌∷◌, ◌++◌, None, decimal}
use Rattle.std.proofs.Common.{ap, sym, subst, ◌∙◌, append-nil}
use Rattle.js_doc.specs.Pointer.{Tokens, pointer_text, token_text}
use Rattle.js_doc.specs.Value.{Value}
use Rattle.js_doc.proofs.TokenBytes.{pointer_text-push}
use Rattle.js_tree.specs.Forest.{Forest, empty, tree}
use Rattle.js_tree.specs.Rows.Relative.{BeginsWith, AreLocated, IsLocated}
use Rattle.js_tree.specs.Rows.RelativeState.{IsRootAt}
use Rattle.js_eval.specs.Applications.{Application}
use Rattle.js_eval.specs.Keywords.{Member, keywords}
use Rattle.js_eval.specs.Location.{Location, at_root, step_tokens, at_keyword_named, at_application}
use Rattle.js_eval.specs.Result.{OutputUnit, ResultTree, schema_unit, keyword_unit}
use Rattle.js_eval.specs.Result.{AreKeywordNodes, AreSchemaNodes, IsNode, IsResult}
use Rattle.js_eval.specs.SchemaSet.{SchemaSet, Step, Alone, Index, Name}
use Rattle.js_eval.specs.Verdict.{within, asks}

-- ---- one step further

begins_with_itself : (text : List ℕ) → BeginsWith text text
begins_with_itself text = ([], sym (append-nil text))

a_token_further : (at : Tokens) (token : List ℕ) → BeginsWith (pointer_text (at ++ token ∷ [])) (pointer_text at)
a_token_further at token = (token_text token, pointer_text-push at token)

a_step_further : (at : Tokens) (step : Step) → BeginsWith (pointer_text (at ++ step_tokens step)) (pointer_text at)
a_step_further at Alone = ([], ap pointer_text (append-nil at) ∙ sym (append-nil (pointer_text at)))
a_step_further at (Index i) = a_token_further at (decimal i)
a_step_further at (Name name) = a_token_further at name

-- trees, the unit of whose first one is known
located_by : (keyword instance : List ℕ) (u w : OutputUnit) (below after : Forest OutputUnit) → u ≡ w
    → BeginsWith w.keyword keyword → BeginsWith w.instance instance → AreLocated w.keyword w.instance below
    → AreLocated keyword instance after
    → AreLocated keyword instance (tree u below after)
located_by keyword instance u w below after e k i b a =
    subst (λ x. AreLocated keyword instance (tree x below after)) (sym e) (k, i, b, a)

-- ---- of all nodes

module _ {Place : Type 0} (S : SchemaSet Place) where
  module _ (n : ℕ) where
    mutual
      located_below_schema : (above : List Place) (place : Place) (at : Location) (v : Value) (ks : List Member)
          (f : Forest OutputUnit) → AreKeywordNodes S n above place at v ks f
          → AreLocated (pointer_text at.keyword) (pointer_text at.instance) f
      located_below_schema above place at v [] empty r = tt
      located_below_schema above place at v [] (tree u below after) r = absurd r
      located_below_schema above place at v (k ∷ ks) empty r = absurd r
      located_below_schema above place at v (k ∷ ks) (tree u below after) r =
          located_by _ _ u (keyword_unit S n above place at v k) below after r.0
          (a_token_further at.keyword k.0)
          (begins_with_itself (pointer_text at.instance))
          (located_below_keyword (above ++ place ∷ []) (at_keyword_named at k.0)
          (asks S (within S n) above place v k) below r.1)
          (located_below_schema above place at v ks after r.2)

      located_below_keyword : (path : List Place) (at : Location) (apps : List (Application Place))
          (f : Forest OutputUnit) → AreSchemaNodes S n path at apps f
          → AreLocated (pointer_text at.keyword) (pointer_text at.instance) f
      located_below_keyword path at [] empty r = tt
      located_below_keyword path at [] (tree u below after) r = absurd r
      located_below_keyword path at (a ∷ apps) empty r = absurd r
      located_below_keyword path at (a ∷ apps) (tree u below after) r =
          located_by _ _ u (schema_unit S n path a.place (at_application at a) a.value) below after r.0
          (a_step_further at.keyword a.step)
          (a_step_further at.instance a.at)
          (located_below_schema path a.place (at_application at a) a.value (keywords (S.schema a.place)) below r.1)
          (located_below_keyword path at apps after r.2)

    node_is_located : (above : List Place) (place : Place) (at : Location) (v : Value) (t : ResultTree)
        → IsNode S n above place at v t → IsLocated t
    node_is_located above place at v t r =
        subst (λ u. AreLocated u.keyword u.instance t.below) (sym r.0)
        (located_below_schema above place at v (keywords (S.schema place)) t.below r.1)

  pub result_is_located : (above : List Place) (place : Place) (v : Value) (at : Location) (t : ResultTree)
      → IsResult S above place at v t → IsLocated t
  result_is_located above place v at t r = node_is_located r.bound above place at v t r.node

  -- the root is validated as the whole instance
  pub root_is_at : (place : Place) (v : Value) (t : ResultTree) (absolute : List ℕ) (valid : Bool) → IsResult S [] place
      at_root v t → absolute ≡ S.absolute place None → valid ≡ t.root.valid → IsRootAt absolute valid t.root
  root_is_at place v t absolute valid r e f = (
    ap (λ u. u.keyword) r.node.0,
    ap (λ u. u.instance) r.node.0,
    ap (λ u. u.absolute) r.node.0 ∙ sym e,
    sym f,
  )
