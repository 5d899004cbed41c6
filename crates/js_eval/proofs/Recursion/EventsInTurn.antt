-- Events, one tree after another.
use Rattle.std.specs.Prelude.{◌≡◌, ℕ, List, [], ◌∷◌, ◌++◌, refl}
use Rattle.std.proofs.Common.{sym, ◌∙◌, ap}
use Rattle.std.proofs.lemmas.List.{append_assoc}
use Rattle.js_doc.specs.Pointer.{Tokens, pointer_text, escape}
use Rattle.js_doc.specs.Value.{Value}
use Rattle.js_tree.specs.Forest.{Forest, empty, tree, ◌⊹◌}
use Rattle.js_eval.specs.Applications.{Application}
use Rattle.js_eval.specs.Keywords.{Member}
use Rattle.js_eval.specs.Location.{Location, at_application}
use Rattle.js_eval.specs.Result.{OutputUnit, ResultTree, IsNode, AreSchemaNodes, AreKeywordNodes, keyword_unit}
use Rattle.js_eval.specs.Location.{at_keyword_named}
use Rattle.js_eval.specs.SchemaSet.{SchemaSet}
use Rattle.js_eval.specs.Verdict.{within, asks}
use Rattle.js_tree.specs.Events.{opening_of, closing_of, events_of}

pub events_beside : (f g : Forest OutputUnit) → events_of (f ⊹ g) ≡ events_of f ++ events_of g
events_beside empty g = refl
events_beside (tree u below after) g =
    ap (λ es. opening_of u ∷ (events_of below ++ (closing_of u ∷ es))) (events_beside after g)
    ∙ ap (λ es. opening_of u ∷ es) (sym (append_assoc (events_of below) (closing_of u ∷ events_of after) (events_of g)))

pub pointer_text_append : (s t : Tokens) → pointer_text (s ++ t) ≡ pointer_text s ++ pointer_text t
pointer_text_append [] t = refl
pointer_text_append (x ∷ s) t =
    ap (λ l. 47 ∷ (escape x ++ l)) (pointer_text_append s t)
    ∙ ap (λ l. 47 ∷ l) (sym (append_assoc (escape x) (pointer_text s) (pointer_text t)))

module _ {P : Type 0} (S : SchemaSet P) (n : ℕ) where
  pub nodes_more : (path : List P) (at : Location) (apps : List (Application P)) (f : Forest OutputUnit)
      (a : Application P) (t : ResultTree)
      → AreSchemaNodes S n path at apps f → IsNode S n path a.place (at_application at a) a.value t
      → AreSchemaNodes S n path at (apps ++ a ∷ []) (f ⊹ tree t.root t.below empty)
  nodes_more path at [] empty a t h r = (r.0, r.1, tt)
  nodes_more path at [] (tree u below after) a t h r = absurd h
  nodes_more path at (b ∷ apps) empty a t h r = absurd h
  nodes_more path at (b ∷ apps) (tree u below after) a t h r = (h.0, h.1, nodes_more path at apps after a t h.2 r)

  pub keywords_more : (above : List P) (place : P) (at : Location) (v : Value) (ks : List Member)
      (f : Forest OutputUnit) (k : Member) (below : Forest OutputUnit)
      → AreKeywordNodes S n above place at v ks f → AreSchemaNodes S n (above ++ place ∷ []) (at_keyword_named at k.0)
      (asks S (within S n) above place v k) below
      → AreKeywordNodes S n above place at v (ks ++ k ∷ []) (f ⊹ tree (keyword_unit S n above place at v k) below empty)
  keywords_more above place at v [] empty k below h r = (refl, r, tt)
  keywords_more above place at v [] (tree u b a) k below h r = absurd h
  keywords_more above place at v (x ∷ ks) empty k below h r = absurd h
  keywords_more above place at v (x ∷ ks) (tree u b a) k below h r =
      (h.0, h.1, keywords_more above place at v ks a k below h.2 r)
