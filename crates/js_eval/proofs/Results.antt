-- A place and a value have one result at most, and one if they are settled.
use Rattle.std.specs.Prelude.{◌≡◌, ℕ, zero, suc, max, true, List, [], ◌∷◌, ◌++◌, refl}
use Rattle.std.proofs.Common.{sym, ◌∙◌, subst, arith}
use Rattle.std.specs.List.{list_all}
use Rattle.std.proofs.lemmas.Bool.{and_parts}
use Rattle.js_doc.specs.Value.{Value}
use Rattle.js_tree.specs.Forest.{Forest, empty, tree}
use Rattle.js_eval.specs.Applications.{Application}
use Rattle.js_eval.specs.Keywords.{Member, keywords}
use Rattle.js_eval.specs.Location.{Location, at_keyword_named, at_application}
use Rattle.js_eval.specs.Result.{OutputUnit, ResultTree, schema_unit, keyword_unit}
use Rattle.js_eval.specs.Result.{AreKeywordNodes, AreSchemaNodes, IsNode, IsResult}
use Rattle.js_eval.specs.SchemaSet.{SchemaSet}
use Rattle.js_eval.specs.Verdict.{within, Settled, asks, keyword_settled}
use Rattle.js_eval.proofs.Agree.{Agrees, within_agrees, up_to, asks_same, passes_same}
use Rattle.js_eval.proofs.Agree.{matching_same, holding_same, schema_settled_same}

module _ {Place : Type 0} (S : SchemaSet Place) where
  -- ---- what a settled schema's keywords ask for is settled as well

  abbrev pub KeywordsSettled : ℕ → List Place → Place → Value → List Member → Type 0
  KeywordsSettled n above place v ks = list_all (keyword_settled S (within S n) above place v) ks ≡ true

  abbrev pub AllSettled : ℕ → List Place → List (Application Place) → Type 0
  AllSettled n path apps = list_all (λ a. (within S n).settled path a.place a.value) apps ≡ true

  pub inner : (n : ℕ) (above : List Place) (place : Place) (v : Value) → Settled S n above place v
      → KeywordsSettled n above place v (keywords (S.schema place))
  unfolding within
  inner zero above place v h = cc
  inner (suc n) above place v h =
      schema_settled_same S (within S n) (within S (suc n)) (within_agrees S n) above place v h

  -- ---- at most one, by what is known within one n

  module _ (n : ℕ) where
    mutual
      pub one_below_schema : (above : List Place) (place : Place) (at : Location) (v : Value) (ks : List Member)
          (f g : Forest OutputUnit) → AreKeywordNodes S n above place at v ks f
          → AreKeywordNodes S n above place at v ks g → f ≡ g
      one_below_schema above place at v [] empty empty r q = refl
      one_below_schema above place at v [] empty (tree s sb sa) r q = absurd q
      one_below_schema above place at v [] (tree t tb ta) g r q = absurd r
      one_below_schema above place at v (k ∷ ks) empty g r q = absurd r
      one_below_schema above place at v (k ∷ ks) (tree t tb ta) empty r q = absurd q
      one_below_schema above place at v (k ∷ ks) (tree t tb ta) (tree s sb sa) r q =
          let u : t ≡ s = r.0 ∙ sym q.0 in
          let b = one_below_keyword (above ++ place ∷ []) (at_keyword_named at k.0)
          (asks S (within S n) above place v k) tb sb r.1 q.1 in
          let a = one_below_schema above place at v ks ta sa r.2 q.2 in
          cc

      pub one_below_keyword : (path : List Place) (at : Location) (apps : List (Application Place))
          (f g : Forest OutputUnit) → AreSchemaNodes S n path at apps f → AreSchemaNodes S n path at apps g → f ≡ g
      one_below_keyword path at [] empty empty r q = refl
      one_below_keyword path at [] empty (tree s sb sa) r q = absurd q
      one_below_keyword path at [] (tree t tb ta) g r q = absurd r
      one_below_keyword path at (a ∷ apps) empty g r q = absurd r
      one_below_keyword path at (a ∷ apps) (tree t tb ta) empty r q = absurd q
      one_below_keyword path at (a ∷ apps) (tree t tb ta) (tree s sb sa) r q =
          let u : t ≡ s = r.0 ∙ sym q.0 in
          let b = one_below_schema path a.place (at_application at a) a.value
          (keywords (S.schema a.place)) tb sb r.1 q.1 in
          let c = one_below_keyword path at apps ta sa r.2 q.2 in
          cc

    same_tree : (t u : ResultTree) → t.root ≡ u.root → t.below ≡ u.below → t ≡ u
    same_tree t u e f = λ i. record { root = e i; below = f i }

    pub one_node : (above : List Place) (place : Place) (at : Location) (v : Value) (t u : ResultTree)
        → IsNode S n above place at v t → IsNode S n above place at v u → t ≡ u
    one_node above place at v t u r q =
        same_tree t u (r.0 ∙ sym q.0)
        (one_below_schema above place at v (keywords (S.schema place)) t.below u.below r.1 q.1)

  -- ---- a node by what is known within n is one by what is known within m, where the second agrees

  module _ (n m : ℕ) (agree : Agrees (within S n) (within S m)) where
    schema_unit_same : (above : List Place) (place : Place) (at : Location) (v : Value) → Settled S n above place v
        → schema_unit S n above place at v ≡ schema_unit S m above place at v
    schema_unit_same above place at v h = let e = agree.holds above place v h in cc

    keyword_unit_same : (above : List Place) (place : Place) (at : Location) (v : Value) → KeywordsSettled n above place
        v (keywords (S.schema place)) → (k : Member) → keyword_settled S (within S n) above place v k ≡ true
        → keyword_unit S n above place at v k ≡ keyword_unit S m above place at v k
    keyword_unit_same above place at v h k s =
        let p = passes_same S (within S n) (within S m) agree above place v h k s in
        let e = asks_same S (within S n) (within S m) agree above place v h k in
        let c = matching_same S (within S n) (within S m) agree above place v h in
        let f = holding_same S (within S n) (within S m) agree above place v (asks S (within S n) above place v k) s in
        cc

    mutual
      pub carried_below_schema : (above : List Place) (place : Place) (at : Location) (v : Value) → KeywordsSettled n
          above place v (keywords (S.schema place)) → (ks : List Member) (f : Forest OutputUnit) → KeywordsSettled n
          above place v ks → AreKeywordNodes S n above place at v ks f → AreKeywordNodes S m above place at v ks f
      carried_below_schema above place at v all [] empty h r = tt
      carried_below_schema above place at v all [] (tree t below after) h r = absurd r
      carried_below_schema above place at v all (k ∷ ks) empty h r = absurd r
      carried_below_schema above place at v all (k ∷ ks) (tree t below after) h r =
          let p = and_parts _ _ h in (
            r.0 ∙ keyword_unit_same above place at v all k p.0,
            subst (λ apps. AreSchemaNodes S m (above ++ place ∷ []) (at_keyword_named at k.0) apps below)
                (asks_same S (within S n) (within S m) agree above place v all k)
                (carried_below_keyword (above ++ place ∷ []) (at_keyword_named at k.0)
                (asks S (within S n) above place v k) below p.0 r.1),
            carried_below_schema above place at v all ks after p.1 r.2,
          )

      pub carried_below_keyword : (path : List Place) (at : Location) (apps : List (Application Place)) (f : Forest
          OutputUnit) → AllSettled n path apps → AreSchemaNodes S n path at apps f → AreSchemaNodes S m path at apps f
      carried_below_keyword path at [] empty h r = tt
      carried_below_keyword path at [] (tree t below after) h r = absurd r
      carried_below_keyword path at (a ∷ apps) empty h r = absurd r
      carried_below_keyword path at (a ∷ apps) (tree t below after) h r =
          let p = and_parts _ _ h in
          let i = inner n path a.place a.value p.0 in (
            r.0 ∙ schema_unit_same path a.place (at_application at a) a.value p.0,
            carried_below_schema path a.place (at_application at a) a.value i (keywords (S.schema a.place)) below i r.1,
            carried_below_keyword path at apps after p.1 r.2,
          )

    pub carried : (above : List Place) (place : Place) (at : Location) (v : Value) (t : ResultTree)
        → Settled S n above place v → IsNode S n above place at v t → IsNode S m above place at v t
    carried above place at v t h r =
        let i = inner n above place v h in (
          r.0 ∙ schema_unit_same above place at v h,
          carried_below_schema above place at v i
              (keywords (S.schema place)) t.below i r.1,
        )

  pub one_result : (above : List Place) (place : Place) (v : Value) (at : Location) (t u : ResultTree)
      → IsResult S above place at v t → IsResult S above place at v u → t ≡ u
  one_result above place v at t u r q =
      let m = max r.bound q.bound in
      let x = carried r.bound m (up_to S r.bound m (omega arith)) above place at v t r.settled r.node in
      let y = carried q.bound m (up_to S q.bound m (omega arith)) above place at v u q.settled q.node in
      one_node m above place at v t u x y

  -- ---- there is one, where it is settled

  module _ (n : ℕ) (made : (above : List Place) (place : Place) (at : Location) (v : Value) → Settled S n above place v
      → (t : ResultTree) × IsNode S n above place at v t) where
    grown_below_keyword : (path : List Place) (at : Location) (apps : List (Application Place)) → AllSettled n path apps
        → (f : Forest OutputUnit) × AreSchemaNodes S n path at apps f
    grown_below_keyword path at [] h = (empty, tt)
    grown_below_keyword path at (a ∷ apps) h =
        let p = and_parts _ _ h in
        let t = made path a.place (at_application at a) a.value p.0 in
        let f = grown_below_keyword path at apps p.1 in
        (tree (t.0).root (t.0).below f.0, ((t.1).0, (t.1).1, f.1))

    pub grown_below_schema : (above : List Place) (place : Place) (at : Location) (v : Value) (ks : List Member)
        → KeywordsSettled n above place v ks → (f : Forest OutputUnit) × AreKeywordNodes S n above place at v ks f
    grown_below_schema above place at v [] h = (empty, tt)
    grown_below_schema above place at v (k ∷ ks) h =
        let p = and_parts _ _ h in
        let b = grown_below_keyword (above ++ place ∷ []) (at_keyword_named at k.0)
        (asks S (within S n) above place v k) p.0 in
        let f = grown_below_schema above place at v ks p.1 in
        (tree (keyword_unit S n above place at v k) b.0 f.0, (refl, b.1, f.1))

  pub grown : (n : ℕ) (above : List Place) (place : Place) (at : Location) (v : Value) → Settled S n above place v
      → (t : ResultTree) × IsNode S n above place at v t
  unfolding within
  grown zero above place at v h = cc
  grown (suc n) above place at v h =
      let f = grown_below_schema n (grown n) above place at v (keywords (S.schema place)) h in (
        record { root = schema_unit S (suc n) above place at v; below = f.0 },
        (
          refl,
          carried_below_schema n (suc n) (within_agrees S n) above place at v h
              (keywords (S.schema place)) f.0 h f.1,
        ),
      )
