-- A result is as deep as the least number within which its place and value are settled, and it has as many nodes as
-- are counted without it.
use Rattle.std.specs.Prelude.{◌≡◌, ℕ, zero, suc, ◌+◌, ◌<◌, ◌≤◌, ◌⊎◌, Bool, true, false}
use Rattle.std.specs.Prelude.{◌&&◌, List, [], ◌∷◌, ◌++◌, sum_by, refl}
use Rattle.std.proofs.Common.{sym, ◌∙◌, ap, subst, arith, inl, inr}
use Rattle.std.specs.List.{list_all}
use Rattle.std.proofs.lemmas.Bool.{and_parts, cases_lt}
use Rattle.std.proofs.lemmas.List.Sums.{sum_by-cons}
use Rattle.js_doc.specs.Value.{Value}
use Rattle.js_tree.specs.Forest.{Forest, empty, tree, node_count}
use Rattle.js_eval.specs.Applications.{Application}
use Rattle.js_eval.specs.Keywords.{Member, keywords}
use Rattle.js_eval.specs.Location.{Location, at_keyword_named, at_application}
use Rattle.js_eval.specs.Result.{OutputUnit, ResultTree, AreKeywordNodes, AreSchemaNodes, IsNode}
use Rattle.js_eval.specs.Result.{depth_below_schema, depth_of_schemas, depth, size}
use Rattle.js_eval.specs.SchemaSet.{SchemaSet}
use Rattle.js_eval.specs.Size.{nodes_of_application, nodes_of_keyword, node_total}
use Rattle.js_eval.specs.Verdict.{Known, within, Settled, asks, keyword_settled}
use Rattle.js_eval.proofs.Lists.{and_true, all_more}
use Rattle.js_eval.proofs.Agree.{Agrees, up_to, asks_same, schema_settled_same}
use Rattle.js_eval.proofs.Results.{KeywordsSettled, AllSettled, inner}

all_both : {X : Type 0} (p q : X → Bool) (xs : List X) → list_all p xs ≡ true → list_all q xs ≡ true
    → list_all (λ x. p x && q x) xs ≡ true
all_both p q [] h g = refl
all_both p q (x ∷ xs) h g =
    let a = and_parts _ _ h in
    let b = and_parts _ _ g in
    and_true (and_true a.0 b.0) (all_both p q xs a.1 b.1)

-- what both have settled, as the first knows it
abbrev meet : {Place : Type 0} → Known Place → Known Place → Known Place
meet w x = record {
  settled = λ above place v. w.settled above place v && x.settled above place v;
  holds = w.holds;
  names = w.names;
  indexes = w.indexes;
}

meet_by : {Place : Type 0} (S : SchemaSet Place) (n m : ℕ) → (n < m) ⊎ (m ≤ n)
    → Agrees (meet (within S n) (within S m)) (within S m)
meet_by S n m (inl lt) =
    let f = up_to S n m (omega arith) in
    record {
      settled = λ a p v h. (and_parts _ _ h).1;
      holds = λ a p v h. f.holds a p v ((and_parts _ _ h).0);
      names = λ a p v h. f.names a p v ((and_parts _ _ h).0);
      indexes = λ a p v h. f.indexes a p v ((and_parts _ _ h).0);
    }
meet_by S n m (inr le) =
    let f = up_to S m n le in
    record {
      settled = λ a p v h. (and_parts _ _ h).1;
      holds = λ a p v h. sym (f.holds a p v ((and_parts _ _ h).1));
      names = λ a p v h. sym (f.names a p v ((and_parts _ _ h).1));
      indexes = λ a p v h. sym (f.indexes a p v ((and_parts _ _ h).1));
    }

meet_agrees : {Place : Type 0} (S : SchemaSet Place) (n m : ℕ) → Agrees (meet (within S n) (within S m)) (within S m)
meet_agrees S n m = meet_by S n m (cases_lt n m)

module _ {Place : Type 0} (S : SchemaSet Place) where
  abbrev Every : ℕ → List Place → Place → Value → Type 0
  Every n above place v = KeywordsSettled S n above place v (keywords (S.schema place))

  -- ---- settled within n + 1, and its keywords within n

  opened : (n : ℕ) (above : List Place) (place : Place) (v : Value) → Settled S (suc n) above place v
      → Every n above place v
  unfolding within
  opened n above place v h = h

  closed : (n : ℕ) (above : List Place) (place : Place) (v : Value) → Every n above place v
      → Settled S (suc n) above place v
  unfolding within
  closed n above place v h = h

  not_within_zero : (above : List Place) (place : Place) (v : Value) → Settled S zero above place v → ⊥
  unfolding within
  not_within_zero above place v h = let e : false ≡ true = h in cc

  total_opened : (n : ℕ) (above : List Place) (place : Place) (v : Value) → node_total S (suc n) above place v
      ≡ 1 + sum_by (nodes_of_keyword S (within S n) (node_total S n) above place v) (keywords (S.schema place))
  unfolding node_total
  total_opened n above place v = refl

  -- ---- two numbers within which a schema is settled

  asks_by : (n m : ℕ) (above : List Place) (place : Place) (v : Value) → (n < m) ⊎ (m ≤ n) → Every n above place v →
      Every m above place v → (k : Member) → asks S (within S n) above place v k ≡ asks S (within S m) above place v k
  asks_by n m above place v (inl lt) h g k =
      asks_same S (within S n) (within S m) (up_to S n m (omega arith)) above place v h k
  asks_by n m above place v (inr le) h g k =
      sym (asks_same S (within S m) (within S n) (up_to S m n le) above place v g k)

  asks_both : (n m : ℕ) (above : List Place) (place : Place) (v : Value) → Every n above place v → Every m above place v
      → (k : Member) → asks S (within S n) above place v k ≡ asks S (within S m) above place v k
  asks_both n m above place v = asks_by n m above place v (cases_lt n m)

  -- what the keyword asks for by what is known within n is settled within m
  abbrev Lowered : ℕ → ℕ → List Place → Place → Value → Member → Bool
  Lowered n m above place v k =
      list_all (λ a. (within S m).settled (above ++ place ∷ []) a.place a.value) (asks S (within S n) above place v k)

  met : (n m : ℕ) (above : List Place) (place : Place) (v : Value) → Every n above place v
      → list_all (Lowered n m above place v) (keywords (S.schema place)) ≡ true → Settled S (suc m) above place v
  met n m above place v h l =
      let both = all_both (keyword_settled S (within S n) above place v) (Lowered n m above place v)
      (keywords (S.schema place)) h l in
      let each = all_more (λ k. keyword_settled S (within S n) above place v k && Lowered n m above place v k)
      (keyword_settled S (meet (within S n) (within S m)) above place v)
      (λ k s. let p = and_parts _ _ s in
      all_both (λ a. (within S n).settled (above ++ place ∷ []) a.place a.value)
      (λ a. (within S m).settled (above ++ place ∷ []) a.place a.value)
      (asks S (within S n) above place v k) p.0 p.1)
      (keywords (S.schema place)) both in
      closed m above place v (schema_settled_same S (meet (within S n) (within S m)) (within S m)
      (meet_agrees S n m) above place v each)

  module _ (n : ℕ) where
    -- ---- it is settled within each number that is no less than the depth

    mutual
      low_below_schema : (f : Forest OutputUnit) (m : ℕ) (above : List Place) (place : Place) (at : Location) (v :
          Value) (ks : List Member) → KeywordsSettled S n above place v ks → AreKeywordNodes S n above place at v ks f
          → depth_below_schema f ≤ m → list_all (Lowered n m above place v) ks ≡ true
      low_below_schema empty m above place at v [] h r le = refl
      low_below_schema empty m above place at v (k ∷ ks) h r le = absurd r
      low_below_schema (tree t below after) m above place at v [] h r le = absurd r
      low_below_schema (tree t below after) m above place at v (k ∷ ks) h r le =
          let p = and_parts _ _ h in
          and_true
          (low_below_keyword below m (above ++ place ∷ []) (at_keyword_named at k.0)
          (asks S (within S n) above place v k) p.0 r.1 (omega arith))
          (low_below_schema after m above place at v ks p.1 r.2 (omega arith))

      low_below_keyword : (f : Forest OutputUnit) (m : ℕ) (path : List Place) (at : Location)
          (apps : List (Application Place)) → AllSettled S n path apps → AreSchemaNodes S n path at apps f
          → depth_of_schemas f ≤ m → AllSettled S m path apps
      low_below_keyword empty m path at [] h r le = refl
      low_below_keyword empty m path at (a ∷ apps) h r le = absurd r
      low_below_keyword (tree t below after) m path at [] h r le = absurd r
      low_below_keyword (tree t below after) zero path at (a ∷ apps) h r le = absurd (omega arith)
      low_below_keyword (tree t below after) (suc m) path at (a ∷ apps) h r le =
          let p = and_parts _ _ h in
          let i = inner S n path a.place a.value p.0 in
          let l = low_below_schema below m path a.place (at_application at a) a.value
          (keywords (S.schema a.place)) i r.1 (omega arith) in
          and_true (met n m path a.place a.value i l)
          (low_below_keyword after (suc m) path at apps p.1 r.2 (omega arith))

    -- ---- it is settled within no less, and how many nodes it has

    mutual
      met_below_schema : (f : Forest OutputUnit) (m : ℕ) (above : List Place) (place : Place) (at : Location)
          (v : Value) → Every n above place v → Every m above place v → (ks : List Member) → KeywordsSettled S n above
          place v ks → KeywordsSettled S m above place v ks → AreKeywordNodes S n above place at v ks f
          → (depth_below_schema f ≤ m)
          × (node_count f ≡ sum_by (nodes_of_keyword S (within S m) (node_total S m) above place v) ks)
      met_below_schema empty m above place at v x y [] h g r = (omega arith, refl)
      met_below_schema empty m above place at v x y (k ∷ ks) h g r = absurd r
      met_below_schema (tree t below after) m above place at v x y [] h g r = absurd r
      met_below_schema (tree t below after) m above place at v x y (k ∷ ks) h g r =
          let p = and_parts _ _ h in
          let q = and_parts _ _ g in
          let e = asks_both n m above place v x y k in
          let s : AllSettled S m (above ++ place ∷ []) (asks S (within S n) above place v k) =
          subst (λ apps. AllSettled S m (above ++ place ∷ []) apps) (sym e) q.0 in
          let b = met_below_keyword below m (above ++ place ∷ []) (at_keyword_named at k.0)
          (asks S (within S n) above place v k) p.0 s r.1 in
          let a = met_below_schema after m above place at v x y ks p.1 q.1 r.2 in
          let c = b.1 ∙ ap (sum_by (nodes_of_application (node_total S m) (above ++ place ∷ []))) e in (
            omega (arith, b.0, a.0),
            omega
                (arith, c, a.1, sum_by-cons (nodes_of_keyword S (within S m) (node_total S m) above place v) k ks),
          )

      met_below_keyword : (f : Forest OutputUnit) (m : ℕ) (path : List Place) (at : Location) (apps : List
          (Application Place)) → AllSettled S n path apps → AllSettled S m path apps → AreSchemaNodes S n path at apps f
          → (depth_of_schemas f ≤ m) × (node_count f ≡ sum_by (nodes_of_application (node_total S m) path) apps)
      met_below_keyword empty m path at [] h g r = (omega arith, refl)
      met_below_keyword empty m path at (a ∷ apps) h g r = absurd r
      met_below_keyword (tree t below after) m path at [] h g r = absurd r
      met_below_keyword (tree t below after) zero path at (a ∷ apps) h g r =
          absurd (not_within_zero path a.place a.value ((and_parts _ _ g).0))
      met_below_keyword (tree t below after) (suc m) path at (a ∷ apps) h g r =
          let p = and_parts _ _ h in
          let q = and_parts _ _ g in
          let i = inner S n path a.place a.value p.0 in
          let j = opened m path a.place a.value q.0 in
          let b = met_below_schema below m path a.place (at_application at a) a.value i j
          (keywords (S.schema a.place)) i j r.1 in
          let c = met_below_keyword after (suc m) path at apps p.1 q.1 r.2 in
          let d = total_opened m path a.place a.value in (
            omega (arith, b.0, c.0),
            omega
                (arith, b.1, c.1, d, sum_by-cons (nodes_of_application (node_total S (suc m)) path) a apps),
          )

  -- ---- of a whole result

  pub settled_from_depth : (n m : ℕ) (above : List Place) (place : Place) (at : Location) (v : Value) (t : ResultTree)
      → Settled S n above place v → IsNode S n above place at v t → depth t ≤ m → Settled S m above place v
  settled_from_depth n zero above place at v t h r le = absurd (omega arith)
  settled_from_depth n (suc m) above place at v t h r le =
      let i = inner S n above place v h in
      met n m above place v i (low_below_schema n t.below m above place at v
      (keywords (S.schema place)) i r.1 (omega arith))

  from_settled : (n m : ℕ) (above : List Place) (place : Place) (at : Location) (v : Value) (t : ResultTree)
      → Settled S n above place v → IsNode S n above place at v t → Settled S m above place v
      → (depth t ≤ m) × (size t ≡ node_total S m above place v)
  from_settled n zero above place at v t h r g = absurd (not_within_zero above place v g)
  from_settled n (suc m) above place at v t h r g =
      let i = inner S n above place v h in
      let j = opened m above place v g in
      let b = met_below_schema n t.below m above place at v i j (keywords (S.schema place)) i j r.1 in
      (omega (arith, b.0), omega (arith, b.1, total_opened m above place v))

  pub depth_from_settled : (n m : ℕ) (above : List Place) (place : Place) (at : Location) (v : Value) (t : ResultTree)
      → Settled S n above place v → IsNode S n above place at v t → Settled S m above place v → depth t ≤ m
  depth_from_settled n m above place at v t h r g = (from_settled n m above place at v t h r g).0

  pub size_from_settled : (n m : ℕ) (above : List Place) (place : Place) (at : Location) (v : Value) (t : ResultTree)
      → Settled S n above place v → IsNode S n above place at v t → Settled S m above place v
      → size t ≡ node_total S m above place v
  size_from_settled n m above place at v t h r g = (from_settled n m above place at v t h r g).1
