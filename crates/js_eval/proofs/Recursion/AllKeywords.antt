-- A schema's node, once all its keywords are evaluated.
use Rattle.std.specs.Prelude.{◌≡◌, ◌≢◌, ℕ, suc, ◌+◌, ◌-◌, ◌<◌, Bool, true, false, ◌&&◌, cond, List, [], ◌∷◌}
use Rattle.std.specs.Prelude.{◌++◌, None, length, take, sum_by, codes, refl}
use Rattle.std.specs.List.{list_all}
use Rattle.std.specs.Option.{option_map_or}
use Rattle.std.proofs.Common.{sym, ◌∙◌, ap, subst, arith, inl, inr, append-nil}
use Rattle.std.proofs.Math.Seq.{take-append_seam}
use Rattle.js_doc.specs.Pointer.{pointer_text}
use Rattle.js_doc.specs.Value.{Value}
use Rattle.js_doc.specs.Members.{IsAscending}
use Rattle.js_assert.specs.Argument.{entries}
use Rattle.js_tree.specs.Forest.{Forest}
use Rattle.js_eval.specs.Keywords.{Member, keywords}
use Rattle.js_eval.specs.Location.{Location}
use Rattle.js_eval.specs.Note.{Note, schema_note}
use Rattle.js_eval.specs.Result.{OutputUnit, AreKeywordNodes, keyword_unit, schema_unit}
use Rattle.js_eval.specs.SchemaSet.{Text, SchemaSet}
use Rattle.js_eval.specs.Size.{node_total, nodes_of_keyword}
use Rattle.js_eval.specs.Verdict as verdict
use Rattle.js_eval.specs.Verdict.{within, accepts, asks, passes}
use Rattle.js_eval.specs.Verdict.{keyword_settled, schema_settled, schema_passes}
use Rattle.js_eval.proofs.Agree.{within_agrees}
use Rattle.js_eval.proofs.Results.{carried_below_schema, grown}
use Rattle.js_tree.specs.Events.{Event, Passes, opening, closing, events_of}
use Rattle.js_eval.specs.Walk.Progress.{NodeWalked, NodeReported}
use Rattle.js_eval.specs.Walk.Progress.{HasNone, asked_by, unit_by}
use Rattle.js_eval.proofs.Recursion.Order.{condition_in, matching_in, matches, names_in, indexes_in}
use Rattle.js_eval.proofs.Recursion.Order.{found_in_all}
use Rattle.js_tree.proofs.EventSequences.{passes-append}
use Rattle.js_eval.proofs.Recursion.Visited.{any_events}

pub one_less : (n : ℕ) → n ≢ 0 → suc (n - 1) ≡ n
one_less n h = omega (arith, h)

-- what the keywords before one say of it: the lemma of Before
pub record IsAsBefore {P : Type 0} (S : SchemaSet P) (m : ℕ) (above : List P) (place : P) (v : Value)
    (done : List Member) (k : Member) : Type 0 where
  pub same_asks : asked_by S m (above ++ place ∷ []) place v k (condition_in S (within S m) above place v done)
      (names_in S (within S m) above place v done) (indexes_in S (within S m) above place v done)
      ≡ asks S (within S m) above place v k
  pub same_unit : (at : Location) → unit_by S m (above ++ place ∷ []) place v k at
      (matching_in S (within S m) above place v done) (asks S (within S m) above place v k)
      ≡ keyword_unit S m above place at v k

module _ {P : Type 0} (S : SchemaSet P) (m : ℕ) (above : List P) (place : P) (v : Value) where
  abbrev all : List Member
  all = keywords (S.schema place)

  -- their nodes, and the events since the schema's node opened
  pub record KeywordsReported {C : Type 0} (takes : C → Event → C → Type 0) (at : Location) (done : List Member)
      (c d : C) : Type 0 where
    pub forest : Forest OutputUnit
    pub nodes : AreKeywordNodes S m above place at v done forest
    pub passes : Passes takes (opening (pointer_text at.keyword) (S.absolute place None)
        (pointer_text at.instance) ∷ events_of forest) c d

  -- all keywords are walked or judged
  pub record KeywordsEnd (valid : Bool) (names names' : List Text) (indexes indexes' : List ℕ)
      (old left : ℕ) : Type 0 where
    pub settled : list_all (keyword_settled S (within S m) above place v) all ≡ true
    pub verdict : valid ≡ (accepts (S.schema place) && list_all (passes S (within S m) above place v) all)
    pub of_names : names' ≡ names ++ names_in S (within S m) above place v all
    pub of_indexes : indexes' ≡ indexes ++ indexes_in S (within S m) above place v all
    pub spent : (left + sum_by (nodes_of_keyword S (within S m) (node_total S m) above place v) all) + 1 ≡ old

  -- what matches `contains`, once all keywords are walked
  pub matching_of_all : IsAscending (entries (S.schema place))
      → matching_in S (within S m) above place v all ≡ verdict.matching S (within S m) above place v
  matching_of_all ascending = ap (λ o. option_map_or (λ _. matches S (within S m) above place v) o 0)
      (found_in_all (S.schema place) ascending (codes "contains") refl)

  -- ---- the schema, of all its keywords

  pub node_walked : (valid : Bool) (names names' names'' : List Text)
      (indexes indexes' indexes'' : List ℕ) (old left : ℕ)
      → KeywordsEnd valid names names' indexes indexes' old left
      → names'' ≡ cond valid names' (take (length names) names')
      → indexes'' ≡ cond valid indexes' (take (length indexes) indexes')
      → NodeWalked S (suc m) above place v valid names names'' indexes indexes'' old left
  unfolding within node_total
  node_walked valid names names' names'' indexes indexes' indexes'' old left so f g =
      let s : schema_settled S (within S m) above place v ≡ true = so.settled in
      let p : valid ≡ schema_passes S (within S m) above place v = so.verdict in
      record {
        settled = s;
        verdict = p ∙ (let q : true ≡ schema_settled S (within S m) above place v = sym s in
            ap (λ b. b && schema_passes S (within S m) above place v) q);
        of_names = f ∙ (stays names valid _ names' so.of_names
            ∙ ap (λ b. names ++ cond b (names_in S (within S m) above place v all) []) p);
        of_indexes = g ∙ (stays indexes valid _ indexes' so.of_indexes
            ∙ ap (λ b. indexes ++ cond b (indexes_in S (within S m) above place v all) []) p);
        spent = let i = so.spent in omega (arith, i);
      }
    where
      stays : {A : Type 0} (base : List A) (b : Bool) (given list : List A) → list ≡ base ++ given
          → cond b list (take (length base) list) ≡ base ++ cond b given []
      stays base true given list e = e
      stays base false given list e = ap (take (length base)) e ∙ (take-append_seam base given ∙ sym (append-nil base))

  -- a reporter that takes any event takes those of the tree that there is
  pub node_unreported : {C : Type 0} (takes : C → Event → C → Type 0) → ((c d : C) (e : Event) → takes c e d)
      → (at : Location) (c e : C) → (within S (suc m)).settled above place v ≡ true
      → NodeReported S (suc m) above place v takes at c e
  node_unreported takes any at c e s =
      let t = grown S (suc m) above place at v s in
      record { result = t.0; node = t.1; passes = any_events takes any _ _ c e }

  pub node_reported : {C : Type 0} (takes : C → Event → C → Type 0) (at : Location) (valid : Bool)
      (said : Note) (c d e : C)
      → list_all (keyword_settled S (within S m) above place v) all ≡ true
      → KeywordsReported takes at all c d → valid ≡ (within S (suc m)).holds above place v
      → said ≡ schema_note (S.schema place) → takes d (closing valid said) e
      → NodeReported S (suc m) above place v takes at c e
  node_reported takes at valid said c d e s h p n l =
      record {
        result = record { root = schema_unit S (suc m) above place at v; below = h.forest };
        node = (refl, carried_below_schema S m (suc m) (within_agrees S m) above place at v s all h.forest s h.nodes);
        passes = passes-append takes (opening (pointer_text at.keyword) (S.absolute place None)
            (pointer_text at.instance) ∷ events_of h.forest) _ c d e h.passes (
              e,
              subst (λ x. takes d x e)
                  (let q : closing valid said ≡ closing ((within S (suc m)).holds above place v)
                  (schema_note (S.schema place)) = cc in q) l,
              refl,
            );
      }

  pub none_at_zero : (n : ℕ) (old : ℕ) → n ≡ 0 → HasNone S n above place v old
  unfolding within
  none_at_zero n old e = inl (ap (λ x. (within S x).settled above place v) e)

  pub none_left : (n old : ℕ) → n ≢ 0 → old ≡ 0 → HasNone S n above place v old
  unfolding node_total
  none_left n old h e =
      let f : old < node_total S (suc (n - 1)) above place v = omega (arith, e) in
      inr (subst (λ x. old < node_total S x above place v) (one_less n h) f)
