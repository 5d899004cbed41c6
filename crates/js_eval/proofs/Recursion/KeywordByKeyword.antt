-- A schema's node, keyword by keyword.
use Rattle.std.specs.Prelude.{◌≡◌, ℕ, suc, ◌+◌, ◌<◌, Bool, true, false, ◌&&◌, cond, not, List, [], ◌∷◌}
use Rattle.std.specs.Prelude.{◌++◌, Option, None, filter, length, drop, sum_by, refl}
use Rattle.std.specs.List.{list_all, flat_map}
use Rattle.std.proofs.Common.{sym, ◌∙◌, ap, subst, arith, inl, inr, append-nil}
use Rattle.std.proofs.Math.Seq.{drop-append_seam}
use Rattle.std.proofs.lemmas.List.{append_assoc}
use Rattle.std.proofs.lemmas.List.Folds.{list_all-append}
use Rattle.std.proofs.lemmas.List.Sums.{sum_by-append, sum_by-cons}
use Rattle.js_doc.specs.Pointer.{pointer_text}
use Rattle.js_doc.specs.Value.{Value}
use Rattle.js_doc.specs.Members.{IsAscending}
use Rattle.js_assert.specs.Argument.{entries}
use Rattle.js_tree.specs.Forest.{empty, tree, ◌⊹◌}
use Rattle.js_eval.specs.Applications.{Application}
use Rattle.js_eval.specs.Keywords.{Member, keywords}
use Rattle.js_keyword.specs.Keyword.{which_keyword}
use Rattle.js_eval.specs.Location.{Location, at_keyword_named}
use Rattle.js_eval.specs.Note.{Note, schema_note}
use Rattle.js_eval.specs.Result.{AreSchemaNodes, keyword_unit}
use Rattle.js_eval.specs.SchemaSet.{Text, SchemaSet}
use Rattle.js_eval.specs.Size.{node_total, nodes_of_keyword}
use Rattle.js_eval.specs.Verdict as verdict
use Rattle.js_eval.specs.Verdict.{within, accepts, asks, passes, gives_names, gives_indexes}
use Rattle.js_eval.specs.Verdict.{keyword_settled}
use Rattle.js_eval.proofs.Lists.{and_true}
use Rattle.js_tree.specs.Events.{Event, Passes, opening, closing, events_of}
use Rattle.js_eval.specs.Walk.Keeping.{condition_step, matching_step}
use Rattle.js_eval.specs.Walk.Progress.{IsAt, KeywordWalked, KeywordReported, KeywordHasNone, NodeReported}
use Rattle.js_eval.specs.Walk.Progress.{HasNone, asked_by, passes_by, unit_by, names_given, indexes_given}
use Rattle.js_eval.specs.Walk.Progress.{settled_at, nodes_at, keywords_at, passes_at}
use Rattle.js_eval.proofs.Recursion.Order.{condition_in, matching_in, names_in, indexes_in}
use Rattle.js_eval.proofs.Recursion.Order.{condition_more, matching_more}
use Rattle.js_eval.proofs.Recursion.Sources.{flat_more}
use Rattle.js_tree.proofs.EventSequences.{passes-append}
use Rattle.js_eval.proofs.Recursion.EventsInTurn.{events_beside, keywords_more}
use Rattle.js_eval.specs.Walk.Visited.{is_visited, AreJudged, AreJudgedIf}
use Rattle.js_eval.specs.declared.evaluation.tally.Others.{Others}
use Rattle.js_eval.proofs.Recursion.Visited.{all_visited, condition_kept, matching_kept, asks_none, gives_no_names}
use Rattle.js_eval.proofs.Recursion.Visited.{gives_no_indexes, more_visited, none_visited, every_visited, all_apart}
use Rattle.js_eval.proofs.Recursion.Visited.{sum_apart, all_same, ones, others_pass, others_alone}
use Rattle.js_eval.proofs.Recursion.AllKeywords.{IsAsBefore, KeywordsReported, KeywordsEnd}
use Rattle.js_eval.proofs.Recursion.AllKeywords.{matching_of_all, node_unreported, node_reported}

-- ---- keyword by keyword

-- what the first keywords give, and one more that gives something if it passes
one_gives_more : {X Y A : Type 0} (f : X → List A) (xs : List X) (x : X) (base list list' : List A)
    (given : List Y → List A) (b b' : Bool) {ys ys' : List Y} → b ≡ b' → ys ≡ ys' → list' ≡ list ++ cond b (given ys) []
    → f x ≡ cond b' (given ys') [] → list ≡ base ++ flat_map f xs → list' ≡ base ++ flat_map f (xs ++ x ∷ [])
one_gives_more f xs x base list list' given b b' p e h i g =
    let j = flat_more f xs x in let k = append_assoc base (flat_map f xs) (f x) in cc

module _ {P : Type 0} (S : SchemaSet P) (m : ℕ) (above : List P) (place : P) (v : Value) (quiet : Bool) where
  -- those of them that the walk visits
  abbrev pub visited : List Member → List Member
  visited ks = filter (is_visited quiet) ks

  abbrev every : List Member
  every = keywords (S.schema place)

  abbrev nodes_of : Member → ℕ
  nodes_of k = nodes_of_keyword S (within S m) (node_total S m) above place v k

  -- all keywords but the rest are walked
  pub record KeywordsSoFar (done rest : List Member) (valid : Bool) (branch : Option Bool) (count : ℕ)
      (names names' : List Text) (indexes indexes' : List ℕ) (old left : ℕ) : Type 0 where
    pub split : done ++ rest ≡ every
    pub settled : list_all (keyword_settled S (within S m) above place v) done ≡ true
    pub verdict : valid ≡ (accepts (S.schema place) && list_all (passes S (within S m) above place v) (visited done))
    pub of_names : names' ≡ names ++ names_in S (within S m) above place v done
    pub of_indexes : indexes' ≡ indexes ++ indexes_in S (within S m) above place v done
    pub condition : branch ≡ condition_in S (within S m) above place v done
    pub matching : count ≡ matching_in S (within S m) above place v done
    pub spent : (left + sum_by nodes_of (visited done)) + 1 ≡ old

  -- both together, as the loop over the keywords that are visited keeps them; a quiet walk reports nothing
  pub record KeywordsLoop {C : Type 0} (takes : C → Event → C → Type 0) (listed : List Member) (valid : Bool)
      (branch : Option Bool) (count : ℕ) (names names' : List Text) (indexes indexes' : List ℕ) (old left : ℕ)
      (keyword instance : Text) (c d : C) : Type 0 where
    pub done : List Member
    pub rest : List Member
    pub are : listed ≡ visited rest
    pub so : KeywordsSoFar done rest valid branch count names names' indexes indexes' old left
    pub reported : quiet ≡ false → (at : Location) → IsAt at keyword instance
        → KeywordsReported S m above place v takes at done c d

  -- the same at the next one that is visited
  pub record KeywordsNext {C : Type 0} (takes : C → Event → C → Type 0) (k : Member) (listed : List Member)
      (valid : Bool) (branch : Option Bool) (count : ℕ) (names names' : List Text) (indexes indexes' : List ℕ)
      (old left : ℕ) (keyword instance : Text) (c d : C) : Type 0 where
    pub done : List Member
    pub rest : List Member
    pub here : is_visited quiet k ≡ true
    pub are : listed ≡ visited rest
    pub so : KeywordsSoFar done (k ∷ rest) valid branch count names names' indexes indexes' old left
    pub reported : quiet ≡ false → (at : Location) → IsAt at keyword instance
        → KeywordsReported S m above place v takes at done c d

  -- and where none is left to visit
  pub record KeywordsLast {C : Type 0} (takes : C → Event → C → Type 0) (valid : Bool) (branch : Option Bool)
      (count : ℕ) (names names' : List Text) (indexes indexes' : List ℕ) (old left : ℕ) (keyword instance : Text)
      (c d : C) : Type 0 where
    pub so : KeywordsSoFar every [] valid branch count names names' indexes indexes' old left
    pub reported : quiet ≡ false → (at : Location) → IsAt at keyword instance
        → KeywordsReported S m above place v takes at every c d

  -- a keyword that isn't visited changes nothing
  pass_over : (k : Member) (done rest : List Member) (valid : Bool) (branch : Option Bool) (count : ℕ)
      (names names' : List Text) (indexes indexes' : List ℕ) (old left : ℕ)
      → is_visited quiet k ≡ false → KeywordsSoFar done (k ∷ rest) valid branch count names names' indexes indexes' old
      left → KeywordsSoFar (done ++ k ∷ []) rest valid branch count names names' indexes indexes' old left
  pass_over k done rest valid branch count names names' indexes indexes' old left h so =
      let e = asks_none quiet k h S (within S m) above place v in
      let x = none_visited (is_visited quiet) done k h in
      let z : 0 ≡ length (filter (λ a. (within S m).holds (above ++ place ∷ []) a.place a.value)
      (asks S (within S m) above place v k)) = ap (λ l. length
      (filter (λ a. (within S m).holds (above ++ place ∷ []) a.place a.value) l)) (sym e) in
      record {
        split = append_assoc done (k ∷ []) rest ∙ so.split;
        settled = list_all-append (keyword_settled S (within S m) above place v) done (k ∷ [])
            ∙ and_true so.settled (and_true (ap (list_all (settled_at S m (above ++ place ∷ []))) e) refl);
        verdict = so.verdict
            ∙ ap (λ l. accepts (S.schema place) && list_all (passes S (within S m) above place v) l) (sym x);
        of_names = so.of_names ∙ ap (λ l. names ++ l) (sym (flat_more (gives_names S (within S m) above place v) done k
            ∙ (ap (λ l. names_in S (within S m) above place v done ++ l)
            (gives_no_names quiet k h S (within S m) above place v)
            ∙ append-nil (names_in S (within S m) above place v done))));
        of_indexes = so.of_indexes ∙ ap (λ l. indexes ++ l)
            (sym (flat_more (gives_indexes S (within S m) above place v) done k
            ∙ (ap (λ l. indexes_in S (within S m) above place v done ++ l)
            (gives_no_indexes quiet k h S (within S m) above place v)
            ∙ append-nil (indexes_in S (within S m) above place v done))));
        condition = so.condition ∙ sym (condition_more S (within S m) above place v done k 0 z
            ∙ condition_kept quiet k h 0 (condition_in S (within S m) above place v done));
        matching = so.matching ∙ sym (matching_more S (within S m) above place v done k 0 z
            ∙ matching_kept quiet k h 0 (matching_in S (within S m) above place v done));
        spent = let f = ap (sum_by nodes_of) x in let i = so.spent in omega (arith, f, i);
      }

  apart : (b c : Bool) → b ≡ false → c ≡ true → b ≡ c → ⊥
  apart b c e f g = let z : true ≡ false = sym f ∙ (sym g ∙ e) in cc

  module _ {C : Type 0} (takes : C → Event → C → Type 0) (valid : Bool) (branch : Option Bool) (count : ℕ)
      (names names' : List Text) (indexes indexes' : List ℕ) (old left : ℕ) (keyword instance : Text) (c d : C) where
    next_at : (b : Bool) (x k : Member) (listed done rest : List Member) → is_visited quiet x ≡ b
        → k ∷ listed ≡ cond b (x ∷ visited rest) (visited rest)
        → KeywordsSoFar done (x ∷ rest) valid branch count names names' indexes indexes' old left
        → (quiet ≡ false → (at : Location) → IsAt at keyword instance
        → KeywordsReported S m above place v takes at done c d)
        → (is_visited quiet x ≡ false → k ∷ listed ≡ visited rest
        → KeywordsNext takes k listed valid branch count names names' indexes indexes' old
        left keyword instance c d)
        → KeywordsNext takes k listed valid branch count names names' indexes indexes' old left keyword instance c d
    next_at true x k listed done rest h e so reported more =
        let i : x ≡ k = cc in
        record {
          done = done;
          rest = rest;
          here = ap (is_visited quiet) (sym i) ∙ h;
          are = cc;
          so = subst (λ y. KeywordsSoFar done (y ∷ rest) valid branch count names names' indexes indexes' old
              left) i so;
          reported = reported;
        }
    next_at false x k listed done rest h e so reported more = more h e

    next_from : (k : Member) (listed done rest : List Member) → k ∷ listed ≡ visited rest
        → KeywordsSoFar done rest valid branch count names names' indexes indexes' old left
        → (quiet ≡ false → (at : Location) → IsAt at keyword instance
        → KeywordsReported S m above place v takes at done c d)
        → KeywordsNext takes k listed valid branch count names names' indexes indexes' old left keyword instance c d
    next_from k listed done [] e so reported = cc
    next_from k listed done (x ∷ rest) e so reported =
        next_at (is_visited quiet x) x k listed done rest refl e so reported
        (λ h f. next_from k listed (done ++ x ∷ []) rest f (pass_over x done rest valid branch count names names'
        indexes indexes' old left h so)
        (λ q. absurd (apart (is_visited quiet x) (is_visited false x) h (all_visited x) (ap (λ b. is_visited b x) q))))

    pub at_next : (k : Member) (listed : List Member)
        → KeywordsLoop takes (k ∷ listed) valid branch count names names' indexes indexes' old left keyword instance c d
        → KeywordsNext takes k listed valid branch count names names' indexes indexes' old left keyword instance c d
    at_next k listed loop = next_from k listed loop.done loop.rest loop.are loop.so loop.reported

    end_at : (b : Bool) (x : Member) (rest : List Member) {A : Type 0} → is_visited quiet x ≡ b
        → [] ≡ cond b (x ∷ visited rest) (visited rest) → (is_visited quiet x ≡ false → [] ≡ visited rest → A) → A
    end_at true x rest h e more = absurd (let z : (x ∷ visited rest) ≡ [] = sym e in cc)
    end_at false x rest h e more = more h e

    end_from : (done rest : List Member) → [] ≡ visited rest
        → KeywordsSoFar done rest valid branch count names names' indexes indexes' old left
        → (quiet ≡ false → (at : Location) → IsAt at keyword instance
        → KeywordsReported S m above place v takes at done c d)
        → KeywordsLast takes valid branch count names names' indexes indexes' old left keyword instance c d
    end_from done [] e so reported =
        let i : done ≡ every = sym (append-nil done) ∙ so.split in
        record {
          so = subst (λ l. KeywordsSoFar l [] valid branch count names names' indexes indexes' old left) i so;
          reported = subst (λ l. quiet ≡ false → (at : Location) → IsAt at keyword instance
              → KeywordsReported S m above place v takes at l c d) i reported;
        }
    end_from done (x ∷ rest) e so reported =
        end_at (is_visited quiet x) x rest refl e
        (λ h f. end_from (done ++ x ∷ []) rest f (pass_over x done rest valid branch count names names'
        indexes indexes' old left h so)
        (λ q. absurd (apart (is_visited quiet x) (is_visited false x) h (all_visited x) (ap (λ b. is_visited b x) q))))

    pub at_end : KeywordsLoop takes [] valid branch count names names' indexes indexes' old left keyword instance c d
        → KeywordsLast takes valid branch count names names' indexes indexes' old left keyword instance c d
    at_end loop = end_from loop.done loop.rest loop.are loop.so loop.reported

  pub keywords_start : (valid : Bool) (names : List Text) (indexes : List ℕ) (old left : ℕ)
      → valid ≡ accepts (S.schema place) → left + 1 ≡ old
      → KeywordsSoFar [] every valid None 0 names names indexes indexes old left
  keywords_start valid names indexes old left a e =
      record {
        split = refl;
        settled = refl;
        verdict = a ∙ alone (accepts (S.schema place));
        of_names = sym (append-nil names);
        of_indexes = sym (append-nil indexes);
        condition = refl;
        matching = refl;
        spent = omega (arith, e);
      }
    where
      alone : (b : Bool) → b ≡ (b && true)
      alone true = refl
      alone false = refl

  module _ (k : Member) (done rest : List Member) (valid : Bool) (branch : Option Bool) (count : ℕ)
      (names names' : List Text) (indexes indexes' : List ℕ) (old left : ℕ)
      (so : KeywordsSoFar done (k ∷ rest) valid branch count names names' indexes indexes' old left)
      (before : IsAsBefore S m above place v done k) where
    -- what it is asked by is what it asks for
    abbrev apps : List (Application P)
    apps = asked_by S m (above ++ place ∷ []) place v k branch (drop (length names) names')
        (drop (length indexes) indexes')

    apps_is : apps ≡ asks S (within S m) above place v k
    apps_is =
        let n : drop (length names) names' ≡ names_in S (within S m) above place v done =
        ap (drop (length names)) so.of_names ∙ drop-append_seam names _ in
        let i : drop (length indexes) indexes' ≡ indexes_in S (within S m) above place v done =
        ap (drop (length indexes)) so.of_indexes ∙ drop-append_seam indexes _ in
        let c = so.condition in
        let b = before.same_asks in
        cc

    pub keyword_more : is_visited quiet k ≡ true → (b : Bool) (succeeded : ℕ) (names'' : List Text)
        (indexes'' : List ℕ) (left' : ℕ)
        → KeywordWalked S m (above ++ place ∷ []) place v k count apps b succeeded names' names''
        indexes' indexes'' left left'
        → KeywordsSoFar (done ++ k ∷ []) rest (valid && b) (condition_step (which_keyword k.0) succeeded branch)
        (matching_step (which_keyword k.0) succeeded count) names names'' indexes indexes'' old left'
    unfolding names_given indexes_given passes_by unit_by
    keyword_more here b succeeded names'' indexes'' left' w =
        let e = apps_is in
        let x = more_visited (is_visited quiet) done k here in
        let c = so.matching in
        let p : passes_by S m (above ++ place ∷ []) place v k count apps ≡ passes S (within S m) above place v k =
        ap (λ l. passes_by S m (above ++ place ∷ []) place v k count l) e
        ∙ (ap (λ n. passes_by S m (above ++ place ∷ []) place v k n (asks S (within S m) above place v k)) c
        ∙ ap (λ u. u.valid) (before.same_unit (record { keyword = []; instance = [] }))) in
        let h = w.holding ∙ ap (λ l. length (filter (λ a. (within S m).holds (above ++ place ∷ [])
        a.place a.value) l)) e in
        record {
          split = append_assoc done (k ∷ []) rest ∙ so.split;
          settled = list_all-append (keyword_settled S (within S m) above place v) done (k ∷ [])
              ∙ and_true so.settled (and_true (ap (list_all (settled_at S m (above ++ place ∷ [])))
              (sym e) ∙ w.settled) refl);
          verdict =
              let q = ap (list_all (passes S (within S m) above place v)) x
              ∙ list_all-append (passes S (within S m) above place v) (visited done) (k ∷ []) in
              let r = w.verdict ∙ p in
              and_more (accepts (S.schema place)) (list_all (passes S (within S m) above place v) (visited done))
              (passes S (within S m) above place v k) valid b _ so.verdict r q;
          of_names = one_gives_more (gives_names S (within S m) above place v) done k names names' names''
              (names_given S m (above ++ place ∷ []) (which_keyword k.0)) _ _ p e w.of_names refl so.of_names;
          of_indexes = one_gives_more (gives_indexes S (within S m) above place v) done k indexes indexes' indexes''
              (indexes_given S m (above ++ place ∷ []) (which_keyword k.0)) _ _ p e w.of_indexes refl so.of_indexes;
          condition = ap (condition_step (which_keyword k.0) succeeded) so.condition
              ∙ sym (condition_more S (within S m) above place v done k succeeded h);
          matching = ap (matching_step (which_keyword k.0) succeeded) so.matching
              ∙ sym (matching_more S (within S m) above place v done k succeeded h);
          spent =
              let f = ap (sum_by (nodes_at S m (above ++ place ∷ []))) e in
              let g = ap (sum_by nodes_of) x in
              omega (
                arith,
                so.spent,
                w.spent,
                f,
                g,
                sum_by-append nodes_of (visited done) (k ∷ []),
                sum_by-cons nodes_of k [],
              );
        }
      where
        and_more : (a p q valid b r : Bool) → valid ≡ (a && p) → b ≡ q → r ≡ (p && (q && true))
            → (valid && b) ≡ (a && r)
        and_more true true true valid b r e f g = cc
        and_more true true false valid b r e f g = cc
        and_more true false q valid b r e f g = cc
        and_more false p q valid b r e f g = cc

    pub keyword_reported_more : {C : Type 0} (takes : C → Event → C → Type 0) (at : Location) (c d e : C)
        → KeywordsReported S m above place v takes at done c d
        → KeywordReported S m (above ++ place ∷ []) place v k takes at
        count apps d e → KeywordsReported S m above place v takes at (done ++ k ∷ []) c e
    keyword_reported_more takes at c d e h t =
        let u : unit_by S m (above ++ place ∷ []) place v k at count apps ≡ keyword_unit S m above place at v k =
        ap (λ l. unit_by S m (above ++ place ∷ []) place v k at count l) apps_is
        ∙ (ap (λ n. unit_by S m (above ++ place ∷ []) place v k at n (asks S (within S m) above place v k))
        so.matching ∙ before.same_unit at) in
        record {
          forest = h.forest ⊹ tree (keyword_unit S m above place at v k) t.forest empty;
          nodes = keywords_more S m above place at v done h.forest k t.forest h.nodes
              (subst (λ l. AreSchemaNodes S m (above ++ place ∷ []) (at_keyword_named at k.0) l
              t.forest) apps_is t.nodes);
          passes = subst (λ es. Passes takes (opening (pointer_text at.keyword) (S.absolute place None)
              (pointer_text at.instance) ∷ es) c e) (sym (events_beside h.forest
              (tree (keyword_unit S m above place at v k) t.forest empty)))
              (passes-append takes (opening (pointer_text at.keyword) (S.absolute place None) (pointer_text at.instance)
              ∷ events_of h.forest) _ c d e h.passes
              (subst (λ w. Passes takes (events_of (tree w t.forest empty)) d e) u t.passes));
        }

    pub keyword_is_none : KeywordHasNone S m (above ++ place ∷ []) place v k apps left
        → HasNone S (suc m) above place v old
    unfolding within node_total
    keyword_is_none none =
        elim none [
          | inl s ↦ inl (subst (λ ks. list_all (keyword_settled S (within S m) above place v) ks ≡ false) so.split
              (list_all-append (keyword_settled S (within S m) above place v) done (k ∷ rest)
              ∙ unsettled (list_all (keyword_settled S (within S m) above place v) done)
              (keyword_settled S (within S m) above place v k) _ (ap
              (list_all (settled_at S m (above ++ place ∷ []))) (sym apps_is) ∙ s)))
          | inr x ↦ inr (let f = ap (sum_by (nodes_at S m (above ++ place ∷ []))) apps_is in
              let g = ap (sum_by (nodes_of_keyword S (within S m) (node_total S m) above place v)) so.split in
              let few = sum_apart (is_visited quiet) nodes_of done in
              omega (
                arith,
                x,
                so.spent,
                f,
                g,
                few,
                sum_by-append nodes_of done (k ∷ rest),
                sum_by-cons nodes_of k rest,
              ))
        ]
      where
        unsettled : (a b c : Bool) → b ≡ false → (a && (b && c)) ≡ false
        unsettled true b c e = cc
        unsettled false b c e = refl

  -- those that aren't visited are judged, and their nodes are subtracted
  ended_loud : (o : Others) (valid' : Bool) (branch : Option Bool) (count : ℕ) (valid : Bool) (names names' : List Text)
      (indexes indexes' : List ℕ) (old left left' : ℕ)
      → quiet ≡ false → KeywordsSoFar every [] valid branch count names names' indexes indexes' old left
      → (o.pass ≡ true) × (o.count ≡ 0) → valid' ≡ (valid && o.pass) → left' + o.count ≡ left
      → KeywordsEnd S m above place v valid' names names' indexes indexes' old left'
  ended_loud o valid' branch count valid names names' indexes indexes' old left left' q so judged f g =
      let x : visited every ≡ every = every_visited (is_visited quiet)
      (λ k. ap (λ b. is_visited b k) q ∙ all_visited k) every in
      record {
        settled = so.settled;
        verdict = f ∙ (ap (λ b. valid && b) judged.0 ∙ (by_itself valid
            ∙ (so.verdict ∙ ap (λ l. accepts (S.schema place) && list_all (passes S (within S m) above place v) l) x)));
        of_names = so.of_names;
        of_indexes = so.of_indexes;
        spent = let n = judged.1 in let y = ap (sum_by nodes_of) x in let i = so.spent in omega (arith, n, y, i, g);
      }
    where
      by_itself : (b : Bool) → (b && true) ≡ b
      by_itself true = refl
      by_itself false = refl

  ended_quiet : IsAscending (entries (S.schema place))
      → (o : Others) (valid' : Bool) (branch : Option Bool) (count : ℕ) (valid : Bool) (names names' : List Text)
      (indexes indexes' : List ℕ) (old left left' : ℕ)
      → quiet ≡ true → KeywordsSoFar every [] valid branch count names names' indexes indexes' old left
      → AreJudged S place v count o.pass o.count → valid' ≡ (valid && o.pass) → left' + o.count ≡ left
      → KeywordsEnd S m above place v valid' names names' indexes indexes' old left'
  unfolding keywords_at
  ended_quiet ascending o valid' branch count valid names names' indexes indexes' old left left' q so judged f g =
      let n : count ≡ verdict.matching S (within S m) above place v = so.matching
      ∙ matching_of_all S m above place v ascending in
      let others = filter (λ k. not (is_visited quiet k)) every in
      let same : list_all (passes S (within S m) above place v) others
      ≡ list_all (λ k. passes_at S place v (verdict.matching S (within S m) above place v) k []) others =
      all_same (λ k. not (is_visited quiet k)) (passes S (within S m) above place v)
      (λ k. passes_at S place v (verdict.matching S (within S m) above place v) k [])
      (others_pass S (within S m) above place v quiet (verdict.matching S (within S m) above place v)) every in
      let alone : sum_by nodes_of others ≡ length others =
      ones (λ k. not (is_visited quiet k)) nodes_of (others_alone S (within S m) above place v quiet
      (node_total S m)) every in
      let w = rw (n, sym q) at judged.verdict in
      let y = rw (sym q) at judged.many in
      record {
        settled = so.settled;
        verdict = all_of (accepts (S.schema place)) (list_all (passes S (within S m) above place v) (visited every))
            (list_all (passes S (within S m) above place v) others) valid o.pass valid'
            (list_all (passes S (within S m) above place v) every) so.verdict (w ∙ sym same) f
            (all_apart (is_visited quiet) (passes S (within S m) above place v) every);
        of_names = so.of_names;
        of_indexes = so.of_indexes;
        spent = let i = so.spent in let z = sum_apart (is_visited quiet) nodes_of every in
            omega (arith, y, i, g, z, alone);
      }
    where
      all_of : (a p r valid pass valid' t : Bool) → valid ≡ (a && p) → pass ≡ r → valid' ≡ (valid && pass)
          → t ≡ (p && r) → valid' ≡ (a && t)
      all_of true true r valid pass valid' t e f g h = cc
      all_of true false r valid pass valid' t e f g h = cc
      all_of false p r valid pass valid' t e f g h = cc

  too_few : (o : Others) (branch : Option Bool) (count : ℕ) (valid : Bool) (names names' : List Text)
      (indexes indexes' : List ℕ) (old left : ℕ)
      → quiet ≡ true → KeywordsSoFar every [] valid branch count names names' indexes indexes' old left
      → AreJudged S place v count o.pass o.count → left < o.count → HasNone S (suc m) above place v old
  unfolding node_total keywords_at
  too_few o branch count valid names names' indexes indexes' old left q so judged few =
      let others = filter (λ k. not (is_visited quiet k)) every in
      let alone : sum_by nodes_of others ≡ length others =
      ones (λ k. not (is_visited quiet k)) nodes_of (others_alone S (within S m) above place v quiet
      (node_total S m)) every in
      let y = rw (sym q) at judged.many in
      let i = so.spent in let z = sum_apart (is_visited quiet) nodes_of every in
      inr (omega (arith, y, i, few, z, alone))

  pub ended : (b : Bool) → quiet ≡ b → IsAscending (entries (S.schema place))
      → (o : Others) (branch : Option Bool) (count : ℕ) (valid : Bool) (names names' : List Text)
      (indexes indexes' : List ℕ) (old left left' : ℕ)
      → KeywordsSoFar every [] valid branch count names names' indexes indexes' old left
      → AreJudgedIf S place b v count o → left' + o.count ≡ left
      → KeywordsEnd S m above place v (valid && o.pass) names names' indexes indexes' old left'
  ended true q ascending o branch count valid names names' indexes indexes' old left left' so judged e =
      ended_quiet ascending o (valid && o.pass) branch count valid names names' indexes indexes' old left
      left' q so judged refl e
  ended false q ascending o branch count valid names names' indexes indexes' old left left' so judged e =
      ended_loud o (valid && o.pass) branch count valid names names' indexes indexes' old left left' q so judged refl e

  pub ended_too_large : (b : Bool) → quiet ≡ b → (o : Others) (branch : Option Bool) (count : ℕ) (valid : Bool)
      (names names' : List Text) (indexes indexes' : List ℕ) (old left : ℕ)
      → KeywordsSoFar every [] valid branch count names names' indexes indexes' old left
      → AreJudgedIf S place b v count o → left < o.count → HasNone S (suc m) above place v old
  ended_too_large true q o branch count valid names names' indexes indexes' old left so judged few =
      too_few o branch count valid names names' indexes indexes' old left q so judged few
  ended_too_large false q o branch count valid names names' indexes indexes' old left so judged few =
      absurd (let n = judged.1 in omega (arith, n, few))

  pub ended_reported : {C : Type 0} (takes : C → Event → C → Type 0) (b : Bool) → quiet ≡ b
      → (quiet ≡ true → (c d : C) (e : Event) → takes c e d) → (at : Location) (valid : Bool) (said : Note) (c d e : C)
      → list_all (keyword_settled S (within S m) above place v) every ≡ true
      → (within S (suc m)).settled above place v ≡ true
      → (quiet ≡ false → KeywordsReported S m above place v takes at every c d)
      → valid ≡ (within S (suc m)).holds above place v → said ≡ schema_note (S.schema place)
      → takes d (closing valid said) e
      → NodeReported S (suc m) above place v takes at c e
  ended_reported takes true q any at valid said c d e s t h p n l =
      node_unreported S m above place v takes (any q) at c e t
  ended_reported takes false q any at valid said c d e s t h p n l =
      node_reported S m above place v takes at valid said c d e s (h q) p n l
