-- What a keyword asks for, application by application.
use Rattle.std.specs.Prelude.{◌≡◌, ℕ, ◌+◌, Bool, true, false, ◌&&◌, cond, List, [], ◌∷◌}
use Rattle.std.specs.Prelude.{◌++◌, filter, length, take, drop, refl}
use Rattle.std.specs.List.{list_all}
use Rattle.std.proofs.Common.{sym, ◌∙◌, ap, subst, arith, inl, inr, append-nil}
use Rattle.std.proofs.Math.Seq.{take-append_seam, drop-append_seam}
use Rattle.std.proofs.lemmas.List.{append_assoc, length-append}
use Rattle.std.proofs.lemmas.List.Elements.{filter-append}
use Rattle.std.proofs.lemmas.List.Folds.{list_all-append}
use Rattle.std.proofs.lemmas.List.Sums.{sum_by-append, sum_by-cons}
use Rattle.js_doc.specs.Pointer.{pointer_text}
use Rattle.js_tree.specs.Forest.{empty, tree, ◌⊹◌}
use Rattle.js_eval.specs.Applications.{Application}
use Rattle.js_eval.specs.Evaluated.{name_in_step, index_in_step, names_origin, indexes_origin}
use Rattle.js_eval.specs.Location.{Location, at_application, step_tokens}
use Rattle.js_eval.specs.SchemaSet.{Text, SchemaSet}
use Rattle.js_eval.specs.Verdict.{within}
use Rattle.js_keyword.specs.declared.keyword.Keyword.{Keyword}
use Rattle.js_eval.proofs.Lists.{and_true}
use Rattle.js_tree.specs.Events.{Event, Passes, events, events_of}
use Rattle.js_eval.specs.Walk.Keeping.{keeps}
use Rattle.js_eval.specs.declared.evaluation.keeping.Origin.{Origin}
use Rattle.js_eval.specs.Walk.Progress.{IsAt, at_step, EachWalked, EachReported, SomeHasNone}
use Rattle.js_eval.specs.Walk.Progress.{NodeWalked, NodeReported, HasNone}
use Rattle.js_eval.specs.Walk.Progress.{settled_at, holds_at, nodes_at, names_given, indexes_given}
use Rattle.js_eval.proofs.Recursion.Sources.{names_of_none, indexes_of_none, names_more, indexes_more}
use Rattle.js_tree.proofs.EventSequences.{passes-append}
use Rattle.js_eval.proofs.Recursion.EventsInTurn.{events_beside, pointer_text_append, nodes_more}

IsAt_step : {P : Type 0} (at : Location) (keyword instance : Text) (a : Application P) → IsAt at keyword instance
    → IsAt (at_application at a) (at_step keyword a.step) (at_step instance a.at)
unfolding at_step
IsAt_step at keyword instance a h =
    record {
      schemas = ap (λ t. t ++ pointer_text (step_tokens a.step)) h.schemas
          ∙ sym (pointer_text_append at.keyword (step_tokens a.step));
      value = ap (λ t. t ++ pointer_text (step_tokens a.at)) h.value
          ∙ sym (pointer_text_append at.instance (step_tokens a.at));
    }

pub kept_behind : {A : Type 0} (f : List A → List A) (base given list list' : List A) → list ≡ base ++ given
    → list' ≡ take (length base) list ++ f (drop (length base) list) → list' ≡ base ++ f given
kept_behind f base given list list' e g =
    let h : take (length base) list ≡ base = ap (take (length base)) e ∙ take-append_seam base given in
    let i : drop (length base) list ≡ given = ap (drop (length base)) e ∙ drop-append_seam base given in
    cc

-- what is known behind the base grows by what one application more gives
given_behind : {A : Type 0} (s : Origin) (b b' : Bool) (own below base list list' kept given given' : List A) → b ≡ b'
    → list ≡ base ++ given → list' ≡ list ++ below
    → kept ≡ take (length list) list' ++ keeps s b own (drop (length list) list')
    → given' ≡ given ++ keeps s b' own below → kept ≡ base ++ given'
given_behind s b b' own below base list list' kept given given' v u e f y =
    let x = kept_behind (keeps s b own) list below list' kept e f in
    let z = append_assoc base given (keeps s b' own below) in cc

counted_more : {X : Type 0} (p : X → Bool) (xs : List X) (x : X)
    → length (filter p (xs ++ x ∷ [])) ≡ length (filter p xs) + cond (p x) 1 0
counted_more p xs x = ap length (filter-append p xs (x ∷ []))
    ∙ (length-append (filter p xs) (filter p (x ∷ [])) ∙ ap (λ n. length (filter p xs) + n) (one (p x)))
  where
    one : (b : Bool) → length (cond b (x ∷ []) []) ≡ cond b 1 0
    one true = refl
    one false = refl

module _ {P C : Type 0} (S : SchemaSet P) (n : ℕ) (path : List P) (κ : Keyword) (takes : C → Event → C
    → Type 0) where
  -- all but the rest are walked and reported
  pub record EachSoFar (all rest : List (Application P)) (asked succeeded : ℕ) (names names' : List Text)
      (indexes indexes' : List ℕ) (old left : ℕ) (keyword instance : Text) (c d : C) : Type 0 where
    pub done : List (Application P)
    pub split : done ++ rest ≡ all
    pub walked : EachWalked S n path κ done asked succeeded names names' indexes indexes' old left
    pub reported : (at : Location) → IsAt at keyword instance → EachReported S n path takes at done c d

  pub each_start : (all : List (Application P)) (names : List Text) (indexes : List ℕ) (old : ℕ)
      (keyword instance : Text) (c : C) → EachSoFar all all 0 0 names names indexes indexes old old keyword instance c c
  each_start all names indexes old keyword instance c =
      record {
        done = [];
        split = refl;
        walked = record {
          settled = refl;
          many = refl;
          holding = refl;
          of_names = sym (ap (λ l. names ++ l) (names_of_none S n path κ) ∙ append-nil names);
          of_indexes = sym (ap (λ l. indexes ++ l) (indexes_of_none S n path κ) ∙ append-nil indexes);
          spent = omega arith;
        };
        reported = λ at h. record { forest = empty; nodes = tt; passes = refl };
      }

  pub each_more : (all rest : List (Application P)) (a : Application P) (asked succeeded : ℕ)
      (names names' names₁ names₂ : List Text) (indexes indexes' indexes₁ indexes₂ : List ℕ) (old left left₁ : ℕ)
      (keyword instance : Text) (c d e : C) (holds : Bool)
      → EachSoFar all (a ∷ rest) asked succeeded names names' indexes indexes' old left keyword instance c d
      → NodeWalked S n path a.place a.value holds names' names₁ indexes' indexes₁ left left₁
      → ((at : Location) → IsAt at (at_step keyword a.step) (at_step instance a.at)
      → NodeReported S n path a.place a.value takes at d e)
      → names₂ ≡ take (length names') names₁ ++ keeps (names_origin κ) holds (name_in_step a.at)
      (drop (length names') names₁)
      → indexes₂ ≡ take (length indexes') indexes₁ ++ keeps (indexes_origin κ) holds (index_in_step a.at)
      (drop (length indexes') indexes₁)
      → EachSoFar all rest (asked + 1) (succeeded + cond holds 1 0) names names₂ indexes indexes₂ old
      left₁ keyword instance c e
  each_more all rest a asked succeeded names names' names₁ names₂ indexes indexes' indexes₁ indexes₂ old left left₁
      keyword
      instance c d e holds so node reports f g =
      let w = so.walked in
      record {
        done = so.done ++ a ∷ [];
        split = append_assoc so.done (a ∷ []) rest ∙ so.split;
        walked = record {
          settled = list_all-append (settled_at S n path) so.done (a ∷ [])
              ∙ and_true w.settled (and_true node.settled refl);
          many = ap (λ m. m + 1) w.many ∙ sym (length-append so.done (a ∷ []));
          holding = let x = counted_more (holds_at S n path) so.done a in let y = node.verdict in
              let z = w.holding in cc;
          of_names = given_behind (names_origin κ) holds (holds_at S n path a) (name_in_step a.at)
              ((within S n).names path a.place a.value) names names' names₁ names₂ (names_given S n path κ so.done) _
              node.verdict w.of_names node.of_names f (names_more S n path κ so.done a node.settled);
          of_indexes = given_behind (indexes_origin κ) holds (holds_at S n path a) (index_in_step a.at)
              ((within S n).indexes path a.place a.value) indexes indexes' indexes₁ indexes₂
              (indexes_given S n path κ so.done) _
              node.verdict w.of_indexes node.of_indexes g (indexes_more S n path κ so.done a node.settled);
          spent = omega (
            arith,
            w.spent,
            node.spent,
            sum_by-append (nodes_at S n path) so.done (a ∷ []),
            sum_by-cons
                (nodes_at S n path) a [],
          );
        };
        reported = λ at h.
            let before = so.reported at h in
            let here = IsAt_step at keyword instance a h in
            let t = reports (at_application at a) here in
            record {
              forest = before.forest ⊹ tree t.result.root t.result.below empty;
              nodes = nodes_more S n path at so.done before.forest a t.result before.nodes t.node;
              passes = subst (λ es. Passes takes es c e) (sym (events_beside before.forest
                  (tree t.result.root t.result.below empty)))
                  (passes-append takes (events_of before.forest) (events t.result) c d e before.passes t.passes);
            };
      }

  pub each_none : (all rest : List (Application P)) (a : Application P) (asked succeeded : ℕ) (names names' : List Text)
      (indexes indexes' : List ℕ) (old left : ℕ) (keyword instance : Text) (c d : C)
      → EachSoFar all (a ∷ rest) asked succeeded names names' indexes indexes' old left keyword instance c d
      → HasNone S n path a.place a.value left → SomeHasNone S n path all old
  each_none all rest a asked succeeded names names' indexes indexes' old left keyword instance c d so none =
      subst (λ xs. SomeHasNone S n path xs old) so.split
      (elim none [
        | inl s ↦ inl (list_all-append (settled_at S n path) so.done (a ∷ rest)
            ∙ unsettled (list_all (settled_at S n path) so.done) _
            (ap (λ b. b && list_all (settled_at S n path) rest) s))
        | inr m ↦ inr (omega (
          arith,
          m,
          so.walked.spent,
          sum_by-append (nodes_at S n path) so.done (a ∷ rest),
          sum_by-cons (nodes_at S n path) a rest,
        ))
      ])
    where
      unsettled : (b c : Bool) → c ≡ false → (b && c) ≡ false
      unsettled true c e = e
      unsettled false c e = refl

  pub each_end : (all : List (Application P)) (asked succeeded : ℕ) (names names' : List Text)
      (indexes indexes' : List ℕ)
      (old left : ℕ) (keyword instance : Text) (c d : C)
      → EachSoFar all [] asked succeeded names names' indexes indexes' old left keyword instance c d
      → EachWalked S n path κ all asked succeeded names names' indexes indexes' old left
      × ((at : Location) → IsAt at keyword instance → EachReported S n path takes at all c d)
  each_end all asked succeeded names names' indexes indexes' old left keyword instance c d so =
      let e : so.done ≡ all = sym (append-nil so.done) ∙ so.split in (
        subst (λ xs. EachWalked S n path κ xs asked succeeded names names' indexes indexes' old left) e so.walked,
        λ at h.
            subst (λ xs. EachReported S n path takes at xs c d) e (so.reported at h),
      )
