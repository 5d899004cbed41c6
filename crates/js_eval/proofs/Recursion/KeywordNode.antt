-- A keyword's node, of what its applications gave.
use Rattle.std.specs.Prelude.{◌≡◌, ℕ, ◌+◌, Bool, true, false, cond, List, [], ◌∷◌, ◌++◌}
use Rattle.std.specs.Prelude.{Some, map, filter, length, take, refl}
use Rattle.std.proofs.Common.{sym, ◌∙◌, ap, subst, arith, inl, inr, append-nil}
use Rattle.std.proofs.Math.Seq.{take-append_seam}
use Rattle.std.proofs.lemmas.List.{length-map}
use Rattle.js_doc.specs.Pointer.{pointer_text}
use Rattle.js_doc.specs.Value.{Value, Named}
use Rattle.js_assert.specs.Argument.{entries}
use Rattle.js_eval.specs.Applications.{Application}
use Rattle.js_eval.specs.Evaluated.{names_of, indexes_of}
use Rattle.js_eval.specs.Keywords.{Member}
use Rattle.js_keyword.specs.Keyword.{which_keyword}
use Rattle.js_eval.specs.Location.{Location, at_keyword_named}
use Rattle.js_eval.specs.Note.{Note, keyword_note}
use Rattle.js_eval.specs.Passes.{how_many}
use Rattle.js_eval.specs.SchemaSet.{Text, SchemaSet}
use Rattle.js_keyword.specs.declared.keyword.Keyword.{Keyword}
use Rattle.js_keyword.specs.declared.keyword.Keyword.TheVariants.{AnyOf, Properties}
use Rattle.js_eval.proofs.HowMany.{count_of}
use Rattle.js_tree.specs.Events.{Event, opening, closing, opening_of, closing_of, events_of}
use Rattle.js_eval.specs.Walk.Said.{keyword_says}
use Rattle.js_eval.specs.Walk.Progress.{IsAt, at_name, kind_at, passes_at, says_at, EachWalked, EachReported}
use Rattle.js_eval.specs.Walk.Progress.{SomeHasNone, KeywordWalked, KeywordReported, KeywordHasNone, holds_at}
use Rattle.js_eval.specs.Walk.Progress.{names_given, indexes_given, passes_by, unit_by}
use Rattle.js_tree.proofs.EventSequences.{passes-append}
use Rattle.js_eval.proofs.Recursion.EventsInTurn.{pointer_text_append}

says_is : {P : Type 0} (siblings : Named) (v : Value) (matching : ℕ) (k : Member) (apps holding : List (Application P))
    (names : List Text) (indexes : List ℕ) (b : Bool) (κ : Keyword)
    → keyword_says siblings v matching k (length holding) (names_of apps holding names κ)
    (indexes_of apps holding indexes κ) b κ ≡ keyword_note siblings v matching k apps holding b κ
says_is siblings v matching k apps holding names indexes true Properties = refl
says_is siblings v matching k apps holding names indexes true _ = refl
says_is siblings v matching k apps holding names indexes false AnyOf = refl
says_is siblings v matching k apps holding names indexes false _ = refl

stays_if : {A : Type 0} (b : Bool) (base given list : List A) → list ≡ base ++ given
    → cond b list (take (length base) list) ≡ base ++ cond b given []
stays_if true base given list e = e
stays_if false base given list e = ap (take (length base)) e ∙ (take-append_seam base given ∙ sym (append-nil base))

module _ {P : Type 0} (S : SchemaSet P) (n : ℕ) (path : List P) (place : P) (v : Value) (k : Member) (matching : ℕ)
    (apps : List (Application P)) where
  pub keyword_walked : (b : Bool) (asked succeeded : ℕ) (names names₁ names₂ : List Text)
      (indexes indexes₁ indexes₂ : List ℕ) (old left₀ left : ℕ)
      → EachWalked S n path (kind_at k) apps asked succeeded names names₁ indexes indexes₁ left₀ left
      → left₀ + 1 ≡ old
      → ((verdicts : List Bool) → length verdicts ≡ asked → how_many verdicts ≡ succeeded
      → b ≡ passes_at S place v matching k verdicts)
      → names₂ ≡ cond b names₁ (take (length names) names₁)
      → indexes₂ ≡ cond b indexes₁ (take (length indexes) indexes₁)
      → KeywordWalked S n path place v k matching apps b succeeded names names₂ indexes indexes₂ old left
  unfolding kind_at passes_by
  keyword_walked b asked succeeded names names₁ names₂ indexes indexes₁ indexes₂ old left₀ left w e p f g =
      let r : b ≡ passes_by S n path place v k matching apps =
      p (map (holds_at S n path) apps) (length-map apps (holds_at S n path) ∙ sym w.many)
      (count_of (holds_at S n path) apps (map (holds_at S n path) apps) refl ∙ sym w.holding) in
      record {
        settled = w.settled;
        verdict = r;
        holding = w.holding;
        of_names = f ∙ (stays_if b names (names_given S n path (which_keyword k.0) apps) names₁ w.of_names
            ∙ ap (λ c. names ++ cond c (names_given S n path (which_keyword k.0) apps) []) r);
        of_indexes = g ∙ (stays_if b indexes (indexes_given S n path (which_keyword k.0) apps) indexes₁ w.of_indexes
            ∙ ap (λ c. indexes ++ cond c (indexes_given S n path (which_keyword k.0) apps) []) r);
        spent = let s = w.spent in omega (arith, s, e);
      }

  pub keyword_reported : {C : Type 0} (takes : C → Event → C → Type 0) (b : Bool) (asked succeeded : ℕ)
      (names names₁ : List Text) (indexes indexes₁ : List ℕ) (left₀ left : ℕ) (keyword instance absolute text : Text)
      (said : Note) (seg : List Text) (seg' : List ℕ) (c c' d' d : C) (at : Location)
      → IsAt at keyword instance
      → EachWalked S n path (kind_at k) apps asked succeeded names names₁ indexes indexes₁ left₀ left
      → b ≡ passes_by S n path place v k matching apps
      → text ≡ at_name keyword k
      → absolute ≡ S.absolute place (Some k.0)
      → takes c (opening text absolute instance) c'
      → ((at' : Location) → IsAt at' text instance → EachReported S n path takes at' apps c' d')
      → seg ≡ names_given S n path (kind_at k) apps
      → seg' ≡ indexes_given S n path (kind_at k) apps
      → said ≡ says_at S place v matching k succeeded seg seg' b
      → takes d' (closing b said) d
      → KeywordReported S n path place v k takes at matching apps c d
  unfolding kind_at passes_by unit_by names_given indexes_given says_at at_name
  keyword_reported takes b asked succeeded names names₁ indexes indexes₁ left₀ left keyword instance absolute text said
      seg
      seg' c c' d' d at h w p t a o each x y s e =
      let here : IsAt (at_keyword_named at k.0) text instance = record {
        schemas = t ∙ (ap (λ l. l
            ++ pointer_text (k.0 ∷ [])) h.schemas ∙ sym (pointer_text_append at.keyword (k.0 ∷ [])));
        value = h.value;
      } in
      let reported = each (at_keyword_named at k.0) here in
      let u = unit_by S n path place v k at matching apps in
      let n₁ : said ≡ u.note =
      s ∙ (ap (λ m. keyword_says (entries (S.schema place)) v matching k m seg seg' b (which_keyword k.0)) w.holding
      ∙ (ap (λ l. keyword_says (entries (S.schema place)) v matching k
      (length (filter (holds_at S n path) apps)) l seg' b (which_keyword k.0)) x
      ∙ (ap (λ l. keyword_says (entries (S.schema place)) v matching k (length (filter (holds_at S n path) apps))
      (names_given S n path (which_keyword k.0) apps) l b (which_keyword k.0)) y
      ∙ (ap (λ q. keyword_says (entries (S.schema place)) v matching k (length (filter (holds_at S n path) apps))
      (names_given S n path (which_keyword k.0) apps) (indexes_given S n path (which_keyword k.0) apps) q
      (which_keyword k.0)) p
      ∙ says_is (entries (S.schema place)) v matching k apps (filter (holds_at S n path) apps) _ _
      (passes_by S n path place v k matching apps) (which_keyword k.0))))) in
      let i : opening text absolute instance ≡ opening_of u = let q = here.schemas in let r = here.value in cc in
      let j : closing b said ≡ closing_of u = cc in
      record {
        forest = reported.forest;
        nodes = reported.nodes;
        passes = (
          c',
          subst (λ x. takes c x c') i o,
          passes-append takes (events_of reported.forest) (closing_of u ∷ [])
              c' d' d reported.passes (d, subst (λ x. takes d' x d) j e, refl),
        );
      }

  pub keyword_none : (old left₀ : ℕ) → left₀ + 1 ≡ old → SomeHasNone S n path apps left₀
      → KeywordHasNone S n path place v k apps old
  keyword_none old left₀ e none = elim none [ inl s ↦ inl s | inr m ↦ inr (omega (arith, m, e)) ]

  pub keyword_none_left : (old : ℕ) → old ≡ 0 → KeywordHasNone S n path place v k apps old
  keyword_none_left old e = inr (omega (arith, e))
