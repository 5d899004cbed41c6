-- The keywords that a quiet walk visits are those among a schema's members that apply schemas, rank by rank.
use Rattle.std.specs.Prelude.{◌≡◌, ℕ, ◌+◌, ◌<◌, Bool, true, false, ◌||◌, cond, List, [], ◌∷◌, ◌++◌, Option}
use Rattle.std.specs.Prelude.{None, Some, drop, filter, length, option_map, slice_get, refl}
use Rattle.std.specs.declared.cmp.Ordering.TheVariants.{Less}
use Rattle.std.proofs.Common.{get_or, sym, ◌∙◌, ap, ap₂}
use Rattle.std.proofs.lemmas.List.{drop_more}
use Rattle.std.proofs.lemmas.List.Elements.{filter-append}
use Rattle.std.proofs.lemmas.Option.{get_or_from_slice_get, slice_get-map, slice_get_read, slice_get_within}
use Rattle.js_keyword.specs.Keyword.{applies, which_keyword}
use Rattle.js_keyword.specs.declared.keyword.Keyword.TheVariants.{Assertion, Other}
use Rattle.js_keyword.specs.declared.other_keyword.OtherKeyword.TheVariants.{Schema}
use Rattle.js_keyword.specs.declared.keyword.Keyword.{Keyword}
use Rattle.js_doc.specs.Value.{Named}
use Rattle.js_doc.specs.Members.{name_cmp, IsBelowHead, IsAscending}
use Rattle.js_eval.specs.Keywords.{Member, comes_before_else, is_else, comes_after_else}
use Rattle.js_eval.specs.Walk.Visited.{may_apply, is_visited}
use Rattle.js_eval.specs.code.Applicator.{applicators_from, has_applicator}
use Rattle.js_eval.specs.code.Standard.{keyword_names_of}
use Rattle.js_eval.specs.code.Turns.{in_order}
use Rattle.js_eval.proofs.FoundByName.{Below, all_of_filter, below_all}

-- ---- a walk that isn't quiet visits all

pub all_visited : (ms : Named) → filter (is_visited false) ms ≡ ms
unfolding is_visited
all_visited [] = refl
all_visited (m ∷ ms) = ap (λ xs. m ∷ xs) (all_visited ms)

-- ---- a member that applies schemas is visited

pub applying_is : (which : Keyword) (b : Bool) → b ≡ applies which → b ≡ may_apply which
applying_is (Assertion _) b e = e
applying_is (Other Schema) b e = e
applying_is _ b e = e

applies_visited : (m : Member) → may_apply (which_keyword m.0) ≡ is_visited true m
unfolding is_visited
applies_visited m = refl

none_at : (b c : Bool) (m : Member) (xs : Named) → (b || c) ≡ false → (c ≡ false → xs ≡ []) → cond b (m ∷ xs) xs ≡ []
none_at true c m xs h r = cc
none_at false c m xs h r = r h

pub none_visited : (ms : Named) → has_applicator (keyword_names_of ms) ≡ false → filter (is_visited true) ms ≡ []
none_visited [] h = refl
none_visited (m ∷ ms) h =
    ap (λ b. cond b (m ∷ filter (is_visited true) ms) (filter (is_visited true) ms)) (sym (applies_visited m))
    ∙ none_at (may_apply (which_keyword m.0)) (has_applicator (keyword_names_of ms)) m
    (filter (is_visited true) ms) h (none_visited ms)

-- ---- one rank after another

pub named_at : (ms : Named) (rank : ℕ) (which : Keyword) (m : Member)
    → slice_get (keyword_names_of ms) rank ≡ Some which → slice_get ms rank ≡ Some m
    → which ≡ which_keyword m.0
named_at ms rank which m h e =
    let name = λ (k : Member). which_keyword k.0 in
    let same : Some which ≡ Some (which_keyword m.0) = sym h ∙ (slice_get-map name ms rank ∙ ap (option_map name) e) in
    cc

abbrev if_visited : Bool → Named → ℕ → Member → Named
if_visited b ms rank m = cond b (m ∷ applicators_from ms (rank + 1)) (applicators_from ms (rank + 1))

one_on : (ms : Named) (rank : ℕ) (which : Keyword) (m : Member) → slice_get (keyword_names_of ms) rank ≡ Some which
    → slice_get ms rank ≡ Some m
    → applicators_from ms rank ≡ if_visited (may_apply which) ms rank m
one_on ms rank which m h e =
    ap (filter (is_visited true)) (drop_more ms rank m (slice_get_within ms rank m e)
    ∙ ap (λ x. x ∷ drop (rank + 1) ms) (get_or_from_slice_get ms rank m m e))
    ∙ ap (λ b. if_visited b ms rank m) (sym (ap may_apply (named_at ms rank which m h e) ∙ applies_visited m))

-- each name is that of a member
never_none : (ms : Named) (rank : ℕ) (which : Keyword) → slice_get (keyword_names_of ms) rank ≡ Some which
    → slice_get ms rank ≡ None → ⊥
never_none ms rank which h e =
    let name = λ (k : Member). which_keyword k.0 in
    let same : Some which ≡ None = sym h ∙ (slice_get-map name ms rank ∙ ap (option_map name) e) in
    cc

-- which keyword of the standard the member at the rank is
name_at : (ms : Named) (names : List Keyword) (rank : ℕ) (which : Keyword) → names ≡ keyword_names_of ms
    → rank < length names → which ≡ get_or names rank which
    → slice_get (keyword_names_of ms) rank ≡ Some which
name_at ms names rank which same h e = ap (λ ns. slice_get ns rank) (sym same)
    ∙ slice_get_read names (length names) rank which refl h e

-- the member at the rank applies schemas
pub taken : (ms : Named) (names : List Keyword) (rank : ℕ) (which : Keyword) (m : Member)
    → may_apply which ≡ true → slice_get ms rank ≡ Some m → names ≡ keyword_names_of ms
    → rank < length names → which ≡ get_or names rank which
    → applicators_from ms rank ≡ m ∷ applicators_from ms (rank + 1)
taken ms names rank which m t there same h e =
    one_on ms rank which m (name_at ms names rank which same h e) there ∙ ap (λ b. if_visited b ms rank m) t

-- it doesn't
pub passed_over : (ms : Named) (names : List Keyword) (rank : ℕ) (which : Keyword) → may_apply which ≡ false
    → names ≡ keyword_names_of ms
    → rank < length names → which ≡ get_or names rank which → applicators_from ms (rank + 1) ≡ applicators_from ms rank
passed_over ms names rank which f same h e = at (slice_get ms rank) refl
  where
    at : (o : Option Member) → slice_get ms rank ≡ o → applicators_from ms (rank + 1) ≡ applicators_from ms rank
    at None there = absurd (never_none ms rank which (name_at ms names rank which same h e) there)
    at (Some m) there = sym (one_on ms rank which m (name_at ms names rank which same h e) there
        ∙ ap (λ b. if_visited b ms rank m) f)

-- ---- some of ascending members

head_above : (k : List ℕ) (ms : Named) → Below k ms → IsBelowHead k ms
unfolding Below
head_above k [] h = tt
head_above k (m ∷ ms) h = h.0

chosen_at : (t : Member → Bool) (b : Bool) (m : Member) (ms : Named) → Below m.0 ms → IsAscending (filter t ms)
    → IsAscending (cond b (m ∷ filter t ms) (filter t ms))
unfolding Below
chosen_at t true m ms h r = (head_above m.0 (filter t ms) (all_of_filter (λ x. name_cmp m.0 x.0 ≡ Less) t ms h), r)
chosen_at t false m ms h r = r

pub chosen_ascend : (t : Member → Bool) (ms : Named) → IsAscending ms → IsAscending (filter t ms)
chosen_ascend t [] a = tt
chosen_ascend t (m ∷ ms) a = chosen_at t (t m) m ms (below_all ms m.0 a.0 a.1) (chosen_ascend t ms a.1)

-- ---- their order

filters_commute : (p q : Member → Bool) (xs : Named) → filter p (filter q xs) ≡ filter q (filter p xs)
filters_commute p q [] = refl
filters_commute p q (x ∷ xs) = at (p x) (q x) refl refl (filters_commute p q xs)
  where
    at : (b c : Bool) → p x ≡ b → q x ≡ c → filter p (filter q xs) ≡ filter q (filter p xs)
        → filter p (cond c (x ∷ filter q xs) (filter q xs)) ≡ filter q (cond b (x ∷ filter p xs) (filter p xs))
    at true true e f r = rw e (rw f (ap (λ l. x ∷ l) r))
    at true false e f r = rw f r
    at false true e f r = rw e r
    at false false e f r = r

pub chosen_in_order : (p : Member → Bool) (ms : Named) → in_order (filter p ms) ≡ filter p (in_order ms)
chosen_in_order p ms =
    let before = λ (k : Member). comes_before_else k.0 in
    let it = λ (k : Member). is_else k.0 in
    let after = λ (k : Member). comes_after_else k.0 in
    ap₂ (λ xs ys. xs ++ ys) (filters_commute before p ms) (ap₂ (λ xs ys. xs ++ ys) (filters_commute it p ms)
    (filters_commute after p ms) ∙ sym (filter-append p (filter it ms) (filter after ms)))
    ∙ sym (filter-append p (filter before ms) (filter it ms ++ filter after ms))
