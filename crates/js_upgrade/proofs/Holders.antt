-- Where keywords of a schema come from, when `contains` of 2019-09 goes into another.
use Rattle.std.proofs.Common.{◌≡◌, List, [], ◌∷◌, Bool, true, false, not, ◌&&◌, Some, cond, refl, sym, ap, ◌∙◌}
use Rattle.std.proofs.Common.{codes, bytes_eq, is_some}
use Rattle.std.proofs.lemmas.Bool.{and_parts}
use Rattle.js_doc.specs.Members.{get, has_name}
use Rattle.js_doc.specs.Value.{Value, Text, Named}
use Rattle.js_doc.proofs.TokenLookup.{is_text-refl, is_text-sound}
use Rattle.js_upgrade.specs.Origin.{moves_contains, or_contains, origin, origin_by}
use Rattle.js_upgrade.specs.Schema.{change_of, holder, is_some_list}
use Rattle.js_upgrade.specs.declared.dialect.Dialect.{Dialect}
use Rattle.js_upgrade.specs.declared.keyword.Change.{Change}
use Rattle.js_upgrade.specs.declared.keyword.Change.TheVariants.{Contains}
use Rattle.js_upgrade.proofs.ByCases.{is_plain}
use Rattle.js_upgrade.proofs.Origins.{all_apart, all_from, all_other, is_apart, is_named, is_own, moves_by}
use Rattle.js_upgrade.proofs.Origins.{outputs, own_fits, stays_own}

-- ---- the name that holds `contains`

one_of : (P : Text → Type 0) (a b c : Bool) → P (codes "allOf") → P (codes "anyOf") → P (codes "oneOf")
    → P (codes "contains")
    → P (cond a (cond b (cond c (codes "contains") (codes "oneOf")) (codes "anyOf")) (codes "allOf"))
one_of P false b c w x y z = w
one_of P true false c w x y z = x
one_of P true true false w x y z = y
one_of P true true true w x y z = z

-- it is free, or `contains` has no place
free_by : (siblings : Named) (a b c : Bool) → has_name (codes "allOf") siblings ≡ a
    → has_name (codes "anyOf") siblings ≡ b → has_name (codes "oneOf") siblings ≡ c
    → has_name (cond a (cond b (cond c (codes "contains") (codes "oneOf")) (codes "anyOf")) (codes "allOf")) siblings
    ≡ true
    → cond a (cond b (cond c (codes "contains") (codes "oneOf")) (codes "anyOf")) (codes "allOf") ≡ codes "contains"
free_by siblings false b c e f g there = let wrong : true ≡ false = sym there ∙ e in absurd (cc)
free_by siblings true false c e f g there = let wrong : true ≡ false = sym there ∙ f in absurd (cc)
free_by siblings true true false e f g there = let wrong : true ≡ false = sym there ∙ g in absurd (cc)
free_by siblings true true true e f g there = refl

free : (siblings : Named) → has_name (holder siblings) siblings ≡ true → holder siblings ≡ codes "contains"
free siblings there =
    free_by siblings (has_name (codes "allOf") siblings) (has_name (codes "anyOf") siblings)
    (has_name (codes "oneOf") siblings) refl refl refl there

others : (siblings : Named) (ns : List Text) → all_apart ns ≡ true → all_other ns (holder siblings) ≡ true
others siblings ns e =
    let first = and_parts (all_other ns (codes "allOf"))
    (all_other ns (codes "anyOf") && (all_other ns (codes "oneOf") && all_other ns (codes "contains"))) e in
    let second = and_parts (all_other ns (codes "anyOf"))
    (all_other ns (codes "oneOf") && all_other ns (codes "contains")) first.1 in
    let third = and_parts (all_other ns (codes "oneOf")) (all_other ns (codes "contains")) second.1 in
    one_of (λ h. all_other ns h ≡ true) (has_name (codes "allOf") siblings) (has_name (codes "anyOf") siblings)
    (has_name (codes "oneOf") siblings) first.0 second.0 third.0 third.1

-- ---- what other keywords give

from_by : (moves here : Bool) (old k : Text) → bytes_eq old k ≡ true → (moves ≡ true → not here ≡ true)
    → bytes_eq (cond (moves && here) (codes "contains") old) k ≡ true
from_by false here old k e apart = e
from_by true false old k e apart = e
from_by true true old k e apart = let wrong : false ≡ true = apart refl in absurd (cc)

from_all : (moves : Bool) (h : Text) (f : Text → Text) (k : Text) (ns : List Text) → all_from f k ns ≡ true
    → (moves ≡ true → all_other ns h ≡ true) → all_from (or_contains moves h f) k ns ≡ true
from_all moves h f k [] e apart = refl
from_all moves h f k (n ∷ ns) e apart =
    let p = and_parts (bytes_eq (f n) k) (all_from f k ns) e in
    ap (λ b. b && all_from (or_contains moves h f) k ns)
    (from_by moves (bytes_eq n h) (f n) k p.0
    (λ is. (and_parts (not (bytes_eq n h)) (all_other ns h) (apart is)).0))
    ∙ from_all moves h f k ns p.1 (λ is. (and_parts (not (bytes_eq n h)) (all_other ns h) (apart is)).1)

apart_by : (apart moves : Bool) → cond apart true (not moves) ≡ true → moves ≡ true → apart ≡ true
apart_by true moves e is = refl
apart_by false true e is = absurd (cc)
apart_by false false e is = absurd (cc)

kept_by : (moves here : Bool) (h old k : Text) → bytes_eq k h ≡ here → old ≡ k
    → (k ≡ h → h ≡ codes "contains") → cond (moves && here) (codes "contains") old ≡ k
kept_by false here h old k is e more = e
kept_by true false h old k is e more = e
kept_by true true h old k is e more =
    let same : k ≡ h = is_text-sound k h is in sym (same ∙ more same)

module _ (d : Dialect) (siblings : Named) (k : Text) where
  abbrev listed : Bool
  listed = is_some_list (get (codes "items") siblings)

  abbrev change : Change
  change = change_of d siblings k

  parts : (all_from (origin_by d listed) k (outputs listed change) ≡ true) × (is_own d listed k change ≡ true)
  parts =
      and_parts (all_from (origin_by d listed) k (outputs listed change)) (is_own d listed k change)
      (own_fits d siblings listed k)

  own_parts : (is_named change k ≡ true) × (is_apart d listed change && moves_by d change ≡ true)
  own_parts = and_parts (is_named change k) (is_apart d listed change && moves_by d change) parts.1

  pub named_own : is_named change k ≡ true
  named_own = own_parts.0

  more_parts : (is_apart d listed change ≡ true) × (moves_by d change ≡ true)
  more_parts = and_parts (is_apart d listed change) (moves_by d change) own_parts.1

  -- each name that the keyword gives comes from it
  pub fits_all : all_from (origin d siblings) k (outputs listed change) ≡ true
  fits_all =
      from_all (moves_contains d) (holder siblings) (origin_by d listed) k (outputs listed change) parts.0
      (λ is. others siblings (outputs listed change)
      (apart_by (all_apart (outputs listed change)) (moves_contains d) more_parts.0 is))

  -- one that stays comes from itself
  pub stays_itself : (v : Value) → get k siblings ≡ Some v → is_plain change ≡ true → origin d siblings k ≡ k
  stays_itself v got plain =
      kept_by (moves_contains d) (bytes_eq k (holder siblings)) (holder siblings) (origin_by d listed k) k refl
      (stays_own d siblings listed k plain)
      (λ same. free siblings (sym (ap (λ n. has_name n siblings) same) ∙ ap is_some got))

  -- `contains` is where it goes
  pub holds_it : change ≡ Contains → origin d siblings (holder siblings) ≡ k
  holds_it is =
      let moves : moves_contains d ≡ true = sym (ap (moves_by d) is) ∙ more_parts.1 in
      let named : k ≡ codes "contains" =
      is_text-sound k (codes "contains") (sym (ap (λ c. is_named c k) is) ∙ named_own) in
      ap (λ b. cond (b && bytes_eq (holder siblings) (holder siblings)) (codes "contains")
      (origin_by d listed (holder siblings))) moves
      ∙ ap (λ b. cond b (codes "contains") (origin_by d listed (holder siblings))) (is_text-refl (holder siblings))
      ∙ sym named
