-- A keyword is found among those of its group.
use Rattle.std.proofs.Common.{◌≡◌, ◌≢◌, ◌<◌, ◌≤◌, ℕ, List, [], ◌∷◌, ◌++◌, Bool, true, false, not}
use Rattle.std.proofs.Common.{◌&&◌, ◌||◌, Option, Some, None, cond, filter, bytes_eq, nat_lt, unwrap_or, refl, sym, ap}
use Rattle.std.proofs.Common.{◌∙◌}
use Rattle.std.proofs.lemmas.Bool.{eq-eqb, le-ltb, lt-ltb, ne_eqb}
use Rattle.std.specs.Prelude.{◌==◌}
use Rattle.js_doc.specs.Value.{Text}
use Rattle.js_doc.proofs.TokenLookup.{is_text-sound}
use Rattle.js_upgrade.specs.Dialect.{found, first_of}
use Rattle.js_upgrade.specs.Keyword.{applicator_change, applicator_rows, assertion_change, assertion_rows, change_in}
use Rattle.js_upgrade.specs.Keyword.{core_rows}
use Rattle.js_upgrade.specs.Keyword.{core_change, or_stays}
use Rattle.js_upgrade.specs.code.Initials.{change_among, initial, is_row_named, is_early, is_late, table}
use Rattle.js_upgrade.specs.declared.dialect.Dialect.{Dialect}
use Rattle.js_upgrade.specs.declared.keyword.Change.{Change}
use Rattle.js_upgrade.specs.declared.keyword.Change.TheVariants.{Stays}

found_append : (rows others : List (Text × Change)) (name : Text)
    → found (rows ++ others) name ≡ first_of (found rows name) (found others name)
found_append [] others name = refl
found_append (row ∷ rows) others name =
    by_test (bytes_eq name row.0) row.1 _ (found rows name) (found others name) (found_append rows others name)
  where
    by_test : (b : Bool) (c : Change) (whole front rest : Option Change) → whole ≡ first_of front rest
        → cond b (Some c) whole ≡ first_of (cond b (Some c) front) rest
    by_test true c whole front rest e = refl
    by_test false c whole front rest e = e

stays : (d : Dialect) (o : Option Change) → unwrap_or o Stays ≡ or_stays d o
stays d None = refl
stays d (Some change) = refl

-- a row of another group doesn't have the name
module _ (p : Text → Bool) (name : Text) (fits : p name ≡ true) where
  dropped : (b same : Bool) (row : Text × Change) (rest : Option Change) → p row.0 ≡ b
      → bytes_eq name row.0 ≡ same → (same ≡ true → b ≡ true)
      → cond same (Some row.1) rest ≡ cond b (cond same (Some row.1) rest) rest
  dropped true same row rest is alike kept = refl
  dropped false false row rest is alike kept = refl
  dropped false true row rest is alike kept = let wrong : false ≡ true = kept refl in absurd (cc)

  fits_too : (key : Text) → bytes_eq name key ≡ true → p key ≡ true
  fits_too key same = ap (λ k. p k) (sym (is_text-sound name key same)) ∙ fits

  filtered_by : (b : Bool) (row : Text × Change) (rows : List (Text × Change)) (whole : Option Change)
      → whole ≡ found rows name → cond b (cond (bytes_eq name row.0) (Some row.1) whole) whole
      ≡ found (cond b (row ∷ rows) rows) name
  filtered_by true row rows whole e = ap (cond (bytes_eq name row.0) (Some row.1)) e
  filtered_by false row rows whole e = e

  found_filtered : (rows : List (Text × Change)) → found rows name ≡ found (filter (is_row_named p) rows) name
  found_filtered [] = refl
  found_filtered (row ∷ rows) =
      dropped (p row.0) (bytes_eq name row.0) row (found rows name) refl refl (fits_too row.0)
      ∙ filtered_by (p row.0) row (filter (is_row_named p) rows) (found rows name) (found_filtered rows)

  pub by_group : (d : Dialect) → unwrap_or (change_among p d name) Stays ≡ change_in d name
  unfolding change_among core_change applicator_change assertion_change
  by_group d =
      stays d (found (filter (is_row_named p) (table d)) name)
      ∙ ap (or_stays d) (sym (found_filtered (table d))
      ∙ found_append (assertion_rows d) (applicator_rows d ++ core_rows d) name
      ∙ ap (first_of (found (assertion_rows d) name)) (found_append (applicator_rows d) (core_rows d) name))

pub answered : (p : Text → Bool) (d : Dialect) (name : Text) (found : Option Change) (change : Change)
    → change ≡ unwrap_or found Stays → found ≡ change_among p d name → p name ≡ true
    → change ≡ change_in d name
answered p d name found change is by fits = is ∙ ap (λ o. unwrap_or o Stays) by ∙ by_group p name fits d

-- ---- by the first byte

module _ (first : ℕ) (name : Text) (is : first ≡ initial name) where
  has_first : (p : ℕ → Bool) → p first ≡ true → p (initial name) ≡ true
  has_first p e = sym (ap p is) ∙ e

  pub begins : (byte : ℕ) → first ≡ byte → (initial name == byte) ≡ true
  begins byte e = has_first (λ b. b == byte) (eq-eqb first byte e)

  pub early : first ≢ 36 → first ≢ 100 → first < 105 → is_early name ≡ true
  early dollar d low =
      has_first (λ b. nat_lt b 105 && not (b == 36 || b == 100))
      (ap (λ x. x && not (first == 36 || first == 100)) (lt-ltb first 105 low)
      ∙ ap (λ x. not (x || first == 100)) (ne_eqb first 36 dollar) ∙ ap not (ne_eqb first 100 d))

  pub late : first ≢ 109 → first ≢ 112 → 105 ≤ first → is_late name ≡ true
  late m p high =
      has_first (λ b. not (nat_lt b 105 || (b == 109 || b == 112)))
      (ap (λ x. not (x || (first == 109 || first == 112))) (le-ltb first 105 high)
      ∙ ap (λ x. not (x || first == 112)) (ne_eqb first 109 m) ∙ ap not (ne_eqb first 112 p))
