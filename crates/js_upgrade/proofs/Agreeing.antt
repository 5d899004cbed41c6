-- What stays under its name holds schemas in 2020-12 as it does in its draft.
use Rattle.std.proofs.Common.{◌≡◌, ℕ, ◌==◌, List, [], ◌∷◌, Bool, true, false, not, Option, Some, None, cond, refl, sym}
use Rattle.std.proofs.Common.{ap, ◌∙◌, subst, bytes_eq, codes}
use Rattle.std.proofs.lemmas.Bool.{eqb-true}
use Rattle.js_doc.specs.Value.{Value, Text, Named}
use Rattle.js_doc.proofs.TokenLookup.{is_text-sound}
use Rattle.js_upgrade.specs.Current.{IsCurrent}
use Rattle.js_upgrade.specs.Dialect.{found, first_of, is_before}
use Rattle.js_upgrade.specs.Keyword.{applicator_change, applicator_rows, assertion_change, assertion_rows}
use Rattle.js_upgrade.specs.Keyword.{change_in, core_rows, core_change, or_stays}
use Rattle.js_upgrade.specs.Schema.{beside_reference, change_of, hides}
use Rattle.js_upgrade.specs.Upgrade.{holding_in, holding_by_change}
use Rattle.js_upgrade.specs.declared.dialect.Dialect.{Dialect}
use Rattle.js_upgrade.specs.declared.dialect.Dialect.TheVariants.{Draft2020}
use Rattle.js_upgrade.specs.declared.keyword.Change.{Change}
use Rattle.js_upgrade.specs.declared.holding.SchemaHolding.{SchemaHolding}
use Rattle.js_upgrade.specs.declared.holding.SchemaHolding.TheVariants.{One, Listed, Named as ByName, OneOrListed}
use Rattle.js_upgrade.specs.declared.holding.SchemaHolding.TheVariants.{Nothing}
use Rattle.js_upgrade.proofs.ByCases.{by_dialect, by_sibling, is_plain}

abbrev number : SchemaHolding → ℕ
number One = 0
number Listed = 1
number ByName = 2
number OneOrListed = 3
number Nothing = 4

abbrev with_number : ℕ → SchemaHolding
with_number n =
    cond (n == 0) One (cond (n == 1) Listed (cond (n == 2) ByName (cond (n == 3) OneOrListed Nothing)))

numbered : (h : SchemaHolding) → with_number (number h) ≡ h
numbered One = refl
numbered Listed = refl
numbered ByName = refl
numbered OneOrListed = refl
numbered Nothing = refl

-- ---- the tables, line by line

abbrev agrees : Change → Change → Bool
agrees old new = cond (is_plain old) (number (holding_by_change old) == number (holding_by_change new)) true

abbrev all_agree : List (Text × Change) → List (Text × Change) → Bool
all_agree [] [] = true
all_agree [] (new ∷ news) = false
all_agree (old ∷ olds) [] = false
all_agree (old ∷ olds) (new ∷ news) = cond (agrees old.1 new.1) (all_agree olds news) false

core_agrees : (d : Dialect) → all_agree (core_rows d) (core_rows Draft2020) ≡ true
core_agrees d =
    by_dialect (λ e. all_agree (core_rows e) (core_rows Draft2020) ≡ true) refl refl refl refl refl refl d

applicators_agree : (d : Dialect) → all_agree (applicator_rows d) (applicator_rows Draft2020) ≡ true
applicators_agree d =
    by_dialect (λ e. all_agree (applicator_rows e) (applicator_rows Draft2020) ≡ true) refl refl refl refl refl refl d

assertions_agree : (d : Dialect) → all_agree (assertion_rows d) (assertion_rows Draft2020) ≡ true
assertions_agree d =
    by_dialect (λ e. all_agree (assertion_rows e) (assertion_rows Draft2020) ≡ true) refl refl refl refl refl refl d

-- ---- what is found in them

abbrev both_agree : Option Change → Option Change → Bool
both_agree None None = true
both_agree None (Some new) = false
both_agree (Some old) None = false
both_agree (Some old) (Some new) = agrees old new

abbrev names : List (Text × Change) → List Text
names [] = []
names (row ∷ rows) = row.0 ∷ names rows

abbrev first_name : List Text → Text
first_name [] = []
first_name (name ∷ others) = name

abbrev other_names : List Text → List Text
other_names [] = []
other_names (name ∷ others) = others

found_in : (here same more : Bool) (old new : Change) (olds news : Option Change) → agrees old new ≡ same
    → cond same more false ≡ true → (more ≡ true → both_agree olds news ≡ true)
    → both_agree (cond here (Some old) olds) (cond here (Some new) news) ≡ true
found_in true true more old new olds news is e next = is
found_in false true more old new olds news is e next = next e
found_in true false more old new olds news is e next = absurd (cc)
found_in false false more old new olds news is e next = absurd (cc)

found_agree : (olds news : List (Text × Change)) (name : Text) → names olds ≡ names news
    → all_agree olds news ≡ true → both_agree (found olds name) (found news name) ≡ true
found_agree [] [] name n e = refl
found_agree [] (new ∷ news) name n e = absurd (cc)
found_agree (old ∷ olds) [] name n e = absurd (cc)
found_agree (old ∷ olds) (new ∷ news) name n e =
    ap (λ k. both_agree (cond (bytes_eq name old.0) (Some old.1) (found olds name))
    (cond (bytes_eq name k) (Some new.1) (found news name))) (sym (ap first_name n))
    ∙ found_in (bytes_eq name old.0) (agrees old.1 new.1) (all_agree olds news) old.1 new.1 (found olds name)
    (found news name) refl e (found_agree olds news name (ap other_names n))

first_agrees : (a b x y : Option Change) → both_agree a x ≡ true → both_agree b y ≡ true
    → both_agree (first_of a b) (first_of x y) ≡ true
first_agrees None b None y e f = f
first_agrees None b (Some x) y e f = absurd (cc)
first_agrees (Some a) b None y e f = absurd (cc)
first_agrees (Some a) b (Some x) y e f = e

or_agrees : (d : Dialect) (a x : Option Change) → both_agree a x ≡ true
    → agrees (or_stays d a) (or_stays Draft2020 x) ≡ true
or_agrees d None None e = refl
or_agrees d None (Some x) e = absurd (cc)
or_agrees d (Some a) None e = absurd (cc)
or_agrees d (Some a) (Some x) e = e

changes_agree : (d : Dialect) (name : Text) → agrees (change_in d name) (change_in Draft2020 name) ≡ true
unfolding core_change applicator_change assertion_change
changes_agree d name =
    or_agrees d (first_of (assertion_change d name) (first_of (applicator_change d name) (core_change d name)))
    (first_of (assertion_change Draft2020 name)
    (first_of (applicator_change Draft2020 name) (core_change Draft2020 name)))
    (first_agrees (assertion_change d name) (first_of (applicator_change d name) (core_change d name))
    (assertion_change Draft2020 name) (first_of (applicator_change Draft2020 name) (core_change Draft2020 name))
    (found_agree (assertion_rows d) (assertion_rows Draft2020) name refl (assertions_agree d))
    (first_agrees (applicator_change d name) (core_change d name) (applicator_change Draft2020 name)
    (core_change Draft2020 name)
    (found_agree (applicator_rows d) (applicator_rows Draft2020) name refl (applicators_agree d))
    (found_agree (core_rows d) (core_rows Draft2020) name refl (core_agrees d))))

agreed : (old new : Change) → is_plain old ≡ true → agrees old new ≡ true → holding_by_change old
    ≡ holding_by_change new
agreed old new plain e =
    let same : (number (holding_by_change old) == number (holding_by_change new)) ≡ true =
    sym (ap (λ b. cond b (number (holding_by_change old) == number (holding_by_change new)) true) plain) ∙ e in
    sym (numbered (holding_by_change old)) ∙ ap with_number (eqb-true _ _ same) ∙ numbered (holding_by_change new)

-- ---- `$schema` doesn't stay in an older draft

abbrev pub may_stand : Bool → Text → Bool
may_stand last name = cond (bytes_eq name (codes "$schema")) last true

schema_goes : (d : Dialect) → is_plain (change_in d (codes "$schema")) ≡ true → not (is_before d Draft2020) ≡ true
unfolding core_change applicator_change assertion_change
schema_goes d =
    by_dialect (λ e. is_plain (change_in e (codes "$schema")) ≡ true → not (is_before e Draft2020) ≡ true)
    (λ e. e) (λ e. e) (λ e. e) (λ e. e) (λ e. e) (λ e. e) d

stands_by : (d : Dialect) (name : Text) (b : Bool) → bytes_eq name (codes "$schema") ≡ b
    → is_plain (change_in d name) ≡ true → cond b (not (is_before d Draft2020)) true ≡ true
stands_by d name true e plain =
    schema_goes d (sym (ap (λ k. is_plain (change_in d k)) (is_text-sound name (codes "$schema") e)) ∙ plain)
stands_by d name false e plain = refl

-- ---- a keyword that stays, as 2020-12 has it

-- as 2020-12 holds it
abbrev pub IsFit : Bool → Text → Value → Type 0
IsFit last name v = IsCurrent (holding_by_change (change_in Draft2020 name)) v × (may_stand last name ≡ true)

plain_fit : (d : Dialect) (name : Text) (v : Value) → is_plain (change_in d name) ≡ true
    → IsCurrent (holding_by_change (change_in d name)) v → IsFit (not (is_before d Draft2020)) name v
plain_fit d name v plain c = (
  subst (λ h. IsCurrent h v) (agreed (change_in d name) (change_in Draft2020 name) plain (changes_agree d name)) c,
  stands_by d name (bytes_eq name (codes "$schema")) refl plain,
)

pub beside_plain : (change : Change) → is_plain (beside_reference change) ≡ true
    → (is_plain change ≡ true) × (holding_by_change (beside_reference change) ≡ holding_by_change change)
beside_plain change =
    by_sibling (λ c b. is_plain b ≡ true
    → (is_plain c ≡ true) × (holding_by_change b ≡ holding_by_change c)) (λ e. (refl, refl)) (λ e. absurd (cc))
    (λ e. (refl, refl)) (λ c e. absurd (cc)) change

fit_by : (hidden : Bool) (d : Dialect) (name : Text) (v : Value)
    → is_plain (cond hidden (beside_reference (change_in d name)) (change_in d name)) ≡ true
    → IsCurrent (holding_by_change (cond hidden (beside_reference (change_in d name)) (change_in d name))) v
    → IsFit (not (is_before d Draft2020)) name v
fit_by true d name v plain c =
    let p = beside_plain (change_in d name) plain in
    plain_fit d name v p.0 (subst (λ h. IsCurrent h v) p.1 c)
fit_by false d name v plain c = plain_fit d name v plain c

pub stays_fit : (d : Dialect) (siblings : Named) (name : Text) (v : Value)
    → is_plain (change_of d siblings name) ≡ true → IsCurrent (holding_in d siblings name) v
    → IsFit (not (is_before d Draft2020)) name v
stays_fit d siblings name v plain c = fit_by (hides d siblings) d name v plain c
