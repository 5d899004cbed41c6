-- What a keyword becomes comes from it.
use Rattle.std.proofs.Common.{◌≡◌, List, [], ◌∷◌, Bool, true, false, not, ◌&&◌, ◌||◌, Option, Some, None, cond}
use Rattle.std.proofs.Common.{refl, sym, ap, ◌∙◌, codes, bytes_eq, unwrap_or}
use Rattle.std.proofs.lemmas.Bool.{and_parts}
use Rattle.js_doc.specs.Value.{Text, Named}
use Rattle.js_doc.proofs.TokenLookup.{is_text-sound}
use Rattle.js_upgrade.specs.Dialect.{found, first_of}
use Rattle.js_upgrade.specs.Keyword.{applicator_change, applicator_rows, assertion_change, assertion_rows}
use Rattle.js_upgrade.specs.Keyword.{change_in, core_rows, core_change, or_stays}
use Rattle.js_upgrade.specs.Origin.{moves_contains, origin_by, origin_rows}
use Rattle.js_upgrade.specs.Schema.{beside_reference, change_of, hides}
use Rattle.js_upgrade.specs.declared.dialect.Dialect.{Dialect}
use Rattle.js_upgrade.specs.declared.keyword.Change.{Change}
use Rattle.js_upgrade.specs.declared.keyword.Change.TheVariants.{Identifier, Definitions, Items, AdditionalItems}
use Rattle.js_upgrade.specs.declared.keyword.Change.TheVariants.{Dependencies, Minimum, Maximum, Divisor, Types}
use Rattle.js_upgrade.specs.declared.keyword.Change.TheVariants.{Disallowed, Extended, Properties}
use Rattle.js_upgrade.specs.declared.keyword.Change.TheVariants.{Contains, Anchor, RecursiveReference, RecursiveAnchor}
use Rattle.js_upgrade.proofs.ByCases.{by_dialect, by_sibling, is_plain}
use Rattle.js_upgrade.proofs.Agreeing.{beside_plain}

-- ---- the names that a change gives, where it isn't the keyword's own

abbrev pub outputs : Bool → Change → List Text
outputs listed Identifier = codes "$id" ∷ codes "$anchor" ∷ []
outputs listed Definitions = codes "$defs" ∷ []
outputs listed Items = cond listed (codes "prefixItems") (codes "items") ∷ []
outputs listed AdditionalItems = cond listed (codes "items" ∷ []) []
outputs listed Dependencies = codes "dependentRequired" ∷ codes "dependentSchemas" ∷ []
outputs listed Minimum = codes "exclusiveMinimum" ∷ codes "minimum" ∷ []
outputs listed Maximum = codes "exclusiveMaximum" ∷ codes "maximum" ∷ []
outputs listed Divisor = codes "multipleOf" ∷ []
outputs listed Types = codes "type" ∷ codes "anyOf" ∷ []
outputs listed Disallowed = codes "not" ∷ []
outputs listed Extended = codes "allOf" ∷ []
outputs listed Properties = codes "properties" ∷ codes "required" ∷ []
outputs listed RecursiveReference = codes "$dynamicRef" ∷ []
outputs listed Anchor = codes "$anchor" ∷ []
outputs listed RecursiveAnchor = codes "$dynamicAnchor" ∷ []
outputs listed _ = []

abbrev pub all_from : (Text → Text) → Text → List Text → Bool
all_from f k [] = true
all_from f k (n ∷ ns) = bytes_eq (f n) k && all_from f k ns

-- the change is one keyword's own
abbrev pub is_named : Change → Text → Bool
is_named Items k = bytes_eq k (codes "items")
is_named Contains k = bytes_eq k (codes "contains")
is_named _ k = true

-- none of them is the name
abbrev pub all_other : List Text → Text → Bool
all_other [] h = true
all_other (n ∷ ns) h = not (bytes_eq n h) && all_other ns h

-- none of them holds `contains`
abbrev pub all_apart : List Text → Bool
all_apart ns =
    all_other ns (codes "allOf")
    && (all_other ns (codes "anyOf") && (all_other ns (codes "oneOf") && all_other ns (codes "contains")))

-- `contains` moves in that dialect alone
abbrev pub moves_by : Dialect → Change → Bool
moves_by d Contains = moves_contains d
moves_by d _ = true

abbrev pub is_apart : Dialect → Bool → Change → Bool
is_apart d listed change = cond (all_apart (outputs listed change)) true (not (moves_contains d))

abbrev pub is_own : Dialect → Bool → Text → Change → Bool
is_own d listed k change = is_named change k && (is_apart d listed change && moves_by d change)

abbrev pub fits : Dialect → Bool → Text → Change → Bool
fits d listed k change = all_from (origin_by d listed) k (outputs listed change) && is_own d listed k change

-- ---- the tables, line by line

abbrev all_fit : Dialect → Bool → List (Text × Change) → Bool
all_fit d listed [] = true
all_fit d listed (row ∷ rows) = fits d listed row.0 row.1 && all_fit d listed rows

core_fits : (d : Dialect) (listed : Bool) → all_fit d listed (core_rows d) ≡ true
core_fits d true = by_dialect (λ e. all_fit e true (core_rows e) ≡ true) refl refl refl refl refl refl d
core_fits d false = by_dialect (λ e. all_fit e false (core_rows e) ≡ true) refl refl refl refl refl refl d

applicators_fit : (d : Dialect) (listed : Bool) → all_fit d listed (applicator_rows d) ≡ true
applicators_fit d true = by_dialect (λ e. all_fit e true (applicator_rows e) ≡ true) refl refl refl refl refl refl d
applicators_fit d false = by_dialect (λ e. all_fit e false (applicator_rows e) ≡ true) refl refl refl refl refl refl d

assertions_fit : (d : Dialect) (listed : Bool) → all_fit d listed (assertion_rows d) ≡ true
assertions_fit d true = by_dialect (λ e. all_fit e true (assertion_rows e) ≡ true) refl refl refl refl refl refl d
assertions_fit d false = by_dialect (λ e. all_fit e false (assertion_rows e) ≡ true) refl refl refl refl refl refl d

-- ---- what is found in them

abbrev fits_or_none : Dialect → Bool → Text → Option Change → Bool
fits_or_none d listed k None = true
fits_or_none d listed k (Some change) = fits d listed k change

found_here : (d : Dialect) (listed : Bool) (k name : Text) (change : Change) (rest : Option Change) (b : Bool)
    → bytes_eq k name ≡ b → fits d listed name change ≡ true → fits_or_none d listed k rest ≡ true
    → fits_or_none d listed k (cond b (Some change) rest) ≡ true
found_here d listed k name change rest true is here more =
    ap (λ n. fits d listed n change) (is_text-sound k name is) ∙ here
found_here d listed k name change rest false is here more = more

found_fits : (d : Dialect) (listed : Bool) (k : Text) (rows : List (Text × Change)) → all_fit d listed rows ≡ true
    → fits_or_none d listed k (found rows k) ≡ true
found_fits d listed k [] e = refl
found_fits d listed k (row ∷ rows) e =
    let parts = and_parts (fits d listed row.0 row.1) (all_fit d listed rows) e in
    found_here d listed k row.0 row.1 (found rows k) (bytes_eq k row.0) refl parts.0
    (found_fits d listed k rows parts.1)

first_fits : (d : Dialect) (listed : Bool) (k : Text) (a b : Option Change) → fits_or_none d listed k a ≡ true
    → fits_or_none d listed k b ≡ true → fits_or_none d listed k (first_of a b) ≡ true
first_fits d listed k None b e f = f
first_fits d listed k (Some change) b e f = e

or_fits : (d : Dialect) (listed : Bool) (k : Text) (a : Option Change) → fits_or_none d listed k a ≡ true
    → fits d listed k (or_stays d a) ≡ true
or_fits d listed k None e = refl
or_fits d listed k (Some change) e = e

change_fits : (d : Dialect) (listed : Bool) (k : Text) → fits d listed k (change_in d k) ≡ true
unfolding core_change applicator_change assertion_change
change_fits d listed k =
    or_fits d listed k (first_of (assertion_change d k) (first_of (applicator_change d k) (core_change d k)))
    (first_fits d listed k (assertion_change d k) (first_of (applicator_change d k) (core_change d k))
    (found_fits d listed k (assertion_rows d) (assertions_fit d listed))
    (first_fits d listed k (applicator_change d k) (core_change d k)
    (found_fits d listed k (applicator_rows d) (applicators_fit d listed))
    (found_fits d listed k (core_rows d) (core_fits d listed))))

-- ---- a name that stays is its own

abbrev row_keeps : Dialect → Text × Text → Bool
row_keeps d row = bytes_eq row.1 row.0 || not (is_plain (change_in d row.0))

abbrev all_keep : Dialect → List (Text × Text) → Bool
all_keep d [] = true
all_keep d (row ∷ rows) = row_keeps d row && all_keep d rows

origins_keep : (d : Dialect) (listed : Bool) → all_keep d (origin_rows d listed) ≡ true
unfolding core_change applicator_change assertion_change
origins_keep d true = by_dialect (λ e. all_keep e (origin_rows e true) ≡ true) refl refl refl refl refl refl d
origins_keep d false = by_dialect (λ e. all_keep e (origin_rows e false) ≡ true) refl refl refl refl refl refl d

kept_by : (same plain : Bool) (old new : Text) → bytes_eq old new ≡ same → same || not plain ≡ true → plain ≡ true
    → old ≡ new
kept_by true plain old new is e p = is_text-sound old new is
kept_by false true old new is e p = absurd (cc)
kept_by false false old new is e p = absurd (cc)

kept_here : (d : Dialect) (k : Text) (row : Text × Text) (rest : Option Text) (b : Bool) → bytes_eq k row.0 ≡ b
    → row_keeps d row ≡ true → is_plain (change_in d k) ≡ true → unwrap_or rest k ≡ k
    → unwrap_or (cond b (Some row.1) rest) k ≡ k
kept_here d k row rest true is here plain more =
    let same : k ≡ row.0 = is_text-sound k row.0 is in
    kept_by (bytes_eq row.1 row.0) (is_plain (change_in d row.0)) row.1 row.0 refl here
    (sym (ap (λ n. is_plain (change_in d n)) same) ∙ plain) ∙ sym same
kept_here d k row rest false is here plain more = more

found_kept : (d : Dialect) (k : Text) (rows : List (Text × Text)) → all_keep d rows ≡ true
    → is_plain (change_in d k) ≡ true → unwrap_or (found rows k) k ≡ k
found_kept d k [] e plain = refl
found_kept d k (row ∷ rows) e plain =
    let parts = and_parts (row_keeps d row) (all_keep d rows) e in
    kept_here d k row (found rows k) (bytes_eq k row.0) refl parts.0 plain (found_kept d k rows parts.1 plain)

plain_own : (d : Dialect) (listed : Bool) (k : Text) → is_plain (change_in d k) ≡ true → origin_by d listed k ≡ k
plain_own d listed k plain = found_kept d k (origin_rows d listed) (origins_keep d listed) plain

-- ---- beside a reference too

beside_fits : (d : Dialect) (listed : Bool) (k : Text) (change : Change) → fits d listed k change ≡ true
    → fits d listed k (beside_reference change) ≡ true
beside_fits d listed k change =
    by_sibling (λ c b. fits d listed k c ≡ true → fits d listed k b ≡ true) (λ e. refl) (λ e. e) (λ e. refl)
    (λ c e. refl) change

fits_by : (hidden : Bool) (d : Dialect) (listed : Bool) (k : Text)
    → fits d listed k (cond hidden (beside_reference (change_in d k)) (change_in d k)) ≡ true
fits_by true d listed k = beside_fits d listed k (change_in d k) (change_fits d listed k)
fits_by false d listed k = change_fits d listed k

pub own_fits : (d : Dialect) (siblings : Named) (listed : Bool) (k : Text)
    → fits d listed k (change_of d siblings k) ≡ true
own_fits d siblings listed k = fits_by (hides d siblings) d listed k

plain_by : (hidden : Bool) (d : Dialect) (listed : Bool) (k : Text)
    → is_plain (cond hidden (beside_reference (change_in d k)) (change_in d k)) ≡ true → origin_by d listed k ≡ k
plain_by true d listed k plain = plain_own d listed k (beside_plain (change_in d k) plain).0
plain_by false d listed k plain = plain_own d listed k plain

pub stays_own : (d : Dialect) (siblings : Named) (listed : Bool) (k : Text)
    → is_plain (change_of d siblings k) ≡ true → origin_by d listed k ≡ k
stays_own d siblings listed k plain = plain_by (hides d siblings) d listed k plain
