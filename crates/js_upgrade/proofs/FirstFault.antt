-- Loops that look for the first fault.
use Rattle.std.proofs.Common.{◌≡◌, ℕ, ◌+◌, ◌<◌, List, [], ◌∷◌, ◌++◌, Option, Some, None, true, false, map, get_or}
use Rattle.std.proofs.Common.{length, drop, take, reverse, decimal, is_some, option_map, append_assoc, sym, ap, ◌∙◌}
use Rattle.std.proofs.lemmas.List.{drop_more, take_more, reverse-append}
use Rattle.url.specs.Parts.{Parts}
use Rattle.js_doc.specs.Pointer.{Tokens}
use Rattle.js_doc.specs.Seen.{value_of, pair_of}
use Rattle.js_doc.specs.Value.{Text, Named, Values, object, members}
use Rattle.js_doc.specs.declared.doc.Doc.{Doc}
use Rattle.js_doc.proofs.PartLists.{member_list-members}
use Rattle.js_upgrade.specs.Dialect.{first_of}
use Rattle.js_upgrade.specs.Fault.{FoundFault, deeper, fault_in, member_fault, schema_fault}
use Rattle.js_upgrade.specs.Resource.{Resource, own_base}
use Rattle.js_upgrade.specs.Seen.{found_of}
use Rattle.js_upgrade.specs.Upgrade.{holding_in, own_dialect}
use Rattle.js_upgrade.specs.code.FaultBelow.{fault_below}
use Rattle.js_upgrade.specs.declared.dialect.Dialect.{Dialect}
use Rattle.js_upgrade.specs.declared.fault.Pass.{Pass}
use Rattle.js_upgrade.specs.declared.finding.FoundFault as rust
use Rattle.js_upgrade.specs.declared.holding.SchemaHolding.TheVariants.{One}
use Rattle.js_upgrade.proofs.Loops.{Pairs}

-- ---- what was found in one part decides, or the rest does

module _ (token : Text) (rest : Option FoundFault) where
  goes_on : (found : Option rust.FoundFault) (f : Option FoundFault) → option_map found_of found ≡ f
      → is_some found ≡ false
      → first_of (option_map (deeper token) f) rest ≡ rest
  goes_on None f is none = ap (λ g. first_of (option_map (deeper token) g) rest) (sym is)
  goes_on (Some r) f is none = absurd (cc)

  stops : (found : Option rust.FoundFault) (f : Option FoundFault) → option_map found_of found ≡ f → is_some found
      ≡ true
      → first_of (option_map (deeper token) f) rest ≡ option_map (deeper token) (option_map found_of found)
  stops None f is some = absurd (cc)
  stops (Some r) f is some = ap (λ g. first_of (option_map (deeper token) g) rest) (sym is)

-- ---- a schema comes before those that it holds

here_found : (here : Option rust.FoundFault) (f rest : Option FoundFault) → option_map found_of here ≡ f
    → is_some here ≡ true
    → option_map found_of here ≡ first_of f rest
here_found None f rest is some = absurd (cc)
here_found (Some r) f rest is some = ap (λ g. first_of g rest) is

not_here : (here : Option rust.FoundFault) (f rest : Option FoundFault) → option_map found_of here ≡ f
    → is_some here ≡ false
    → first_of f rest ≡ rest
not_here None f rest is none = ap (λ g. first_of g rest) (sym is)
not_here (Some r) f rest is none = absurd (cc)

module _ (pass : Pass) (all : List Resource) (d own : Dialect) (base below : Parts) (siblings : Named) where
  abbrev rest_of_them : Option FoundFault
  rest_of_them = member_fault pass all (holding_in own siblings) own below (members siblings)

  pub schema_stops : (here : Option rust.FoundFault)
      → option_map found_of here ≡ schema_fault pass all d own base below siblings
      → is_some here ≡ true → option_map found_of here ≡ fault_below pass all d own base below siblings
  schema_stops here is some = here_found here (schema_fault pass all d own base below siblings) rest_of_them is some

  pub schema_goes_on : (here : Option rust.FoundFault)
      → option_map found_of here ≡ schema_fault pass all d own base below siblings → is_some here ≡ false
      → rest_of_them ≡ fault_below pass all d own base below siblings
  schema_goes_on here is none =
      sym (not_here here (schema_fault pass all d own base below siblings) rest_of_them is none)

  pub schema_is : own ≡ own_dialect d siblings → below ≡ own_base own base siblings
      → fault_below pass all d own base below siblings ≡ fault_in pass all One d base (object (members siblings))
  schema_is same based =
      ap (λ b. fault_below pass all d own base b siblings) based
      ∙ ap (λ e. fault_below pass all d e base (own_base e base siblings) siblings) same
      ∙ ap (λ ns. let e = own_dialect d ns in let b = own_base e base ns in
      first_of (schema_fault pass all d e base b ns) (member_fault pass all (holding_in e ns) e b (members siblings)))
      (sym (member_list-members siblings))

-- ---- members, one after the other, where g is the first fault in them

module _ (g : Named → Option FoundFault) (found : Option rust.FoundFault) (f : Option FoundFault) (old left : Pairs)
    (m : List ℕ × Doc) (whole : Option FoundFault) where
  abbrev pub Unfolds : Type 0
  Unfolds = g (pair_of m ∷ map pair_of left)
      ≡ first_of (option_map (deeper m.0) f) (g (map pair_of left))

  pub member_next : Unfolds → old ≡ m ∷ left → option_map found_of found ≡ f → is_some found ≡ false
      → g (map pair_of old) ≡ whole → g (map pair_of left) ≡ whole
  member_next unfolds step is none before =
      sym (goes_on m.0 (g (map pair_of left)) found f is none)
      ∙ sym (ap (λ es. g (map pair_of es)) step ∙ unfolds) ∙ before

  pub member_stops : Unfolds → old ≡ m ∷ left → option_map found_of found ≡ f → is_some found ≡ true
      → g (map pair_of old) ≡ whole → option_map (deeper m.0) (option_map found_of found) ≡ whole
  member_stops unfolds step is some before =
      sym (stops m.0 (g (map pair_of left)) found f is some)
      ∙ sym (ap (λ es. g (map pair_of es)) step ∙ unfolds) ∙ before

pub members_end : (g : Named → Option FoundFault) (old entries : Pairs) (schemas : Named) → g [] ≡ None → old ≡ []
    → map pair_of entries ≡ schemas → g (map pair_of old) ≡ g (map pair_of entries) → None ≡ g schemas
members_end g old entries schemas unfolds none seen before =
    sym unfolds ∙ sym (ap (λ es. g (map pair_of es)) none) ∙ before ∙ ap g seen

-- ---- the same of items

module _ (g : ℕ → Values
    → Option FoundFault) (found : Option rust.FoundFault) (f : Option FoundFault) (ds : List Doc) (i : ℕ)
    (x : Doc) (whole : Option FoundFault)
    (unfolds : (vs : Values) → g i (value_of x ∷ vs) ≡ first_of (option_map (deeper (decimal i)) f) (g (i + 1) vs))
    (low : i < length ds) (at : x ≡ get_or ds i x) where
  this_one : g i (map value_of (drop i ds))
      ≡ first_of (option_map (deeper (decimal i)) f) (g (i + 1) (map value_of (drop (i + 1) ds)))
  this_one =
      ap (λ ws. g i (map value_of ws)) (drop_more ds i x low)
      ∙ ap (λ y. g i (value_of y ∷ map value_of (drop (i + 1) ds))) (sym at)
      ∙ unfolds (map value_of (drop (i + 1) ds))

  pub item_next : option_map found_of found ≡ f → is_some found ≡ false → g i (map value_of (drop i ds)) ≡ whole
      → g (i + 1) (map value_of (drop (i + 1) ds)) ≡ whole
  item_next is none before =
      sym (goes_on (decimal i) (g (i + 1) (map value_of (drop (i + 1) ds))) found f is none) ∙ sym this_one ∙ before

  pub item_stops : option_map found_of found ≡ f → is_some found ≡ true → g i (map value_of (drop i ds)) ≡ whole
      → option_map (deeper (decimal i)) (option_map found_of found) ≡ whole
  item_stops is some before =
      sym (stops (decimal i) (g (i + 1) (map value_of (drop (i + 1) ds))) found f is some) ∙ sym this_one ∙ before

-- ---- the way back, from its end on

pub back_next : (back place new : Tokens) (t : Text) (j i : ℕ) (whole : Tokens) → j + 1 ≡ i → j < length back
    → t ≡ get_or back j t → new ≡ place ++ t ∷ [] → place ++ reverse (take i back) ≡ whole
    → new ++ reverse (take j back) ≡ whole
back_next back place new t j i whole next low at pushed before =
    let step : reverse (take i back) ≡ t ∷ reverse (take j back) =
    ap (λ n. reverse (take n back)) (sym next) ∙ ap reverse (take_more back j t low)
    ∙ reverse-append (take j back) (get_or back j t ∷ []) ∙ ap (λ x. x ∷ reverse (take j back)) (sym at) in
    ap (λ p. p ++ reverse (take j back)) pushed ∙ append_assoc place (t ∷ []) (reverse (take j back))
    ∙ sym (ap (λ ts. place ++ ts) step) ∙ before
