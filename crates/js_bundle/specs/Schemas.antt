-- What is asked of finished schemas. A place is recorded by its number in scan order.
use Rattle.std.specs.Prelude.{◌≡◌, ℕ, ◌+◌, ◌<◌, List, [], ◌∷◌, ◌++◌, Bool, true, false, Option, Some}
use Rattle.std.specs.Prelude.{None, option_and_then, option_map, find, decimal, bytes_eq, slice_get}
use Rattle.std.specs.Prelude.{length, map, Ok, Err, codes, if◌then◌else◌}
use Rattle.std.specs.Borrow.{Bor}
use Rattle.std.specs.List.{range_with_len}
use Rattle.std.specs.Option.{option_map_or}
use Rattle.url.specs.Parts.{Parts}
use Rattle.url.specs.Parser.{Parsed, parse_url}
use Rattle.js_doc.specs.Pointer.{Tokens}
use Rattle.js_doc.specs.Value.{Value}
use Rattle.js_doc.specs.Parts.{members_of}
use Rattle.js_assert.specs.Assertion.{Asserted, asserted}
use Rattle.js_keyword.specs.declared.argument_form.Holding.{Holding}
use Rattle.js_keyword.specs.declared.argument_form.Holding.TheVariants.{One, Listed, Named}
use Rattle.js_bundle.specs.declared.place.Step as rust
use Rattle.js_bundle.specs.declared.place.Step.TheVariants as rust_step
use Rattle.js_bundle.specs.declared.refusal.EntryFault.{EntryFault}
use Rattle.js_bundle.specs.declared.refusal.EntryFault.TheVariants as fault
use Rattle.js_bundle.specs.Document.{Documents}
use Rattle.js_bundle.specs.Keyword.{Text, argument, has_argument}
use Rattle.js_bundle.specs.Names.{stands_at, known_as, named, is_read}
use Rattle.js_bundle.specs.Place.{holding, items_in}
pub use Rattle.js_bundle.specs.PlaceNumber.{place_at, is_place, path_at}
use Rattle.js_bundle.specs.Resource.{Site, sites}
use Rattle.js_bundle.specs.Url.{longest_uri, decoded_fragment}

-- ---- numbers

-- the place of this number has the keyword
abbrev pub has_keyword : Text → Documents → ℕ → Bool
has_keyword keyword documents n =
    option_map_or (λ place. has_argument keyword place.schema) (place_at documents n) false

-- the number is that of a place which is found
abbrev pub StandsFor : Documents → ℕ → Option Site → Type 0
StandsFor documents n found = (place : Site) × (found ≡ Some place) × (place_at documents n ≡ Some place)

-- a number is answered exactly where a place is found, and it is that place's
abbrev pub Finds : Documents → Option ℕ → Option Site → Type 0
Finds documents None found = found ≡ None
Finds documents (Some n) found = StandsFor documents n found

-- ---- below a place (JSON Schema Core, sections 10 and 11)

-- one step through a keyword: to the schema that it holds, to an item of its list, to a member of its object
pub data Step : Type 0 where
  Alone : Step
  Index : ℕ → Step
  Name : Text → Step

abbrev pub step_of : rust.Step → Step
step_of rust_step.Alone = Alone
step_of (rust_step.Index i) = Index i
step_of (rust_step.Name name) = Name name.now

-- the keyword holds schemas so
abbrev pub fits : Holding → Step → Bool
fits One Alone = true
fits Listed (Index i) = true
fits Named (Name name) = true
fits _ _ = false

abbrev pub step_tokens : Step → Tokens
step_tokens Alone = []
step_tokens (Index i) = decimal i ∷ []
step_tokens (Name name) = name ∷ []

-- the place that a keyword of a place holds at the step
abbrev pub below : Documents → Site → Text → Step → Option Site
below documents place keyword step =
    if fits (holding keyword) step then find (stands_at place.document (place.pointer ++ keyword ∷ step_tokens step))
    (sites documents) else None

-- the keyword of this schema holds a schema at the step
abbrev pub Holds : Value → Text → Step → Value → Type 0
Holds schema k Alone u = (holding k ≡ One) × (argument k schema ≡ Some u)
Holds schema k (Index i) u = (holding k ≡ Listed)
    × ((l : Value) × (argument k schema ≡ Some l) × (slice_get (items_in l) i ≡ Some u))
Holds schema k (Name n) u = (holding k ≡ Named) × ((l : Value) × (argument k schema ≡ Some l) × (argument n l ≡ Some u))

-- a place is found, and this schema stands there
abbrev pub FindsSchema : Documents → Option ℕ → Value → Type 0
FindsSchema documents None u = ⊥
FindsSchema documents (Some n) u = (place : Site) × (place_at documents n ≡ Some place) × (place.schema ≡ u)

-- ---- what is built of a place's keywords

-- the assertion of a keyword of the place, if it has that keyword and it is one
abbrev pub assertion : Text → Site → Option Asserted
assertion keyword place =
    option_and_then (λ v. asserted keyword v (members_of place.schema)) (argument keyword place.schema)

-- the pattern of this name among the `patternProperties` of the place; a pattern is seen as its text
abbrev pub pattern : Text → Site → Option Text
pattern name place = option_and_then (λ v. option_map (λ u. name) (argument name v))
    (argument (codes "patternProperties") place.schema)

-- ---- where a judgement begins (section 9.2.1)

abbrev pub entry : Documents → Parsed Parts → Option Site
entry documents (Ok uri) = named (sites documents) uri
entry documents (Err e) = None

-- no URI, or one whose fragment isn't read
abbrev pub IsBadEntry : Parsed Parts → Type 0
IsBadEntry (Ok uri) = is_read (decoded_fragment uri) ≡ false
IsBadEntry (Err e) = Unit {0}

abbrev pub IsReadEntry : Parsed Parts → Type 0
IsReadEntry (Ok uri) = is_read (decoded_fragment uri) ≡ true
IsReadEntry (Err e) = ⊥

-- when a URI that is one is refused so
abbrev pub IsNameFault : Documents → Parts → EntryFault → Type 0
IsNameFault documents uri fault.Memory = Unit {0}
IsNameFault documents uri fault.BadUri = is_read (decoded_fragment uri) ≡ false
IsNameFault documents uri fault.Unresolved =
    (is_read (decoded_fragment uri) ≡ true) × (named (sites documents) uri ≡ None)
IsNameFault documents uri fault.UriTooLong = ⊥

-- when an entry is refused so, each fault after those above it; want of memory may come at any time
abbrev pub IsEntryFault : Documents → Text → EntryFault → Type 0
IsEntryFault documents uri fault.Memory = Unit {0}
IsEntryFault documents uri fault.UriTooLong = longest_uri < length uri
IsEntryFault documents uri fault.BadUri = ¬ (longest_uri < length uri) × IsBadEntry (parse_url None uri)
IsEntryFault documents uri fault.Unresolved =
    ¬ (longest_uri < length uri) × (IsReadEntry (parse_url None uri) × (entry documents (parse_url None uri) ≡ None))

-- ---- lists of all

abbrev pub place_numbers : Documents → List ℕ
place_numbers documents = range_with_len 0 (length (sites documents))

-- what each of a list gives by its number, one after another, where the first has the number n
abbrev pub numbered : {A B : Type 0} → (ℕ → A → List B) → ℕ → List A → List B
numbered f n [] = []
numbered f n (x ∷ xs) = f n x ++ numbered f (n + 1) xs

-- a document's URI and its root's base are recorded once, if they are the same
abbrev pub stated_once : List Text → List Text
stated_once [] = []
stated_once (uri ∷ []) = uri ∷ []
stated_once (uri ∷ base ∷ more) = if bytes_eq uri base then uri ∷ [] else uri ∷ base ∷ []

-- the URIs of all resources, each with the number of its root
abbrev pub resources_at : ℕ → Site → List (Text × ℕ)
resources_at n place = map (λ uri. (uri, n)) (stated_once (known_as place))

abbrev pub resources : Documents → List (Text × ℕ)
resources documents = numbered resources_at 0 (sites documents)

-- a URI that is lent, with a number
abbrev pub lent : Bor Text × ℕ → Text × ℕ
lent e = (e.0.now, e.1)
