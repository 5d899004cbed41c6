-- How the code finds places: by their numbers in the list.
use Rattle.std.specs.Prelude.{◌≡◌, ℕ, List, Bool, false, Option, Some, None, option_map}
use Rattle.std.specs.Prelude.{option_and_then, unwrap_or, codes, if◌then◌else◌}
use Rattle.url.specs.Parts.{Parts}
pub use Rattle.js_bundle.specs.code.PlaceNumbers.{number_named, under_number, is_pointer_read, IfNotRead, tokens_of}
use Rattle.js_bundle.specs.declared.refusal.Refusal.{Refusal}
use Rattle.js_bundle.specs.declared.check.fault.CheckFault.{CheckFault}
use Rattle.js_bundle.specs.declared.check.fault.CheckFault.TheVariants.{Memory, Refused}
use Rattle.js_bundle.specs.declared.check.references.DynamicReference.{DynamicReference}
use Rattle.js_bundle.specs.Keyword.{Text, text_argument}
use Rattle.js_bundle.specs.Names.{named}
use Rattle.std.specs.Option.{option_map_or}
use Rattle.js_bundle.specs.Document.{Documents}
use Rattle.js_bundle.specs.PlaceNumber.{place_at}
use Rattle.js_bundle.specs.Resource.{Site, sites}
use Rattle.js_bundle.specs.Target.{reference, first_target, is_dynamic, outermost, dynamic_ref_target}

-- that of a reference's first target
abbrev pub number_of_target : List Site → Text → Site → Option ℕ
number_of_target all keyword place = option_and_then (number_named all) (reference keyword place)

-- whether the fragment of a place's `$dynamicRef` is a name that `$dynamicAnchor` makes at its first target
abbrev pub goes_by_name : List Site → Site → Bool
goes_by_name all place =
    option_map_or (is_dynamic (reference (codes "$dynamicRef") place))
    (first_target all (codes "$dynamicRef") place) false

abbrev pub dynamic_as : Bool → ℕ → DynamicReference
dynamic_as by_name target = record { target = target; by_name = by_name }

-- the first target of a `$dynamicRef` that is this URI, and whether it goes by name
abbrev pub dynamic_by : List Site → Option Parts → Option DynamicReference
dynamic_by all uri =
    option_map (dynamic_as (option_map_or (is_dynamic uri) (option_and_then (named all) uri) false))
    (option_and_then (number_named all) uri)

-- that of a place's `$dynamicRef`
abbrev pub dynamic_at : List Site → Site → Option DynamicReference
dynamic_at all place = option_map (dynamic_as (goes_by_name all place))
    (number_of_target all (codes "$dynamicRef") place)

-- the name that a reference to this first target looks for in a dynamic scope: the target's own, where it goes by name
abbrev pub scope_name : Bool → Site → Option Text
scope_name by_name first = if by_name then text_argument (codes "$dynamicAnchor") first.schema else None

-- where the `$dynamicRef` of a place leads: to this first target, unless a resource of the dynamic scope has the name
pub record IsFirstTarget (documents : Documents) (place first : ℕ) (name : Option Text) : Type 0 where
  pub target : Site
  pub stands : place_at documents first ≡ Some target
  pub decides : (scope : List Site)
      → option_and_then (dynamic_ref_target (sites documents) scope) (place_at documents place)
      ≡ Some (unwrap_or (option_and_then (λ n. outermost (sites documents) n scope) name) target)

-- ---- a refusal, or want of memory

abbrev pub IsRefusalOrMemory : Refusal → CheckFault → Type 0
IsRefusalOrMemory r Memory = Unit {0}
IsRefusalOrMemory r (Refused s) = s ≡ r
