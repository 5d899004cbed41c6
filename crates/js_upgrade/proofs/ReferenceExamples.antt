-- References, and what they become.
use Rattle.std.proofs.Common.{◌≡◌, [], ◌∷◌, Some, None, codes, refl}
use Rattle.std.specs.Fmt.{digits}
use Rattle.percent_encoding.specs.Percent.{percent_decode, percent_encode_byte}
use Rattle.js_doc.specs.Pointer.{Tokens}
use Rattle.js_doc.specs.Value.{Value, Text}
use Rattle.js_upgrade.specs.Keyword.{core_change, applicator_change, assertion_change}
use Rattle.js_upgrade.specs.Reference.{in_resource}
use Rattle.js_upgrade.specs.Resource.{Resource}
use Rattle.js_upgrade.specs.declared.dialect.Dialect.TheVariants.{Draft07, Draft2020}
use Rattle.js_upgrade.proofs.Examples.{arr, is_null, is_string, obj}

abbrev nested : Value
nested = obj ((
  codes "definitions",
  obj ((codes "a b", obj ((codes "items", arr (is_null ∷ is_string ∷ [])) ∷ [])) ∷ []),
) ∷ (codes "properties", obj ((codes "p", is_null) ∷ [])) ∷ [])

abbrev of_07 : Resource
of_07 = record { uri = codes "https://o.example/s"; dialect = Draft07; root = nested; copies = [] }

abbrev of_2020 : Resource
of_2020 = record { uri = codes "https://o.example/t"; dialect = Draft2020; root = nested; copies = [] }

abbrev item_1 : Tokens
item_1 = codes "definitions" ∷ codes "a b" ∷ codes "items" ∷ codes "1" ∷ []

abbrev its_fragment : Text
its_fragment = codes "/definitions/a%20b/items/1"

-- each token becomes what stands in its place
moves : in_resource (codes "#/definitions/a%20b/items/1") its_fragment (Some item_1) (Some of_07)
    ≡ codes "#/$defs/a%20b/prefixItems/1"
unfolding core_change applicator_change assertion_change digits percent_encode_byte
moves = refl

-- the URI stays
another_document : in_resource (codes "s#/definitions/a%20b/items/1") its_fragment (Some item_1) (Some of_07)
    ≡ codes "s#/$defs/a%20b/prefixItems/1"
unfolding core_change applicator_change assertion_change digits percent_encode_byte
another_document = refl

-- a target of 2020-12 stands where it stood
stays : in_resource (codes "#/definitions/a%20b/items/1") its_fragment (Some item_1) (Some of_2020)
    ≡ codes "#/definitions/a%20b/items/1"
unfolding core_change applicator_change assertion_change digits
stays = refl

-- so does one that isn't renamed, as it is written
unmoved : in_resource (codes "#/properties/%70") (codes "/properties/%70")
    (Some (codes "properties" ∷ codes "p" ∷ [])) (Some of_07) ≡ codes "#/properties/%70"
unfolding core_change applicator_change assertion_change
unmoved = refl

whole_document : in_resource (codes "#") [] (Some []) (Some of_07) ≡ codes "#"
whole_document = refl

name : in_resource (codes "s#name") (codes "name") None (Some of_07) ≡ codes "s#name"
unfolding percent_decode
name = refl

-- a name that `$anchor` can't have is spelled so that it can
spelled_name : in_resource (codes "s#1%20a") (codes "1%20a") None (Some of_07) ≡ codes "s#_-1-20a"
unfolding percent_decode
spelled_name = refl

name_of_2020 : in_resource (codes "s#1%20a") (codes "1%20a") None (Some of_2020) ≡ codes "s#1%20a"
unfolding percent_decode
name_of_2020 = refl

nowhere : in_resource (codes "u#/a") (codes "/a") (Some (codes "a" ∷ [])) None ≡ codes "u#/a"
nowhere = refl
