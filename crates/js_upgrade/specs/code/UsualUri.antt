-- The URIs that most schemas of a dialect have in `$schema`.
use Rattle.std.specs.Prelude.{[], ◌∷◌, Bool, true, false, Option, Some, None, bytes_eq, codes, unwrap_or}
use Rattle.std.specs.Prelude.{option_and_then, option_map}
use Rattle.js_doc.specs.Value.{Value, text, Text}
use Rattle.js_upgrade.specs.Dialect.{after_prefix}
use Rattle.js_upgrade.specs.declared.dialect.Dialect.{Dialect}
use Rattle.js_upgrade.specs.declared.dialect.Dialect.TheVariants.{Draft03, Draft04, Draft06}
use Rattle.js_upgrade.specs.declared.dialect.Dialect.TheVariants.{Draft07, Draft2019, Draft2020}

-- behind the scheme
abbrev pub usual_path : Dialect → Text
usual_path Draft03 = codes "://json-schema.org/draft-03/schema"
usual_path Draft04 = codes "://json-schema.org/draft-04/schema"
usual_path Draft06 = codes "://json-schema.org/draft-06/schema"
usual_path Draft07 = codes "://json-schema.org/draft-07/schema"
usual_path Draft2019 = codes "://json-schema.org/draft/2019-09/schema"
usual_path Draft2020 = codes "://json-schema.org/draft/2020-12/schema"

-- what stands behind `http` or `https`
abbrev pub after_scheme : Text → Option Text
after_scheme uri =
    option_map (λ rest. unwrap_or (after_prefix (codes "s") rest) rest) (after_prefix (codes "http") uri)

abbrev pub is_no_fragment : Option Text → Bool
is_no_fragment None = false
is_no_fragment (Some []) = true
is_no_fragment (Some (b ∷ bs)) = bytes_eq (b ∷ bs) (codes "#")

abbrev pub is_usual_uri : Dialect → Text → Bool
is_usual_uri d uri = is_no_fragment (option_and_then (after_prefix (usual_path d)) (after_scheme uri))

abbrev pub has_usual_uri : Dialect → Value → Bool
has_usual_uri d (text uri) = is_usual_uri d uri
has_usual_uri d _ = false
