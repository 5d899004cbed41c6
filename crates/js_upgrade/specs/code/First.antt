-- What a table of resources has under a URI.
use Rattle.std.specs.Prelude.{◌≡◌, ℕ, Bool, List, bytes_eq}
use Rattle.std.specs.BTreeMap.{get_by_text}
use Rattle.std.specs.List.{position_from}
use Rattle.std.proofs.Common.{BTreeMap, Global, String}
use Rattle.js_doc.specs.Value.{Text}
use Rattle.js_upgrade.specs.Resource.{Resource}

abbrev pub has_uri : Text → Resource → Bool
has_uri uri r = bytes_eq uri r.uri

-- under each URI stands the number of the first resource that has it, where the first of all has the number n
pub record FindsFirstResource (n : ℕ) (numbers : BTreeMap (String Global) ℕ) (all : List Resource) : Type 0 where
  pub first : (uri : Text) → get_by_text numbers uri ≡ position_from (has_uri uri) n all
