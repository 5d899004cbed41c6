-- Documents that are upgraded together.
use Rattle.std.proofs.Common.{◌≡◌, [], ◌∷◌, Some, None, codes, refl}
use Rattle.std.specs.Fmt.{digits}
use Rattle.std.specs.Str.{chars, is_utf8}
use lib.Utf8.{encode}
use Rattle.percent_encoding.specs.AsciiSet.{should_percent_encode}
use Rattle.percent_encoding.specs.Percent.{percent_decode, percent_encode, percent_encode_byte}
use Rattle.url.specs.Input.{rsplit_once, split_once, strip_tabs_and_new_lines, trim_c0_control_and_space}
use Rattle.url.specs.Parser.{leading_slashes, parse_body, parse_parts, parse_relative, parse_url, split_scheme}
use Rattle.url.specs.Parts.{Parts}
use Rattle.url.specs.Path.{dot_count, parse_segments, push_segment, shorten_path}
use Rattle.url.specs.Scheme.{default_port, scheme_len, scheme_type}
use Rattle.url.specs.declared.host.Host.TheVariants.{Domain}
use Rattle.js_doc.specs.Value.{Value, text, Text, Named}
use Rattle.js_upgrade.specs.Dialect.{version_named}
use Rattle.js_upgrade.specs.Documents.{SourceDocument, all_upgraded, are_known, each_upgraded}
use Rattle.js_upgrade.specs.Keyword.{core_change, applicator_change, assertion_change}
use Rattle.js_upgrade.specs.Upgrade.{schema_uri}
use Rattle.js_upgrade.specs.Url.{uri_printed, uri_without_fragment}
use Rattle.js_upgrade.specs.declared.dialect.Dialect.{Dialect}
use Rattle.js_upgrade.specs.declared.dialect.Dialect.TheVariants.{Draft07, Draft2020}
use Rattle.js_upgrade.proofs.Examples.{arr, is_null, is_string, obj}

abbrev pub at_path : Text → Parts
at_path path =
    record {
      scheme = codes "https";
      username = [];
      password = [];
      host = Some (Domain (codes "o.example"));
      port = None;
      path = path;
      query = None;
      fragment = None;
    }

abbrev pub source : Dialect → Text → Named → SourceDocument
source d path ms = record { uri = at_path path; assumed = d; root = obj ms }

abbrev pub refers : Text → Value
refers uri = obj ((codes "$ref", text uri) ∷ [])

abbrev list_in : Text → Text → Named
list_in holder keyword =
    (holder, obj ((codes "x", obj ((keyword, arr (is_null ∷ is_string ∷ [])) ∷ [])) ∷ [])) ∷ []

-- within a document, and a reference that is a value
within : all_upgraded (source Draft07 (codes "/s") ((codes "const", refers (codes "#/definitions/x"))
    ∷ (codes "definitions", obj ((codes "x", is_null) ∷ []))
    ∷ (codes "not", refers (codes "#/definitions/x")) ∷ []) ∷ [])
    ≡ Some (obj ((codes "$defs", obj ((codes "x", is_null) ∷ [])) ∷ (codes "$schema", schema_uri)
    ∷ (codes "const", refers (codes "#/definitions/x")) ∷ (codes "not", refers (codes "#/$defs/x")) ∷ []) ∷ [])
unfolding are_known each_upgraded core_change applicator_change assertion_change version_named uri_printed
    uri_without_fragment chars encode
    is_utf8 should_percent_encode percent_decode percent_encode percent_encode_byte split_once strip_tabs_and_new_lines
    trim_c0_control_and_space parse_parts parse_url split_scheme default_port scheme_len scheme_type
within = refl

-- into another document, of another dialect
between : all_upgraded (source Draft2020 (codes "/s") ((codes "not", refers (codes "t#/definitions/x/items/1")) ∷ [])
    ∷ source Draft07 (codes "/t") (list_in (codes "definitions") (codes "items")) ∷ [])
    ≡ Some (obj ((codes "not", refers (codes "t#/$defs/x/prefixItems/1")) ∷ [])
    ∷ obj ((codes "$defs", obj ((codes "x", obj ((codes "prefixItems", arr (is_null ∷ is_string ∷ [])) ∷ [])) ∷ []))
    ∷ (codes "$schema", schema_uri) ∷ []) ∷ [])
unfolding are_known each_upgraded core_change applicator_change assertion_change version_named uri_printed
    uri_without_fragment chars encode
    is_utf8 should_percent_encode percent_decode percent_encode percent_encode_byte rsplit_once split_once
    strip_tabs_and_new_lines trim_c0_control_and_space leading_slashes parse_body parse_parts parse_relative parse_url
    split_scheme digits dot_count parse_segments push_segment shorten_path default_port scheme_len scheme_type
between = refl
