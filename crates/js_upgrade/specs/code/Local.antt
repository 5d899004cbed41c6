-- References that are a fragment alone: they lead to a part of the resource that their base names.
use Rattle.std.specs.Prelude.{ℕ, Bool, not, ◌&&◌, ◌||◌, ◌==◌, Option, Some, None, codes, length, nat_lt}
use Rattle.std.specs.Prelude.{option_and_then, if◌then◌else◌}
use Rattle.std.specs.List.{list_all}
use Rattle.url.specs.Parts.{Parts}
use Rattle.url.specs.Parser.{with_tail}
use Rattle.js_doc.specs.Value.{Text}
use Rattle.js_upgrade.specs.Dialect.{after_prefix}
use Rattle.js_upgrade.specs.Url.{uri_limit, uri_printed, uri_without_fragment}

-- the byte stands in a fragment as it is (URL Standard, 1.3)
abbrev pub is_fragment_byte : ℕ → Bool
is_fragment_byte b = nat_lt 32 b && (nat_lt b 127 && not (b == 34 || (b == 60 || (b == 62 || b == 96))))

abbrev pub kept_fragment : Text → Text → Option Text
kept_fragment t fragment =
    if not (nat_lt uri_limit (length t)) && list_all is_fragment_byte fragment then Some fragment else None

-- the fragment, of a reference that has nothing else
abbrev pub local_fragment : Text → Option Text
local_fragment t = option_and_then (kept_fragment t) (after_prefix (codes "#") t)

-- what names the resource that such a reference leads to
abbrev pub local_uri : Parts → Text
local_uri base = uri_printed (uri_without_fragment (with_tail base base.query None))
