-- The absolute location of a place, and of a keyword at it (JSON Schema Core, section 12.3.2): the canonical URI of its
-- resource, `#`, and the way from the resource's root as a fragment. A root's ends in a bare `#`.
use Rattle.std.specs.Prelude.{[], ◌++◌, length, drop, codes}
use Rattle.js_doc.specs.Pointer.{Tokens}
use Rattle.js_doc.specs.Fragment.{fragment_text}
use Rattle.js_bundle.specs.Keyword.{Text}
use Rattle.js_bundle.specs.Url.{printed}
use Rattle.js_bundle.specs.Resource.{Site}

-- the canonical URI of a place's resource (section 8.2.1)
abbrev pub canonical : Site → Text
canonical place = printed place.own.base

-- the way to a place from its resource's root
abbrev pub way : Site → Tokens
way place = drop (length place.own.resource) place.pointer

-- with a keyword's name, the location of that keyword; with none, the place's own
abbrev pub absolute_location : Site → Tokens → Text
absolute_location place keyword = canonical place ++ (codes "#" ++ fragment_text (way place ++ keyword))

-- the place's own
abbrev pub location : Site → Text
location place = absolute_location place []
