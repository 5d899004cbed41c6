-- The applications that an `Asking` still has to ask for, of the schemas that it was made for.
use Rattle.std.specs.Prelude.{◌≡◌, [], ◌∷◌, MatchOption, Option, Some, None, map}
use Rattle.std.specs.Prelude as prelude
use Rattle.js_doc.specs.Seen.{pair_of, value_of}
use Rattle.js_bundle.specs.Document.{Documents}
use Rattle.js_bundle.specs.Resource.{Site}
use Rattle.js_eval.specs.Applications.{Application}
use Rattle.js_eval.specs.code.Applied.{IsHeld, applied_of}
use Rattle.js_eval.specs.code.Cursors.{items_asked, members_asked, patterns_asked}
use Rattle.js_eval.specs.code.ListLeft.{IsList, list_asked}
use Rattle.js_eval.specs.code.NamesLeft.{IsNames, names_asked}
use Rattle.js_eval.specs.code.Patterns.{ArePatternsAt}
use Rattle.js_eval.specs.code.Standing.{IsSchemaAt}
use Rattle.js_eval.specs.declared.instance.Applied.{Applied}
use Rattle.js_eval.specs.declared.cursors.asking.Asking.{Asking}
use Rattle.js_eval.specs.declared.cursors.asking.Asking.TheVariants.{One, List, Names, Items, Members, Patterns}
use Rattle.js_eval.specs.declared.cursors.pattern_cursor.PatternCursor.{PatternCursor}

abbrev pub one_asked : Documents → Option Applied → prelude.List (Application Site)
one_asked documents None = []
one_asked documents (Some a) = applied_of documents a ∷ []

abbrev pub asked : Documents → Asking → prelude.List (Application Site)
asked documents (One one) = one_asked documents one
asked documents (List c) = list_asked documents c
asked documents (Names c) = names_asked documents c
asked documents (Items c) = items_asked documents c
asked documents (Members c) = members_asked documents c.value
asked documents (Patterns c) = patterns_asked documents c.value

-- of what was asked for before, this is the next, and the others are asked for afterwards
abbrev pub IsNext : Documents → prelude.List (Application Site) → Option Applied
    → prelude.List (Application Site) → Type 0
IsNext documents before o after = MatchOption o (before ≡ []) (λ a. before ≡ applied_of documents a ∷ after)

-- ---- it was made for these

abbrev pub IsApplied : Documents → Applied → Type 0
IsApplied documents a = IsSchemaAt documents a.place (value_of a.schema.now)

abbrev pub IsOne : Documents → Option Applied → Type 0
IsOne documents None = Unit {0}
IsOne documents (Some a) = IsApplied documents a

-- the place with the patterns, that of the present one's schema, and the patterns that are still to come
abbrev pub ArePatterns : Documents → PatternCursor → Type 0
ArePatterns documents c = IsSchemaAt documents c.place (value_of c.schema.now)
    × IsSchemaAt documents c.below (value_of c.schema_below.now)
    × ArePatternsAt documents c.place (map pair_of c.patterns)

abbrev pub IsAsking : Documents → Asking → Type 0
IsAsking documents (One one) = IsOne documents one
IsAsking documents (List c) = IsList documents c
IsAsking documents (Names c) = IsNames documents c
IsAsking documents (Items c) = IsHeld documents c.held
IsAsking documents (Members c) = IsHeld documents c.value.held
IsAsking documents (Patterns c) = ArePatterns documents c.value
