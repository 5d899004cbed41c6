-- The part of a place in the table of keywords is which keywords its own are.
use Rattle.std.proofs.Common.{◌≡◌, ℕ, ◌<◌, List, ◌∷◌, Some, map, get_or, length}
use Rattle.std.proofs.Common.{option_map, slice_get, unwrap_or, sym, ap, ◌∙◌}
use Rattle.std.proofs.lemmas.Option.{slice_get-get_or, slice_get-map}
use Rattle.js_bundle.specs.code.PartsByPlace.{ArePartsByPlace, IsPart}
use Rattle.js_bundle.specs.declared.index.keyword_table.KeywordTable.{KeywordTable}
use Rattle.js_keyword.specs.declared.keyword.Keyword.{Keyword}
use Rattle.js_bundle.specs.declared.scan.site.Site as rust
use Rattle.js_bundle.specs.MemberKeywords.{member_keywords}
use Rattle.js_bundle.specs.code.Scan.{site_of}
use Rattle.js_bundle.proofs.Indexing.PartsOfPlaces.{part_lent, part_there}

there_at : {A B : Type 0} (f : A → B) (xs : List A) (i : ℕ) (x : A) → i < length xs → x ≡ get_or xs i x
    → slice_get (map f xs) i ≡ Some (f x)
there_at f xs i x low is = slice_get-map f xs i ∙ ap (option_map f) (slice_get-get_or xs i x low ∙ ap Some (sym is))

pub names_are : (ss : List rust.Site) (i : ℕ) (x : rust.Site) (table : KeywordTable)
    (found names : List Keyword) (ends : List ℕ)
    → ArePartsByPlace member_keywords (map site_of ss) table.names.items table.ends.items → i < length ss
    → x ≡ get_or ss i x → names ≡ table.names.items → ends ≡ table.ends.items
    → IsPart names (unwrap_or (slice_get (0 ∷ ends) i) 0) (unwrap_or (slice_get ends i) 0) found
    → found ≡ member_keywords (site_of x)
names_are ss i x table found names ends grouped low is same_names same_ends part =
    sym (part_there member_keywords (map site_of ss) table.names.items table.ends.items i (site_of x) found grouped
    (there_at site_of ss i x low is)
    (part_lent table.names.items names table.ends.items ends i found same_names same_ends part))
