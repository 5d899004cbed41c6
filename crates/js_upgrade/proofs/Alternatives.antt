-- Names of types and schemas, one of which has to hold.
use Rattle.std.proofs.Common.{◌≡◌, ◌≢◌, List, [], ◌∷◌, true, false, ◌||◌, cond, map, refl, ap, ◌∙◌, codes}
use Rattle.std.specs.List.{list_any}
use Rattle.js_doc.specs.Value.{list, items, Named}
use Rattle.js_doc.specs.Seen.{value_of}
use Rattle.js_doc.specs.declared.doc.Doc.{Doc}
use Rattle.js_upgrade.specs.Schema.{alternative, alternatives_upgraded, is_any, one}

pub any_map : (ds : List Doc) → list_any is_any (map value_of ds) ≡ list_any (λ d. is_any (value_of d)) ds
any_map [] = refl
any_map (d ∷ ds) = ap (λ b. is_any (value_of d) || b) (any_map ds)

abbrev all_of : List Doc → Named
all_of ds = one (codes "anyOf") (list (items (map alternative (map value_of ds))))

pub any_of : (ds : List Doc) → list_any (λ d. is_any (value_of d)) ds ≡ true
    → alternatives_upgraded (map value_of ds) ≡ []
any_of [] e = absurd (cc)
any_of (d ∷ ds) e = ap (λ b. cond b [] (all_of (d ∷ ds))) (any_map (d ∷ ds) ∙ e)

pub some_of : (ds : List Doc) → ds ≢ [] → list_any (λ d. is_any (value_of d)) ds ≡ false
    → alternatives_upgraded (map value_of ds) ≡ one (codes "anyOf") (list (items (map alternative (map value_of ds))))
some_of [] some e = absurd (some refl)
some_of (d ∷ ds) some e = ap (λ b. cond b [] (all_of (d ∷ ds))) (any_map (d ∷ ds) ∙ e)

pub ruleset alternative_rules = (any_of, some_of)
