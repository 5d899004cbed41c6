-- The members of `patternProperties` are the patterns of the place.
use Rattle.std.proofs.Common.{◌≡◌, ℕ, List, [], ◌∷◌, Option, Some, None, refl, sym, ap, ◌∙◌, subst}
use Rattle.std.specs.Prelude.{codes, is_some, option_and_then, option_map}
use Rattle.std.specs.Option.{option_map_or}
use Rattle.js_assert.specs.Argument.{entries}
use Rattle.js_bundle.specs.Document.{Documents}
use Rattle.js_bundle.specs.Schemas.{pattern}
use Rattle.js_doc.specs.Members.{IsAscending, get}
use Rattle.js_doc.specs.Parts.{members_of}
use Rattle.js_doc.specs.Value.{Value, Named}
use Rattle.js_eval.specs.Sited.{numbered_site}
use Rattle.js_eval.specs.code.Standing.{IsSchemaAt}
use Rattle.js_eval.proofs.AssertionThere.{place_is, same_members}
use Rattle.js_eval.proofs.FoundByName.{AreAmong, each_among}
use Rattle.js_eval.proofs.Lists.{and_true}
use Rattle.js_eval.specs.code.Patterns.{ArePatternsAt, IsPatternAt}

module _ (documents : Documents) (n : ℕ) (schema : Value) (at : IsSchemaAt documents n schema) where
  module _ (argument : Value) (has : get (codes "patternProperties") (entries schema) ≡ Some argument) where
    one : (p : List ℕ × Value) → get p.0 (entries argument) ≡ Some p.1 → IsPatternAt documents n p.0
    one p e =
        let patterns : get (codes "patternProperties") (members_of (numbered_site documents n).schema)
        ≡ Some argument = ap (λ v. get (codes "patternProperties") (members_of v)) (sym at.1)
        ∙ (ap (get (codes "patternProperties")) (same_members schema) ∙ has) in
        let found : get p.0 (members_of argument) ≡ Some p.1 = ap (get p.0) (same_members argument) ∙ e in
        ap is_some (ap (option_and_then (pattern p.0)) (place_is documents n at.0)
        ∙ (ap (option_and_then (λ v. option_map (λ u. p.0) (get p.0 (members_of v)))) patterns
        ∙ ap (option_map (λ u. p.0)) found))

    each : (ps : Named) → AreAmong (entries argument) ps → ArePatternsAt documents n ps
    each [] h = refl
    each (p ∷ ps) h = and_true (one p h.0) (each ps h.1)

    pub patterns_are : (ps : Named) → ps ≡ entries argument → IsAscending ps → ArePatternsAt documents n ps
    patterns_are ps e ascend =
        each ps (subst (λ xs. AreAmong xs ps) e (each_among ps ascend))

  pub patterns_at : (ps : Named) → ps ≡ option_map_or entries (get (codes "patternProperties") (entries schema)) []
      → IsAscending ps → ArePatternsAt documents n ps
  patterns_at ps e ascend = by (get (codes "patternProperties") (entries schema)) refl e
    where
      by : (o : Option Value) → get (codes "patternProperties") (entries schema) ≡ o
          → ps ≡ option_map_or entries o [] → ArePatternsAt documents n ps
      by None f g = subst (ArePatternsAt documents n) (sym g) refl
      by (Some v) f g = patterns_are v f ps g ascend
