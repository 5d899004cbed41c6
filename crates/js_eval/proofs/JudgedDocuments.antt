-- Documents under their URIs, judged: each line is a worked example, and holds by computation.
use Rattle.std.specs.Prelude.{◌≡◌, [], ◌∷◌, ◌++◌, Bool, true, false, option_and_then, codes, refl}
use Rattle.std.specs.Option.{option_map_or}
use Rattle.js_doc.specs.Value.{Value}
use Rattle.js_bundle.specs.Document.{Documents}
use Rattle.js_bundle.specs.Names.{named}
use Rattle.js_bundle.specs.Place.{holding}
use Rattle.js_bundle.specs.Resource.{sites}
use Rattle.js_bundle.specs.Url.{printed, without_fragment, uri_of}
use Rattle.js_bundle.proofs.OnLiterals.{url_on_literals}
use Rattle.js_eval.specs.Bundle.{schemas_of}
use Rattle.js_eval.specs.Examples.{obj, arr, str, num, only, of_type}
use Rattle.js_keyword.specs.Keyword.{which_keyword}
use Rattle.js_eval.specs.SchemaSet.{Text}
use Rattle.js_eval.specs.Verdict.{within}
use Rattle.js_keyword.specs.AssertionKeyword.{keyword_named}
use Rattle.js_doc.specs.Value.{truth}

abbrev document : Text → Value → Documents
document uri root = option_map_or (λ u. record { uri = u; root = root } ∷ []) (uri_of uri) []

-- whether the schema that an entry names is settled within n, and holds
abbrev settled : Documents → Text → Value → Bool
settled documents entry v = option_map_or (λ place. (within (schemas_of documents) 8).settled [] place v)
    (option_and_then (named (sites documents)) (uri_of entry)) false

abbrev holds : Documents → Text → Value → Bool
holds documents entry v = option_map_or (λ place. (within (schemas_of documents) 8).holds [] place v)
    (option_and_then (named (sites documents)) (uri_of entry)) false

-- ---- a reference from one document into another

abbrev two : Documents
two = document (codes "https://a.example/s") (only (codes "$ref") (str (codes "t#/$defs/i")))
    ++ document (codes "https://a.example/t") (only (codes "$defs") (only (codes "i") (of_type (codes "integer"))))

pub across_documents : (holds two (codes "https://a.example/s") (num 1) ≡ true)
    × (holds two (codes "https://a.example/s") (str (codes "a")) ≡ false)
unfolding url_on_literals holding printed without_fragment within which_keyword keyword_named
across_documents = (refl, refl)

-- ---- a tree, and a strict tree, which takes no members but the tree's own at each node

abbrev node : Value
node = only (codes "$dynamicRef") (str (codes "#node"))

abbrev tree : Documents
tree = document (codes "https://example.com/tree")
    (obj ((codes "$dynamicAnchor", str (codes "node")) ∷ (codes "$id", str (codes "https://example.com/tree")) ∷ (
      codes "properties",
      obj ((codes "children", obj ((codes "items", node) ∷ (codes "type", str (codes "array")) ∷ []))
          ∷ (codes "data", truth true) ∷ []),
    ) ∷ (codes "type", str (codes "object")) ∷ []))

abbrev strict_tree : Documents
strict_tree = document (codes "https://example.com/strict-tree")
    (obj ((codes "$dynamicAnchor", str (codes "node")) ∷ (codes "$id", str (codes "https://example.com/strict-tree"))
    ∷ (codes "$ref", str (codes "tree")) ∷ (codes "unevaluatedProperties", truth false) ∷ []))

-- `{"children":[{"daat":1}]}`
abbrev misspelt : Value
misspelt = only (codes "children") (arr (only (codes "daat") (num 1) ∷ []))

pub tree_accepts : (settled (tree ++ strict_tree) (codes "https://example.com/tree") misspelt ≡ true)
    × (holds (tree ++ strict_tree) (codes "https://example.com/tree") misspelt ≡ true)
unfolding url_on_literals holding printed without_fragment within which_keyword keyword_named
tree_accepts = (refl, refl)

pub strict_tree_refuses : (settled (tree ++ strict_tree) (codes "https://example.com/strict-tree") misspelt ≡ true)
    × (holds (tree ++ strict_tree) (codes "https://example.com/strict-tree") misspelt ≡ false)
unfolding url_on_literals holding printed without_fragment within which_keyword keyword_named
strict_tree_refuses = (refl, refl)
