-- Whole results over documents (JSON Schema Core, sections 12.3 and 12.4.4): schema documents, an instance, and the
-- tree that results from evaluating it at the root of the first document.
use Rattle.std.specs.Prelude.{ℕ, zero, suc, List, [], ◌∷◌, ◌++◌, Bool, true, false, codes}
use Rattle.std.specs.Option.{option_map_or}
use Rattle.js_doc.specs.Value.{Value, null, truth}
use Rattle.js_tree.specs.Forest.{Forest, empty, tree}
use Rattle.js_bundle.specs.Document.{Documents}
use Rattle.js_bundle.specs.Resource.{Site, sites}
use Rattle.js_bundle.specs.Url.{uri_of}
use Rattle.js_eval.specs.Bundle.{schemas_of}
use Rattle.js_eval.specs.Examples.{obj, arr, str, num, only, not_of, one_document}
use Rattle.js_eval.specs.Location.{at_root}
use Rattle.js_eval.specs.Note.{Note, silent, error, value, names, index, indexes, truly}
use Rattle.js_eval.specs.Result.{OutputUnit, ResultTree, IsResult}
use Rattle.js_eval.specs.SchemaSet.{Text}
use Rattle.js_eval.specs.Verdict.{Settled}

-- a document under its URI
abbrev pub document_at : Text → Value → Documents
document_at uri root = option_map_or (λ u. record { uri = u; root = root } ∷ []) (uri_of uri) []

-- t is the result of evaluating v at the first of these places
abbrev pub IsResultAtFirst : Documents → List Site → Value → ResultTree → Type 0
IsResultAtFirst documents [] v t = ⊥
IsResultAtFirst documents (place ∷ places) v t = IsResult (schemas_of documents) [] place at_root v t

abbrev pub IsResultOf : Documents → Value → ResultTree → Type 0
IsResultOf documents v t = IsResultAtFirst documents (sites documents) v t

abbrev pub unit : Bool → Text → Text → Text → Note → OutputUnit
unit valid keyword absolute instance note =
    record { valid = valid; keyword = keyword; absolute = absolute; instance = instance; note = note }

-- ---- short forms

-- the document at `https://a.example/s`
abbrev pub at_s : Value → Documents
at_s root = document_at (codes "https://a.example/s") root

-- a node of that document, without references and escapes on the state
abbrev pub unit_in_s : Bool → Text → Text → Note → OutputUnit
unit_in_s valid keyword instance note = unit valid keyword (codes "https://a.example/s#" ++ keyword) instance note

-- evaluating v gives this verdict, and these nodes below the root's
abbrev pub Gives : Documents → Value → Bool → Forest OutputUnit → Type 0
Gives documents v valid below = IsResultOf documents v (record { root = unit_in_s valid [] [] silent; below = below })

-- ---- a name that needs escapes in a pointer, and more in a fragment

abbrev pub EscapedName : Type 0
EscapedName = Gives (at_s (only (codes "properties") (only (codes "a/b %") (only (codes "type") (str (codes "null"))))))
    (only (codes "a/b %") (num 1)) false
    (tree (unit_in_s false (codes "/properties") [] silent)
    (tree (unit false (codes "/properties/a~1b %") (codes "https://a.example/s#/properties/a~1b%20%25")
    (codes "/a~1b %") silent)
    (tree (unit false (codes "/properties/a~1b %/type") (codes "https://a.example/s#/properties/a~1b%20%25/type")
    (codes "/a~1b %") (error (codes "type is integer"))) empty empty) empty) empty)

-- ---- members of a failing keyword are not evaluated

abbrev pub FailingProperties : Type 0
FailingProperties = Gives (at_s (obj ((codes "properties", only (codes "a") (truth false))
    ∷ (codes "unevaluatedProperties", only (codes "const") (num 1)) ∷ [])))
    (only (codes "a") (num 1)) false
    (tree (unit_in_s false (codes "/properties") [] silent)
    (tree (unit_in_s false (codes "/properties/a") (codes "/a") (error (codes "false schema"))) empty empty)
    (tree (unit_in_s true (codes "/unevaluatedProperties") [] (names (codes "a" ∷ [])))
    (tree (unit_in_s true (codes "/unevaluatedProperties") (codes "/a") silent)
    (tree (unit_in_s true (codes "/unevaluatedProperties/const") (codes "/a") silent) empty empty) empty) empty))

-- ---- `if`, `else`, and a keyword whose name is between theirs

abbrev pub IfBeforeElse : Type 0
IfBeforeElse = Gives (at_s
    (obj ((codes "else", only (codes "minimum") (num 2)) ∷ (codes "if", truth false) ∷ (codes "iff", num 1) ∷ [])))
    (num 1) false
    (tree (unit_in_s true (codes "/if") [] silent)
    (tree (unit_in_s false (codes "/if") [] (error (codes "false schema"))) empty empty)
    (tree (unit_in_s false (codes "/else") [] silent)
    (tree (unit_in_s false (codes "/else") [] silent)
    (tree (unit_in_s false (codes "/else/minimum") [] (error (codes "less than 2"))) empty empty) empty)
    (tree (unit_in_s true (codes "/iff") [] (value (num 1))) empty empty)))

-- ---- what `if` and `then` evaluate

abbrev pub ThenEvaluates : Type 0
ThenEvaluates = Gives (at_s (obj ((codes "if", only (codes "properties") (only (codes "a") (truth true)))
    ∷ (codes "then", only (codes "properties") (only (codes "b") (truth true)))
    ∷ (codes "unevaluatedProperties", truth false) ∷ [])))
    (obj ((codes "a", num 1) ∷ (codes "b", num 2) ∷ [])) true
    (tree (unit_in_s true (codes "/if") [] silent)
    (tree (unit_in_s true (codes "/if") [] silent)
    (tree (unit_in_s true (codes "/if/properties") [] (names (codes "a" ∷ [])))
    (tree (unit_in_s true (codes "/if/properties/a") (codes "/a") silent) empty empty) empty) empty)
    (tree (unit_in_s true (codes "/then") [] silent)
    (tree (unit_in_s true (codes "/then") [] silent)
    (tree (unit_in_s true (codes "/then/properties") [] (names (codes "b" ∷ [])))
    (tree (unit_in_s true (codes "/then/properties/b") (codes "/b") silent) empty empty) empty) empty)
    (tree (unit_in_s true (codes "/unevaluatedProperties") [] (names ([]))) empty empty)))

-- ---- `then` and `else` without `if`

abbrev pub ElseAlone : Type 0
ElseAlone = Gives (at_s (obj ((codes "else", truth false) ∷ (codes "then", truth false) ∷ [])))
    null true
    (tree (unit_in_s true (codes "/else") [] silent) empty
    (tree (unit_in_s true (codes "/then") [] silent) empty empty))

-- ---- the keywords for members together

abbrev pub MembersTogether : Type 0
MembersTogether = Gives (at_s (obj ((codes "additionalProperties", only (codes "type") (str (codes "null")))
    ∷ (codes "properties", only (codes "a") (truth true)) ∷ (codes "propertyNames", only (codes "maxLength") (num 1))
    ∷ (codes "unevaluatedProperties", truth false) ∷ [])))
    (obj ((codes "a", num 1) ∷ (codes "bc", num 2) ∷ [])) false
    (tree (unit_in_s false (codes "/additionalProperties") [] silent)
    (tree (unit_in_s false (codes "/additionalProperties") (codes "/bc") silent)
    (tree (unit_in_s false (codes "/additionalProperties/type") (codes "/bc")
    (error (codes "type is integer"))) empty empty) empty)
    (tree (unit_in_s true (codes "/properties") [] (names (codes "a" ∷ [])))
    (tree (unit_in_s true (codes "/properties/a") (codes "/a") silent) empty empty)
    (tree (unit_in_s false (codes "/propertyNames") [] silent)
    (tree (unit_in_s true (codes "/propertyNames") (codes "/a") silent)
    (tree (unit_in_s true (codes "/propertyNames/maxLength") (codes "/a") silent) empty empty)
    (tree (unit_in_s false (codes "/propertyNames") (codes "/bc") silent)
    (tree (unit_in_s false (codes "/propertyNames/maxLength") (codes "/bc")
    (error (codes "2 characters, at most 1"))) empty empty) empty))
    (tree (unit_in_s false (codes "/unevaluatedProperties") [] silent)
    (tree (unit_in_s false (codes "/unevaluatedProperties") (codes "/bc")
    (error (codes "false schema"))) empty empty) empty))))

-- ---- `dependentSchemas`: a name that a member has, and one that none has

abbrev pub Dependent : Type 0
Dependent = Gives (at_s (only (codes "dependentSchemas")
    (obj ((codes "a", only (codes "maxProperties") (num 0)) ∷ (codes "b", truth false) ∷ []))))
    (only (codes "a") (num 1)) false
    (tree (unit_in_s false (codes "/dependentSchemas") [] silent)
    (tree (unit_in_s false (codes "/dependentSchemas/a") [] silent)
    (tree (unit_in_s false (codes "/dependentSchemas/a/maxProperties") [] (error (codes "1 members, at most 0")))
    empty empty) empty) empty)

-- ---- the keywords for items together

abbrev pub ItemsAtOnce : Type 0
ItemsAtOnce = Gives (at_s (obj
    ((codes "contains", only (codes "const") (num 3)) ∷ (codes "items", only (codes "type") (str (codes "integer")))
    ∷ (codes "maxContains", num 0) ∷ (codes "prefixItems", arr ((truth true) ∷ [])) ∷ [])))
    (arr ((num 1) ∷ (str (codes "b")) ∷ (num 3) ∷ [])) false
    (tree (unit_in_s true (codes "/contains") [] (indexes (2 ∷ [])))
    (tree (unit_in_s false (codes "/contains") (codes "/0") silent)
    (tree (unit_in_s false (codes "/contains/const") (codes "/0") (error (codes "not the constant"))) empty empty)
    (tree (unit_in_s false (codes "/contains") (codes "/1") silent)
    (tree (unit_in_s false (codes "/contains/const") (codes "/1") (error (codes "not the constant"))) empty empty)
    (tree (unit_in_s true (codes "/contains") (codes "/2") silent)
    (tree (unit_in_s true (codes "/contains/const") (codes "/2") silent) empty empty) empty)))
    (tree (unit_in_s false (codes "/items") [] silent)
    (tree (unit_in_s false (codes "/items") (codes "/1") silent)
    (tree (unit_in_s false (codes "/items/type") (codes "/1") (error (codes "type is string"))) empty empty)
    (tree (unit_in_s true (codes "/items") (codes "/2") silent)
    (tree (unit_in_s true (codes "/items/type") (codes "/2") silent) empty empty) empty))
    (tree (unit_in_s false (codes "/maxContains") [] (error (codes "1 matching items, at most 0"))) empty
    (tree (unit_in_s true (codes "/prefixItems") [] (index 0))
    (tree (unit_in_s true (codes "/prefixItems/0") (codes "/0") silent) empty empty) empty))))

-- ---- `true` of every item; of an array without items, no note and a list without indexes

abbrev pub every_item_documents : Documents
every_item_documents = at_s (obj ((codes "contains", truth true) ∷ (codes "minContains", num 0)
    ∷ (codes "prefixItems", arr ((truth true) ∷ (truth true) ∷ [])) ∷ []))

abbrev pub EveryItem : Type 0
EveryItem = Gives every_item_documents
    (arr (num 1 ∷ [])) true
    (tree (unit_in_s true (codes "/contains") [] truly)
    (tree (unit_in_s true (codes "/contains") (codes "/0") silent) empty empty)
    (tree (unit_in_s true (codes "/minContains") [] silent) empty
    (tree (unit_in_s true (codes "/prefixItems") [] truly)
    (tree (unit_in_s true (codes "/prefixItems/0") (codes "/0") silent) empty empty) empty)))

abbrev pub NoItem : Type 0
NoItem = Gives every_item_documents
    (arr []) true
    (tree (unit_in_s true (codes "/contains") [] (indexes [])) empty
    (tree (unit_in_s true (codes "/minContains") [] silent) empty
    (tree (unit_in_s true (codes "/prefixItems") [] silent) empty empty)))

-- ---- alternatives, and `false`

abbrev pub Alternatives : Type 0
Alternatives = Gives (at_s (obj ((codes "anyOf", arr ((truth false) ∷ (only (codes "maximum") (num 1)) ∷ []))
    ∷ (codes "oneOf", arr ((only (codes "minimum") (num 2)) ∷ (only (codes "title") (str (codes "t"))) ∷ [])) ∷ [])))
    (num 2) false
    (tree (unit_in_s false (codes "/anyOf") [] (error (codes "no branch holds")))
    (tree (unit_in_s false (codes "/anyOf/0") [] (error (codes "false schema"))) empty
    (tree (unit_in_s false (codes "/anyOf/1") [] silent)
    (tree (unit_in_s false (codes "/anyOf/1/maximum") [] (error (codes "greater than 1"))) empty empty) empty))
    (tree (unit_in_s false (codes "/oneOf") [] (error (codes "2 branches hold")))
    (tree (unit_in_s true (codes "/oneOf/0") [] silent)
    (tree (unit_in_s true (codes "/oneOf/0/minimum") [] silent) empty empty)
    (tree (unit_in_s true (codes "/oneOf/1") [] silent)
    (tree (unit_in_s true (codes "/oneOf/1/title") [] (value (str (codes "t")))) empty empty) empty)) empty))

-- ---- a reference into another document

abbrev pub IntoADocument : Type 0
IntoADocument = Gives (at_s (only (codes "$ref") (str (codes "t#/$defs/i"))) ++ document_at (codes
    "https://a.example/t") (only (codes "$defs") (only (codes "i") (only (codes "type") (str (codes "integer"))))))
    (str (codes "x")) false
    (tree (unit_in_s false (codes "/$ref") [] silent)
    (tree (unit false (codes "/$ref") (codes "https://a.example/t#/$defs/i") [] silent)
    (tree (unit false (codes "/$ref/type") (codes "https://a.example/t#/$defs/i/type") []
    (error (codes "type is string"))) empty empty) empty) empty)

-- ---- nested `not` schemas, which take exactly 512 nested schema applications

abbrev pub chain : ℕ → Value
chain zero = truth true
chain (suc n) = not_of (chain n)

abbrev pub ChainIsSettled : ℕ → Type 0
ChainIsSettled n = Settled (one_document (chain 511)) n [] (chain 511) null

-- ---- the documents and instances give these results

pub record GiveTheseResults : Type 0 where
  pub escaped_name : EscapedName
  pub failing_properties : FailingProperties
  pub if_before_else : IfBeforeElse
  pub then_evaluates : ThenEvaluates
  pub else_alone : ElseAlone
  pub members : MembersTogether
  pub dependent : Dependent
  pub items_at_once : ItemsAtOnce
  pub every_item : EveryItem
  pub no_item : NoItem
  pub alternatives : Alternatives
  pub into_a_document : IntoADocument
  pub within_512 : ChainIsSettled 512
  pub not_within_511 : ChainIsSettled 511 → ⊥
