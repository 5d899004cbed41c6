-- What is clear: no schema in it has an identifier, or a fault, and no reference leads to what is copied. Then the
-- roots of the documents are their resources.
use Rattle.std.specs.Prelude.{◌≡◌, ℕ, List, [], ◌∷◌, ◌++◌, Bool, true, false, Option, Some, None, codes}
use Rattle.url.specs.Parts.{Parts}
use Rattle.js_doc.specs.Members.{get}
use Rattle.js_doc.specs.Parts.{member_list}
use Rattle.js_doc.specs.Value.{Value, text, object, Items, Members, Text, Named, members}
use Rattle.js_upgrade.specs.Copies.{Copies, all_copied, copied_by, copied_for, items_copied, members_copied}
use Rattle.js_upgrade.specs.Copies.{sources_copied}
use Rattle.js_upgrade.specs.Documents.{SourceDocument, Sources, all_resources, source_dialect, source_resources}
use Rattle.js_upgrade.specs.Fault.{documents_fault, fault_in, item_fault, member_fault, other_fault, schema_fault}
use Rattle.js_upgrade.specs.Fault.{source_fault, unevaluated_fault}
use Rattle.js_upgrade.specs.Resource.{Resource, begun, identity, item_resources, member_resources, own_base}
use Rattle.js_upgrade.specs.Resource.{resource_under, resources}
use Rattle.js_upgrade.specs.Upgrade.{holding_in, identifier, own_dialect}
use Rattle.js_upgrade.specs.declared.dialect.Dialect.{Dialect}
use Rattle.js_upgrade.specs.declared.fault.Pass.TheVariants.{AnyOfThese}
use Rattle.js_upgrade.specs.declared.holding.SchemaHolding.{SchemaHolding}

-- ---- in a value

-- neither `$schema` nor an identifier
abbrev pub IsAnonymous : Dialect → Named → Type 0
IsAnonymous d siblings = (get (codes "$schema") siblings ≡ None) × (get (identifier d) siblings ≡ None)

-- no fault but at these and at `$ref`
abbrev pub IsFaultlessElse : List Resource → Dialect → Named → Type 0
IsFaultlessElse all d siblings = (other_fault all d siblings ≡ None) × (unevaluated_fault d siblings ≡ None)

-- a reference, if there is one, leads to nothing that is copied
abbrev pub CopiesNothing : List Resource → Parts → Option Value → Type 0
CopiesNothing roots base found = (copies : Copies) → copied_for roots base found copies ≡ copies

-- among the roots that copies are made of, and the resources
module _ (roots all : List Resource) where
  abbrev pub IsClearValue : SchemaHolding → Dialect → Parts → Value → Type 0
  IsClearValue h d base v =
      (resources h d base v ≡ []) × (fault_in AnyOfThese all h d base v ≡ None)
      × ((copies : Copies) → all_copied roots d base v copies ≡ copies)

  abbrev pub AreClearMembers : (Text → SchemaHolding) → Dialect → Parts → Members → Type 0
  AreClearMembers held d base ms =
      (member_resources held d base ms ≡ []) × (member_fault AnyOfThese all held d base ms ≡ None)
      × ((copies : Copies) → members_copied roots d base ms copies ≡ copies)

  -- the first has the index n
  abbrev pub AreClearItems : Dialect → Parts → ℕ → Items → Type 0
  AreClearItems d base n vs =
      (item_resources d base vs ≡ []) × (item_fault AnyOfThese all d base n vs ≡ None)
      × ((copies : Copies) → items_copied roots d base vs copies ≡ copies)

  -- a schema without those that it holds
  abbrev pub IsClearSchema : Dialect → Parts → Named → Type 0
  IsClearSchema d base siblings =
      (own_dialect d siblings ≡ d) × (identity d base siblings ≡ None)
      × (schema_fault AnyOfThese all d d base base siblings ≡ None)
      × CopiesNothing roots base (get (codes "$ref") siblings)

abbrev pub is_some_text : Option Value → Bool
is_some_text (Some (text t)) = true
is_some_text _ = false

-- an object that holds schemas under names is no schema: that isn't asked where copies are looked for
abbrev pub IsBare : List Resource → Dialect → Parts → Named → Type 0
IsBare roots d base siblings =
    (own_dialect d siblings ≡ d) × (identity d base siblings ≡ None)
    × CopiesNothing roots base (get (codes "$ref") siblings)

-- ---- in documents

-- the reference of a root, and the schemas in its keywords
abbrev pub IsClearInside : List Resource → List Resource → Dialect → Parts → Named → Type 0
IsClearInside roots all d base siblings =
    CopiesNothing roots base (get (codes "$ref") siblings)
    × AreClearMembers roots all (holding_in d siblings) d base (members siblings)

-- below a root whose own base is known
abbrev pub IsClearBelow : List Resource → List Resource → Dialect → Parts → Parts → Named → Type 0
IsClearBelow roots all d uri base siblings =
    (schema_fault AnyOfThese all d d uri base siblings ≡ None) × IsClearInside roots all d base siblings

abbrev pub IsClearRoot : List Resource → List Resource → Dialect → Parts → Named → Type 0
IsClearRoot roots all d uri siblings =
    (own_dialect d siblings ≡ d) × IsClearBelow roots all d uri (own_base d uri siblings) siblings

-- the resources that the root of a document is
abbrev pub own_root : Dialect → Parts → Value → List Resource
own_root d uri (object ms) =
    begun d (object ms) (identity (own_dialect d (member_list ms)) uri (member_list ms))
own_root d uri v = []

abbrev pub roots_found : SourceDocument → Option Dialect → List Resource
roots_found s None = []
roots_found s (Some d) = resource_under d s.root s.uri ∷ own_root d s.uri s.root

abbrev pub source_roots : SourceDocument → List Resource
source_roots s = roots_found s (source_dialect s)

abbrev pub all_roots : Sources → List Resource
all_roots [] = []
all_roots (s ∷ ss) = source_roots s ++ all_roots ss

abbrev pub IsClearDocument : List Resource → List Resource → SourceDocument → Type 0
IsClearDocument roots all s =
    (source_resources [] s ≡ source_roots s) × (source_fault AnyOfThese all s ≡ None)
    × ((copies : Copies) → copied_by roots s (source_dialect s) copies ≡ copies)

-- The roots are all their resources, and they have no fault; the first has the number n.
abbrev pub AreFaultless : List Resource → ℕ → Sources → Type 0
AreFaultless all n ss = (all_resources [] ss ≡ all_roots ss) × (documents_fault AnyOfThese all n ss ≡ None)

-- no reference in them leads to what is copied
abbrev pub CopyNothing : List Resource → Sources → Type 0
CopyNothing roots ss = (copies : Copies) → sources_copied roots ss copies ≡ copies

abbrev pub AreClear : List Resource → List Resource → ℕ → Sources → Type 0
AreClear roots all n ss = AreFaultless all n ss × CopyNothing roots ss
