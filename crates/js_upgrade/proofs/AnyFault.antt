-- Where one walk finds none of the faults that several look for, they find none.
use Rattle.std.proofs.Common.{◌≡◌, ℕ, ◌+◌, List, [], ◌∷◌, Option, Some, None, false, decimal, is_some, option_map}
use Rattle.std.proofs.Common.{option_and_then, refl, sym, ap, ◌∙◌}
use Rattle.url.specs.Parts.{Parts}
use Rattle.js_doc.specs.Parts.{member_list}
use Rattle.js_doc.specs.Value.{Value, null, truth, whole, text, list, object, Items, no_items, item, Members}
use Rattle.js_doc.specs.Value.{no_members, member, Text, Named}
use Rattle.js_upgrade.specs.Dialect.{first_of}
use Rattle.js_upgrade.specs.Documents.{SourceDocument, Sources, source_dialect}
use Rattle.js_upgrade.specs.Fault.{contained_fault, deeper, documents_fault, fault_by_dialect, fault_in}
use Rattle.js_upgrade.specs.Fault.{in_document, item_fault, member_fault, name_fault, names_fault, reference_fault}
use Rattle.js_upgrade.specs.Fault.{repeated_fault, schema_fault, source_fault, unevaluated_fault, uris_fault}
use Rattle.js_upgrade.specs.Resource.{Resource, own_base}
use Rattle.js_upgrade.specs.Upgrade.{holding_in, own_dialect}
use Rattle.js_upgrade.specs.declared.dialect.Dialect.{Dialect}
use Rattle.js_upgrade.specs.declared.fault.Pass.{Pass}
use Rattle.js_upgrade.specs.declared.fault.Pass.TheVariants.{Names, References, Unevaluated, Contained, AnyOfThese}
use Rattle.js_upgrade.specs.declared.holding.SchemaHolding.{SchemaHolding}
use Rattle.js_upgrade.specs.declared.holding.SchemaHolding.TheVariants.{One, Listed, Named as ByName, OneOrListed}
use Rattle.js_upgrade.specs.declared.holding.SchemaHolding.TheVariants.{Nothing}
use Rattle.js_upgrade.proofs.KnownDialects.{neither, unmapped}

pub none_there : {A : Type 0} (a : Option A) → is_some a ≡ false → a ≡ None
none_there None e = refl
none_there (Some x) e = absurd (cc)

both : {A : Type 0} (a b : Option A) → a ≡ None → b ≡ None → first_of a b ≡ None
both a b none more = ap (λ o. first_of o b) none ∙ more

module _ (all : List Resource) where
  -- no schema has one
  abbrev IsFound : Pass → Type 0
  IsFound pass = (d own : Dialect) (base below : Parts) (siblings : Named)
      → schema_fault AnyOfThese all d own base below siblings ≡ None
      → schema_fault pass all d own base below siblings ≡ None

  parts : (d own : Dialect) (base below : Parts) (siblings : Named)
      → schema_fault AnyOfThese all d own base below siblings ≡ None
      → (name_fault d own base siblings ≡ None)
      × ((reference_fault all own below siblings ≡ None) × (unevaluated_fault own siblings ≡ None))
  parts d own base below siblings e =
      let first = neither (name_fault d own base siblings)
      (first_of (reference_fault all own below siblings) (unevaluated_fault own siblings)) e in (
        first.0,
        neither (reference_fault all own below siblings) (unevaluated_fault own siblings) first.1,
      )

  names : IsFound Names
  names d own base below siblings e = (parts d own base below siblings e).0

  references : IsFound References
  references d own base below siblings e = (parts d own base below siblings e).1.0

  unevaluated : IsFound Unevaluated
  unevaluated d own base below siblings e = (parts d own base below siblings e).1.1

  module _ (pass : Pass) (found : IsFound pass) where
    mapped : {A B : Type 0} (f : A → B) (a : Option A) → a ≡ None → option_map f a ≡ None
    mapped f a none = ap (option_map f) none

    -- of a schema, and of those that it holds
    parts_clear : (d : Dialect) (base : Parts) (ms : Members)
        → fault_in AnyOfThese all One d base (object ms) ≡ None
        → (schema_fault pass all d (own_dialect d (member_list ms)) base
        (own_base (own_dialect d (member_list ms)) base (member_list ms)) (member_list ms) ≡ None)
        × (member_fault AnyOfThese all (holding_in (own_dialect d (member_list ms)) (member_list ms))
        (own_dialect d (member_list ms)) (own_base (own_dialect d (member_list ms)) base (member_list ms)) ms ≡ None)
    parts_clear d base ms e =
        let siblings = member_list ms in
        let own = own_dialect d siblings in
        let below = own_base own base siblings in
        let none = neither (schema_fault AnyOfThese all d own base below siblings)
        (member_fault AnyOfThese all (holding_in own siblings) own below ms) e in
        (found d own base below siblings none.0, none.1)

    schema_clear : (d : Dialect) (base : Parts) (ms : Members)
        → fault_in AnyOfThese all One d base (object ms) ≡ None
        → member_fault pass all (holding_in (own_dialect d (member_list ms)) (member_list ms))
        (own_dialect d (member_list ms)) (own_base (own_dialect d (member_list ms)) base (member_list ms)) ms ≡ None
        → fault_in pass all One d base (object ms) ≡ None
    schema_clear d base ms e =
        let siblings = member_list ms in
        let own = own_dialect d siblings in
        let below = own_base own base siblings in
        both (schema_fault pass all d own base below siblings)
        (member_fault pass all (holding_in own siblings) own below ms) (parts_clear d base ms e).0

    mutual
      value_clear : (h : SchemaHolding) (d : Dialect) (base : Parts) (v : Value)
          → fault_in AnyOfThese all h d base v ≡ None → fault_in pass all h d base v ≡ None
      value_clear One d base (object ms) e =
          let siblings = member_list ms in
          let own = own_dialect d siblings in
          schema_clear d base ms e (members_clear (holding_in own siblings) own (own_base own base siblings) ms
          (parts_clear d base ms e).1)
      value_clear OneOrListed d base (object ms) e =
          let siblings = member_list ms in
          let own = own_dialect d siblings in
          schema_clear d base ms e (members_clear (holding_in own siblings) own (own_base own base siblings) ms
          (parts_clear d base ms e).1)
      value_clear ByName d base (object ms) e = members_clear (λ name. One) d base ms e
      value_clear Listed d base (object ms) e = refl
      value_clear Nothing d base (object ms) e = refl
      value_clear Listed d base (list vs) e = items_clear d base 0 vs e
      value_clear OneOrListed d base (list vs) e = items_clear d base 0 vs e
      value_clear One d base (list vs) e = refl
      value_clear ByName d base (list vs) e = refl
      value_clear Nothing d base (list vs) e = refl
      value_clear One d base null e = refl
      value_clear One d base (truth b) e = refl
      value_clear One d base (whole z) e = refl
      value_clear One d base (text t) e = refl
      value_clear Listed d base null e = refl
      value_clear Listed d base (truth b) e = refl
      value_clear Listed d base (whole z) e = refl
      value_clear Listed d base (text t) e = refl
      value_clear ByName d base null e = refl
      value_clear ByName d base (truth b) e = refl
      value_clear ByName d base (whole z) e = refl
      value_clear ByName d base (text t) e = refl
      value_clear OneOrListed d base null e = refl
      value_clear OneOrListed d base (truth b) e = refl
      value_clear OneOrListed d base (whole z) e = refl
      value_clear OneOrListed d base (text t) e = refl
      value_clear Nothing d base null e = refl
      value_clear Nothing d base (truth b) e = refl
      value_clear Nothing d base (whole z) e = refl
      value_clear Nothing d base (text t) e = refl

      items_clear : (d : Dialect) (base : Parts) (n : ℕ) (vs : Items) → item_fault AnyOfThese all d base n vs ≡ None
          → item_fault pass all d base n vs ≡ None
      items_clear d base n no_items e = refl
      items_clear d base n (item v vs) e =
          let none = neither (option_map (deeper (decimal n)) (fault_in AnyOfThese all One d base v))
          (item_fault AnyOfThese all d base (n + 1) vs) e in
          both (option_map (deeper (decimal n)) (fault_in pass all One d base v))
          (item_fault pass all d base (n + 1) vs)
          (mapped (deeper (decimal n)) (fault_in pass all One d base v)
          (value_clear One d base v (unmapped (deeper (decimal n)) (fault_in AnyOfThese all One d base v) none.0)))
          (items_clear d base (n + 1) vs none.1)

      members_clear : (held : Text → SchemaHolding) (d : Dialect) (base : Parts) (ms : Members)
          → member_fault AnyOfThese all held d base ms ≡ None → member_fault pass all held d base ms ≡ None
      members_clear held d base no_members e = refl
      members_clear held d base (member name v ms) e =
          let none = neither (option_map (deeper name) (fault_in AnyOfThese all (held name) d base v))
          (member_fault AnyOfThese all held d base ms) e in
          both (option_map (deeper name) (fault_in pass all (held name) d base v))
          (member_fault pass all held d base ms)
          (mapped (deeper name) (fault_in pass all (held name) d base v)
          (value_clear (held name) d base v
          (unmapped (deeper name) (fault_in AnyOfThese all (held name) d base v) none.0)))
          (members_clear held d base ms none.1)

    source_clear : (s : SourceDocument) (d : Option Dialect) → fault_by_dialect AnyOfThese all s d ≡ None
        → fault_by_dialect pass all s d ≡ None
    source_clear s None e = e
    source_clear s (Some d) e = value_clear One d s.uri s.root e

    documents_clear : (n : ℕ) (sources : Sources) → documents_fault AnyOfThese all n sources ≡ None
        → documents_fault pass all n sources ≡ None
    documents_clear n [] e = refl
    documents_clear n (s ∷ ss) e =
        let none = neither (option_map (in_document n) (source_fault AnyOfThese all s))
        (documents_fault AnyOfThese all (n + 1) ss) e in
        both (option_map (in_document n) (source_fault pass all s)) (documents_fault pass all (n + 1) ss)
        (mapped (in_document n) (source_fault pass all s)
        (source_clear s (source_dialect s) (unmapped (in_document n) (source_fault AnyOfThese all s) none.0)))
        (documents_clear (n + 1) ss none.1)

  -- then the documents' URIs decide
  pub uris_decide : (sources : Sources) → documents_fault AnyOfThese all 0 sources ≡ None
      → repeated_fault [] 0 sources ≡ names_fault all sources
  uris_decide sources e =
      let none_contained = ap (option_and_then (λ f. documents_fault Contained all 0 sources))
      (documents_clear Unevaluated unevaluated 0 sources e) in
      let no_reference = both (documents_fault References all 0 sources) (contained_fault all sources)
      (documents_clear References references 0 sources e) none_contained in
      sym (ap (λ o. first_of o (uris_fault all sources)) (documents_clear Names names 0 sources e)
      ∙ ap (first_of (repeated_fault [] 0 sources)) no_reference ∙ first_alone (repeated_fault [] 0 sources))
    where
      first_alone : {A : Type 0} (a : Option A) → first_of a None ≡ a
      first_alone None = refl
      first_alone (Some x) = refl
