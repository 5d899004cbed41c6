-- Documents that are clear, and have no copies: the resources are their roots.
use Rattle.std.proofs.Common.{◌≡◌, ℕ, ◌+◌, List, [], ◌∷◌, ◌++◌, Bool, true, false, Some, None, codes, refl, sym, ap}
use Rattle.std.proofs.Common.{◌∙◌}
use Rattle.std.specs.Prelude.{◌||◌, option_map}
use Rattle.std.specs.List.{list_any}
use Rattle.std.proofs.lemmas.List.{append-nil}
use Rattle.url.specs.Parts.{Parts}
use Rattle.js_doc.specs.Members.{get}
use Rattle.js_doc.specs.Parts.{member_list}
use Rattle.js_doc.specs.Value.{Value, object, Members, Named, members}
use Rattle.js_doc.proofs.PartLists.{member_list-members, members-member_list}
use Rattle.js_upgrade.specs.Copies.{Copies, all_copied, copied_by, copied_for, members_copied, sources_copied}
use Rattle.js_upgrade.specs.Dialect.{first_of}
use Rattle.js_upgrade.specs.Documents.{SourceDocument, Sources, all_resources, resources_by, source_dialect}
use Rattle.js_upgrade.specs.Documents.{source_resources}
use Rattle.js_upgrade.specs.Fault.{documents_fault, fault_by_dialect, fault_in, in_document, member_fault}
use Rattle.js_upgrade.specs.Fault.{schema_fault}
use Rattle.js_upgrade.specs.Resource.{Resource, begun, document_resources, identity, member_resources, own_base}
use Rattle.js_upgrade.specs.Resource.{own_resources, resource_under}
use Rattle.js_upgrade.specs.Upgrade.{holding_in, own_dialect}
use Rattle.js_upgrade.specs.code.Clear.{AreClear, CopiesNothing, IsClearDocument, IsClearRoot}
use Rattle.js_upgrade.specs.code.Clear.{own_root, roots_found, source_roots}
use Rattle.js_upgrade.specs.code.Copied.{has_some}
use Rattle.js_upgrade.specs.declared.dialect.Dialect.{Dialect}
use Rattle.js_upgrade.specs.declared.fault.Pass.TheVariants.{AnyOfThese}
use Rattle.js_upgrade.specs.declared.holding.SchemaHolding.TheVariants.{One}

-- ---- without copies

none_by : (c : Named) → has_some c ≡ false → c ≡ []
none_by [] none = refl
none_by (m ∷ ms) none = absurd (cc)

first_false : (a b : Bool) → (a || b) ≡ false → a ≡ false
first_false false b none = refl
first_false true b none = absurd (cc)

rest_false : (a b : Bool) → (a || b) ≡ false → b ≡ false
rest_false false b none = none
rest_false true b none = absurd (cc)

pub uncopied : (copies : Copies) (sources : Sources) → list_any has_some copies ≡ false
    → all_resources copies sources ≡ all_resources [] sources
uncopied [] [] none = refl
uncopied [] (s ∷ ss) none = refl
uncopied (c ∷ copies) [] none = refl
uncopied (c ∷ copies) (s ∷ ss) none =
    ap (λ k. source_resources k s ++ all_resources copies ss)
    (none_by c (first_false (has_some c) (list_any has_some copies) none))
    ∙ ap (λ rs. source_resources [] s ++ rs)
    (uncopied copies ss (rest_false (has_some c) (list_any has_some copies) none))

-- ---- one document

-- an identifier that gives no base
pub no_own_root : (d own : Dialect) (uri : Parts) (siblings : Named)
    (root : Value) → root ≡ object (members siblings) → own ≡ own_dialect d siblings
    → None ≡ identity own uri siblings → own_root d uri root ≡ []
no_own_root d own uri siblings root is known none =
    ap (own_root d uri) is
    ∙ ap (λ ms. begun d (object (members siblings)) (identity (own_dialect d ms) uri ms)) (member_list-members siblings)
    ∙ ap (λ e. begun d (object (members siblings)) (identity e uri siblings)) (sym known)
    ∙ ap (begun d (object (members siblings))) (sym none)

module _ (roots all : List Resource) where
  -- a root of which the rest is clear
  root_is : (d : Dialect) (uri : Parts) (siblings : Members) → IsClearRoot roots all d uri (member_list siblings)
      → (document_resources [] d uri (object siblings)
      ≡ resource_under d (object siblings) uri ∷ own_root d uri (object siblings))
      × (fault_in AnyOfThese all One d uri (object siblings) ≡ None)
      × ((copies : Copies) → all_copied roots d uri (object siblings) copies ≡ copies)
  root_is d uri siblings (own, (faultless, (here, (nothing, below, kept)))) = (
    ap (λ rs. resource_under d (object siblings) uri ∷ rs) (nothing_more own nothing),
    faults_by own faultless below,
    kept_by own here kept,
  )
    where
      nothing_more : own_dialect d (member_list siblings) ≡ d
          → member_resources (holding_in d (member_list siblings)) d (own_base d uri (member_list siblings))
          (members (member_list siblings)) ≡ []
          → own_resources [] d uri (member_list siblings) (object siblings) ≡ own_root d uri (object siblings)
      nothing_more own nothing =
          ap (λ rs. begun d (object siblings)
          (identity (own_dialect d (member_list siblings)) uri (member_list siblings)) ++ rs)
          (ap (λ e. member_resources (holding_in e (member_list siblings)) e (own_base e uri (member_list siblings))
          (members (member_list siblings))) own ∙ nothing)
          ∙ append-nil _

      faults_by : own_dialect d (member_list siblings) ≡ d
          → schema_fault AnyOfThese all d d uri (own_base d uri (member_list siblings)) (member_list siblings) ≡ None
          → member_fault AnyOfThese all (holding_in d (member_list siblings)) d (own_base d uri (member_list siblings))
          (members (member_list siblings)) ≡ None
          → fault_in AnyOfThese all One d uri (object siblings) ≡ None
      faults_by own faultless below =
          ap (λ e. first_of (schema_fault AnyOfThese all d e uri (own_base e uri (member_list siblings))
          (member_list siblings))
          (member_fault AnyOfThese all (holding_in e (member_list siblings)) e (own_base e uri (member_list siblings))
          siblings)) own
          ∙ ap (λ o. first_of o (member_fault AnyOfThese all (holding_in d (member_list siblings)) d
          (own_base d uri (member_list siblings)) siblings)) faultless
          ∙ ap (λ ms. member_fault AnyOfThese all (holding_in d (member_list siblings)) d
          (own_base d uri (member_list siblings)) ms) (sym (members-member_list siblings))
          ∙ below

      kept_by : own_dialect d (member_list siblings) ≡ d
          → CopiesNothing roots (own_base d uri (member_list siblings)) (get (codes "$ref") (member_list siblings))
          → ((copies : Copies) → members_copied roots d (own_base d uri (member_list siblings))
          (members (member_list siblings)) copies ≡ copies)
          → (copies : Copies) → all_copied roots d uri (object siblings) copies ≡ copies
      kept_by own here kept copies =
          let ns = member_list siblings in
          let base = own_base d uri ns in
          ap (λ e. members_copied roots e (own_base e uri ns) siblings
          (copied_for roots (own_base e uri ns) (get (codes "$ref") ns) copies)) own
          ∙ ap (members_copied roots d base siblings) (here copies)
          ∙ ap (λ ms. members_copied roots d base ms copies) (sym (members-member_list siblings)) ∙ kept copies

  pub document_is : (s : SourceDocument) (d : Dialect) (siblings : Members) → source_dialect s ≡ Some d
      → s.root ≡ object siblings → IsClearRoot roots all d s.uri (member_list siblings) → IsClearDocument roots all s
  document_is s d siblings known root clear =
      let both = root_is d s.uri siblings clear in (
        ap (resources_by [] s) known ∙ ap (λ v. document_resources [] d s.uri v) root ∙ both.0
            ∙ sym (ap (roots_found s) known
            ∙ ap (λ v. resource_under d v s.uri ∷ own_root d s.uri v) root),
        ap (fault_by_dialect AnyOfThese all s) known ∙ ap (λ v. fault_in AnyOfThese all One d s.uri v) root
            ∙ both.1,
        λ copies. ap (λ o. copied_by roots s o copies) known ∙ ap (λ v. all_copied roots d s.uri v copies) root
            ∙ both.2 copies,
      )

  -- ---- all of them

  -- one more
  pub next_clear : (s : SourceDocument) (ss : Sources) (n : ℕ) → IsClearDocument roots all s
      → AreClear roots all (n + 1) ss → AreClear roots all n (s ∷ ss)
  next_clear s ss n (own, faultless, here) ((rest, below), kept) = (
    (
      ap (λ rs. rs ++ all_resources [] ss) own ∙ ap (λ rs. source_roots s ++ rs) rest,
      ap (λ o. first_of (option_map (in_document n) o) (documents_fault AnyOfThese all (n + 1) ss)) faultless ∙ below,
    ),
    λ copies. ap (sources_copied roots ss) (here copies) ∙ kept copies,
  )
