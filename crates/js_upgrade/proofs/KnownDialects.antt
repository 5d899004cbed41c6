-- Documents without a fault have dialects that are known.
use Rattle.std.proofs.Common.{◌≡◌, ℕ, ◌+◌, List, [], ◌∷◌, true, ◌&&◌, Option, Some, None, cond, map, is_some}
use Rattle.std.proofs.Common.{option_map, codes, length, refl, sym, ap, ◌∙◌}
use Rattle.std.specs.List.{list_all}
use Rattle.js_doc.specs.Members.{get}
use Rattle.js_doc.specs.Parts.{member_list}
use Rattle.js_doc.specs.Value.{Value, null, truth, whole, text, list, object, Values}
use Rattle.js_upgrade.specs.Copies.{Copies}
use Rattle.js_upgrade.specs.Dialect.{first_of}
use Rattle.js_upgrade.specs.Documents.{SourceDocument, all_resources, is_known, source_dialect, upgraded_among}
use Rattle.js_upgrade.specs.Documents.{upgraded_with}
use Rattle.js_upgrade.specs.Fault.{dialect_kind, documents_fault, fault_among, fault_by_dialect, in_document}
use Rattle.js_upgrade.specs.Fault.{names_fault}
use Rattle.js_upgrade.specs.Fault.{fault_with, number_fault, root_kind, source_fault, unnamed, uris_fault}
use Rattle.js_upgrade.specs.Resource.{Resource}
use Rattle.js_upgrade.specs.Upgrade.{dialect_found, dialect_in, document_dialect}
use Rattle.js_upgrade.specs.declared.dialect.Dialect.{Dialect}
use Rattle.js_upgrade.specs.declared.fault.Pass.TheVariants.{Names}

-- ---- where there is no first one, there is none

pub neither : {A : Type 0} (a b : Option A) → first_of a b ≡ None → (a ≡ None) × (b ≡ None)
neither None b e = (refl, e)
neither (Some x) b e = absurd (cc)

pub unmapped : {A B : Type 0} (f : A → B) (a : Option A) → option_map f a ≡ None → a ≡ None
unmapped f None e = refl
unmapped f (Some x) e = absurd (cc)

-- ---- the dialect of a document

named_known : (v : Value) (d : Option Dialect) → unnamed v d ≡ None → is_some d ≡ true
named_known v None e = absurd (cc)
named_known v (Some d) e = refl

found_known : (assumed : Dialect) (found : Option Value) → dialect_kind found ≡ None
    → is_some (dialect_found assumed found) ≡ true
found_known assumed None e = refl
found_known assumed (Some v) e = named_known v (dialect_in v) e

root_known : (assumed : Dialect) (root : Value) → root_kind root ≡ None → is_some (document_dialect assumed root) ≡ true
root_known assumed (object ms) e = found_known assumed (get (codes "$schema") (member_list ms)) e
root_known assumed null e = refl
root_known assumed (truth b) e = refl
root_known assumed (whole z) e = refl
root_known assumed (text t) e = refl
root_known assumed (list vs) e = refl

module _ (all : List Resource) where
  known_by : (s : SourceDocument) (found : Option Dialect) → source_dialect s ≡ found
      → fault_by_dialect Names all s found ≡ None
      → is_some found ≡ true
  known_by s None is e =
      sym (ap is_some is) ∙ root_known s.assumed s.root (unmapped _ (root_kind s.root) e)
  known_by s (Some d) is e = refl

  all_known : (n : ℕ) (sources : List SourceDocument) → documents_fault Names all n sources ≡ None
      → list_all is_known sources ≡ true
  all_known n [] e = refl
  all_known n (s ∷ ss) e =
      let none = neither (option_map (in_document n) (source_fault Names all s)) (documents_fault Names all (n + 1) ss)
      e in
      ap (λ b. b && list_all is_known ss)
      (known_by s (source_dialect s) refl (unmapped (in_document n) (source_fault Names all s) none.0))
      ∙ all_known (n + 1) ss none.1

  known_among : (sources : List SourceDocument) → fault_among all sources ≡ None → list_all is_known sources ≡ true
  known_among sources e =
      let few = neither (number_fault (length sources)) (names_fault all sources) e in
      all_known 0 sources (neither (documents_fault Names all 0 sources) (uris_fault all sources) few.1).0

-- so they are upgraded
pub upgraded_whole : (copies : Copies) (all : List Resource) (sources : List SourceDocument) (vs : Values)
    → all ≡ all_resources copies sources → fault_with copies sources ≡ None → vs ≡ map (upgraded_among all) sources
    → upgraded_with copies sources ≡ Some vs
upgraded_whole copies all sources vs found clear made =
    ap (λ b. cond b (Some (map (upgraded_among (all_resources copies sources)) sources)) None)
    (known_among (all_resources copies sources) sources clear)
    ∙ ap Some (sym (made ∙ ap (λ rs. map (upgraded_among rs) sources) found))
