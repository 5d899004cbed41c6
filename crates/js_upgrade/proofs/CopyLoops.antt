-- Loops over members, of which each changes what there is, and over documents with their copies.
use Rattle.std.proofs.Common.{◌≡◌, ℕ, ◌+◌, List, [], ◌∷◌, ◌++◌, Bool, true, false, Option, Some, None, map, drop}
use Rattle.std.proofs.Common.{option_map, ◌<◌, append_assoc, get_or, length, suc, zero, slice_get, unwrap_or, refl}
use Rattle.std.proofs.Common.{sym, ap, ap₂, ◌∙◌, codes, ◌||◌, add-one}
use Rattle.std.proofs.Math.Seq.{drop-nil}
use Rattle.std.proofs.lemmas.List.{drop_more, map-append}
use Rattle.std.specs.List.{list_any}
use Rattle.url.specs.Parts.{Parts}
use Rattle.js_doc.specs.Members.{get}
use Rattle.js_doc.specs.Seen.{pair_of}
use Rattle.js_doc.specs.Value.{Value, Named, members, object}
use Rattle.js_doc.specs.declared.doc.Doc.{Doc}
use Rattle.js_doc.proofs.PartLists.{member_list-members}
use Rattle.js_upgrade.specs.Copies.{Copies, all_copied, copied_for, copies_of, members_copied, root_with, source_with}
use Rattle.js_upgrade.specs.Copies.{sources_with}
use Rattle.js_upgrade.specs.Documents.{SourceDocument, Sources, all_resources, all_upgraded, are_known, each_upgraded}
use Rattle.js_upgrade.specs.Documents.{source_dialect, source_resources, upgraded_with}
use Rattle.js_upgrade.specs.Fault.{fault_with, first_fault, in_original}
use Rattle.js_upgrade.specs.Resource.{Resource, own_base}
use Rattle.js_upgrade.specs.Seen.{source_of}
use Rattle.js_upgrade.specs.Source.{source_with_root}
use Rattle.js_upgrade.specs.Upgrade.{own_dialect}
use Rattle.js_upgrade.specs.code.Copied.{has_some}
use Rattle.js_upgrade.specs.declared.dialect.Dialect.{Dialect}
use Rattle.js_upgrade.specs.declared.documents.SourceDocument as rust
use Rattle.js_upgrade.specs.declared.fault.UpgradeFault.{UpgradeFault}
use Rattle.js_upgrade.proofs.Loops.{Pairs}

-- ---- members that change what there is, where g is what they make of it

pub changed_next : {S : Type 0} (g : Named → S → S) (f : S → S) (entries left : Pairs) (m : List ℕ × Doc)
    (old new whole : S) → g (pair_of m ∷ map pair_of left) old ≡ g (map pair_of left) (f old) → entries ≡ m ∷ left
    → new ≡ f old → g (map pair_of entries) old ≡ whole → g (map pair_of left) new ≡ whole
changed_next g f entries left m old new whole unfolds step put before =
    ap (g (map pair_of left)) put ∙ sym unfolds ∙ sym (ap (λ es. g (map pair_of es) old) step) ∙ before

pub changed_end : {S : Type 0} (g : Named → S → S) (left entries : Pairs) (ms : Named) (first out : S)
    → g [] out ≡ out → left ≡ [] → map pair_of entries ≡ ms
    → g (map pair_of left) out ≡ g (map pair_of entries) first → out ≡ g ms first
changed_end g left entries ms first out unfolds none seen before =
    sym (ap (λ es. g (map pair_of es) out) none ∙ unfolds) ∙ before ∙ ap (λ ns. g ns first) seen

-- ---- an object

pub object_copied : (roots : List Resource) (d own : Dialect) (base below : Parts) (siblings : Named) (old : Copies)
    → own ≡ own_dialect d siblings → below ≡ own_base own base siblings
    → members_copied roots own below (members siblings) (copied_for roots below (get (codes "$ref") siblings) old)
    ≡ all_copied roots d base (object (members siblings)) old
object_copied roots d own base below siblings old same based =
    let made = λ (e : Dialect) (b : Parts) (ns : Named).
    members_copied roots e b (members siblings) (copied_for roots b (get (codes "$ref") ns) old) in
    ap (λ b. made own b siblings) based ∙ ap (λ e. made e (own_base e base siblings) siblings) same
    ∙ ap (λ ns. made (own_dialect d ns) (own_base (own_dialect d ns) base ns) ns) (sym (member_list-members siblings))

-- ---- the copies of a document, where there are some

abbrev copies_at : Copies → ℕ → Named
copies_at copies i = unwrap_or (slice_get copies i) []

resources_after : (copies : Copies) (i : ℕ) (s : SourceDocument) (rest : Sources)
    → all_resources (drop i copies) (s ∷ rest)
    ≡ source_resources (copies_at copies i) s ++ all_resources (drop (suc i) copies) rest
resources_after [] i s rest =
    ap (λ cs. all_resources cs (s ∷ rest)) (drop-nil i)
    ∙ sym (ap (λ cs. source_resources [] s ++ all_resources cs rest) (drop-nil (suc i)))
resources_after (c ∷ copies) zero s rest = refl
resources_after (c ∷ copies) (suc i) s rest = resources_after copies i s rest

pub resources_next : (copies : Copies) (i : ℕ) (found : Named) (s : SourceDocument) (rest : Sources)
    → found ≡ copies_at copies i
    → all_resources (drop i copies) (s ∷ rest)
    ≡ source_resources found s ++ all_resources (drop (i + 1) copies) rest
resources_next copies i found s rest is =
    resources_after copies i s rest
    ∙ ap (λ c. source_resources c s ++ all_resources (drop (suc i) copies) rest) (sym is)
    ∙ ap (λ n. source_resources found s ++ all_resources (drop n copies) rest) (sym (add-one i))

-- ---- a document with its copies

root_alone : (d : Option Dialect) (root : Value) → root_with d [] root ≡ root
root_alone None root = refl
root_alone (Some d) root = refl

pub source_alone : (s : SourceDocument) → source_with [] s ≡ s
source_alone s = ap (source_with_root s) (root_alone (source_dialect s) s.root)

sources_alone : (sources : Sources) → sources_with [] sources ≡ sources
sources_alone [] = refl
sources_alone (s ∷ ss) = refl

sources_after : (copies : Copies) (i : ℕ) (s : SourceDocument) (rest : Sources)
    → sources_with (drop i copies) (s ∷ rest)
    ≡ source_with (copies_at copies i) s ∷ sources_with (drop (suc i) copies) rest
sources_after [] i s rest =
    ap (λ cs. sources_with cs (s ∷ rest)) (drop-nil i)
    ∙ ap₂ (λ t ss. t ∷ ss) (sym (source_alone s))
    (sym (ap (λ cs. sources_with cs rest) (drop-nil (suc i)) ∙ sources_alone rest))
sources_after (c ∷ copies) zero s rest = refl
sources_after (c ∷ copies) (suc i) s rest = sources_after copies i s rest

pub sources_next : (copies : Copies) (i : ℕ) (found : Named) (s : SourceDocument) (rest : Sources)
    → found ≡ copies_at copies i
    → sources_with (drop i copies) (s ∷ rest) ≡ source_with found s ∷ sources_with (drop (i + 1) copies) rest
sources_next copies i found s rest is =
    sources_after copies i s rest ∙ ap (λ c. source_with c s ∷ sources_with (drop (suc i) copies) rest) (sym is)
    ∙ ap (λ n. source_with found s ∷ sources_with (drop n copies) rest) (sym (add-one i))

-- ---- one document more, in a loop

module _ (copies : Copies) (i : ℕ) (found : Named) (is : found ≡ copies_at copies i) (ss : List rust.SourceDocument)
    (x : rust.SourceDocument) (low : i < length ss) (at : x ≡ get_or ss i x) where
  abbrev left : Sources
  left = map source_of (drop (i + 1) ss)

  here : map source_of (drop i ss) ≡ source_of x ∷ left
  here = ap (map source_of) (drop_more ss i x low) ∙ ap (λ y. source_of y ∷ left) (sym at)

  pub resources_pushed : (out new whole : List Resource) → new ≡ out ++ source_resources found (source_of x)
      → out ++ all_resources (drop i copies) (map source_of (drop i ss)) ≡ whole
      → new ++ all_resources (drop (i + 1) copies) left ≡ whole
  resources_pushed out new whole put before =
      let rest = all_resources (drop (i + 1) copies) left in
      ap (λ rs. rs ++ rest) put ∙ append_assoc out (source_resources found (source_of x)) rest
      ∙ sym (ap (λ rs. out ++ rs) (ap (all_resources (drop i copies)) here
      ∙ resources_next copies i found (source_of x) left is)) ∙ before

  pub sources_pushed : (out new : List rust.SourceDocument) (made : rust.SourceDocument) (whole : Sources) → new
      ≡ out ++ made ∷ []
      → source_of made ≡ source_with found (source_of x)
      → map source_of out ++ sources_with (drop i copies) (map source_of (drop i ss)) ≡ whole
      → map source_of new ++ sources_with (drop (i + 1) copies) left ≡ whole
  sources_pushed out new made whole put becomes before =
      let rest = sources_with (drop (i + 1) copies) left in
      ap (λ rs. map source_of rs ++ rest) put ∙ ap (λ rs. rs ++ rest) (map-append source_of out (made ∷ []))
      ∙ append_assoc (map source_of out) (source_of made ∷ []) rest
      ∙ ap (λ s. map source_of out ++ s ∷ rest) becomes
      ∙ sym (ap (λ rs. map source_of out ++ rs) (ap (sources_with (drop i copies)) here
      ∙ sources_next copies i found (source_of x) left is)) ∙ before

-- ---- where there are none

none_with : (c : Named) (s : SourceDocument) → has_some c ≡ false → source_with c s ≡ s
none_with [] s none = source_alone s
none_with (m ∷ ms) s none = absurd (cc)

first_false : (a b : Bool) → (a || b) ≡ false → a ≡ false
first_false true b e = absurd (cc)
first_false false b e = refl

rest_false : (a b : Bool) → (a || b) ≡ false → b ≡ false
rest_false true b e = absurd (cc)
rest_false false b e = e

pub none_copied : (copies : Copies) (sources : Sources) → list_any has_some copies ≡ false
    → sources_with copies sources ≡ sources
none_copied copies [] none = refl
none_copied [] (s ∷ ss) none = refl
none_copied (c ∷ copies) (s ∷ ss) none =
    ap₂ (λ t ts. t ∷ ts) (none_with c s (first_false (has_some c) (list_any has_some copies) none))
    (none_copied copies ss (rest_false (has_some c) (list_any has_some copies) none))

-- ---- what is upgraded with the copies is upgraded

module _ (copies : Copies) (sources : Sources) (is : copies ≡ copies_of sources) where
  pub all_upgraded_is : upgraded_with copies (sources_with copies sources) ≡ all_upgraded sources
  unfolding are_known each_upgraded
  all_upgraded_is = ap (λ cs. upgraded_with cs (sources_with cs sources)) is

  abbrev FaultOf : Copies → Option UpgradeFault
  FaultOf cs = option_map (in_original cs sources) (fault_with cs (sources_with cs sources))

  first_is : FaultOf copies ≡ first_fault sources
  unfolding first_fault
  first_is = ap FaultOf is

  pub none_first : fault_with copies (sources_with copies sources) ≡ None → first_fault sources ≡ None
  none_first none = sym first_is ∙ ap (option_map (in_original copies sources)) none

  pub some_first : (f : UpgradeFault) → fault_with copies (sources_with copies sources) ≡ Some f
      → first_fault sources ≡ Some (in_original copies sources f)
  some_first f some = sym first_is ∙ ap (option_map (in_original copies sources)) some
