-- The URIs of documents, one after the other: is one repeated?
use Rattle.std.proofs.Common.{◌≡◌, ℕ, ◌+◌, ◌<◌, List, ◌∷◌, Bool, true, false, not, cond, Option, Some, map, get_or}
use Rattle.std.proofs.Common.{length, drop, refl, sym, ap, ◌∙◌, bytes_eq}
use Rattle.std.proofs.lemmas.List.{drop_more}
use Rattle.std.specs.List.{list_any}
use Rattle.js_doc.specs.Value.{Text, text}
use Rattle.js_upgrade.specs.Fault.{of_document, repeated_fault}
use Rattle.js_upgrade.specs.Schema.{is_new}
use Rattle.js_upgrade.specs.Seen.{source_of}
use Rattle.js_upgrade.specs.Url.{uri_printed}
use Rattle.js_upgrade.specs.declared.documents.SourceDocument as rust
use Rattle.js_upgrade.specs.declared.fault.UpgradeFault.{UpgradeFault}
use Rattle.js_upgrade.specs.declared.fault.UpgradeFaultKind.TheVariants.{DuplicateUri}

absent : (a b : Bool) → b ≡ not a → b ≡ true → a ≡ false
absent true b is new = absurd (cc)
absent false b is new = refl

present : (a b : Bool) → b ≡ not a → b ≡ false → a ≡ true
present true b is old = refl
present false b is old = absurd (cc)

module _ (uris : List Text) (ss : List rust.SourceDocument) (i : ℕ) (x : rust.SourceDocument) (b : Bool)
    (whole : Option UpgradeFault)
    (low : i < length ss) (at : x ≡ get_or ss i x) (added : b ≡ is_new uris (text (uri_printed x.uri)))
    (before : repeated_fault uris i (map source_of (drop i ss)) ≡ whole) where
  abbrev is_old : Bool
  is_old = list_any (bytes_eq (uri_printed x.uri)) uris

  abbrev later : Option UpgradeFault
  later = repeated_fault (uri_printed x.uri ∷ uris) (i + 1) (map source_of (drop (i + 1) ss))

  this_one : repeated_fault uris i (map source_of (drop i ss)) ≡ cond is_old (Some (of_document i DuplicateUri)) later
  this_one =
      ap (λ es. repeated_fault uris i (map source_of es)) (drop_more ss i x low)
      ∙ ap (λ y. repeated_fault uris i (source_of y ∷ map source_of (drop (i + 1) ss))) (sym at)

  pub uri_next : b ≡ true → later ≡ whole
  uri_next new =
      sym (this_one ∙ ap (λ c. cond c (Some (of_document i DuplicateUri)) later) (absent is_old b added new)) ∙ before

  pub uri_stops : b ≡ false → Some (of_document i DuplicateUri) ≡ whole
  uri_stops old =
      sym (this_one ∙ ap (λ c. cond c (Some (of_document i DuplicateUri)) later) (present is_old b added old)) ∙ before
