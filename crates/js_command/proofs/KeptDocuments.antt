-- What is kept of documents that are taken one after another.
use Rattle.std.proofs.Common.{◌≡◌, ℕ, ◌+◌, List, [], ◌∷◌, ◌++◌, length, Option, Some, None, Result, Ok, Err, IfOk}
use Rattle.std.proofs.Common.{IfErr, OnOk, option_to_list, refl, sym, ap, ◌∙◌, subst, arith, append_assoc}
use Rattle.std.proofs.Common.{◌<◌, ◌≤◌, get_or, length-append}
use Rattle.std.proofs.lemmas.List.{append-nil}
use Rattle.js_bundle.specs.Adding.{IsAdded}
use Rattle.js_bundle.specs.Document as bundle
use Rattle.js_output.specs.Cause.{MayGoOn, FailsBy}
use Rattle.js_output.specs.Device.{IsLeft, input_limit}
use Rattle.js_output.specs.Documents.{DocumentTexts, adding_causes, bundle_causes, bundle_of, document_causes}
use Rattle.js_output.specs.Documents.{taken}
use Rattle.js_output.specs.declared.fault.Fault.{Fault}
use Rattle.js_output.proofs.BundleCauses.{added_clear, held_more, taken_is}
use Rattle.js_output.proofs.CauseLists.{clear-append, fails-append, fails-later}
use Rattle.js_command.specs.Files.{ContentsByPath}
use Rattle.js_command.specs.code.Taken.{AreFinishedAs, AreKept}
use Rattle.js_command.specs.declared.words.DocumentFile.{DocumentFile}
use Rattle.js_command.proofs.FileFaults.{RestDecides, rest_more}
use Rattle.js_command.proofs.Holding.{HoldsSoFar, holds_more}

-- ---- one more text

bundle-append : (texts : DocumentTexts) (d : List ℕ × List ℕ)
    → bundle_of (texts ++ d ∷ []) ≡ bundle_of texts ++ option_to_list (taken d)
bundle-append [] d = append-nil (option_to_list (taken d))
bundle-append (t ∷ texts) d =
    ap (λ ds. option_to_list (taken t) ++ ds) (bundle-append texts d)
    ∙ sym (append_assoc (option_to_list (taken t)) (bundle_of texts) (option_to_list (taken d)))

causes-append : (n : ℕ) (texts : DocumentTexts) (d : List ℕ × List ℕ)
    → adding_causes n (texts ++ d ∷ []) ≡ adding_causes n texts ++ document_causes (n + length texts) d
causes-append n [] d =
    let same : n ≡ n + 0 = omega arith in
    append-nil (document_causes n d) ∙ ap (λ m. document_causes m d) same
causes-append n (t ∷ texts) d =
    let same : n + 1 + length texts ≡ n + length (t ∷ texts) = omega arith in
    ap (λ cs. document_causes n t ++ cs) (causes-append (n + 1) texts d)
    ∙ sym (append_assoc (document_causes n t) (adding_causes (n + 1) texts) (document_causes (n + 1 + length texts) d))
    ∙ ap (λ m. (document_causes n t ++ adding_causes (n + 1) texts) ++ document_causes m d) same

pub kept_none : (held : bundle.Documents) → held ≡ [] → AreKept [] held None
kept_none held is = (ap length is, is, tt)

module _ (texts : DocumentTexts) (held : bundle.Documents) (uri bytes : List ℕ) where
  abbrev more : DocumentTexts
  more = texts ++ (uri, bytes) ∷ []

  causes_more : adding_causes 0 more ≡ adding_causes 0 texts ++ document_causes (length texts) (uri, bytes)
  causes_more =
      let same : 0 + length texts ≡ length texts = omega arith in
      causes-append 0 texts (uri, bytes)
      ∙ ap (λ m. adding_causes 0 texts ++ document_causes m (uri, bytes)) same

  -- it is added
  pub kept_more : (new : bundle.Documents) → AreKept texts held None → IsAdded held uri bytes new
      → AreKept more new None
  kept_more new (many, of, clear) added =
      let (d, t, is) = added in
      let here = added_clear held new uri bytes (length texts) added many in
      let count : length more ≡ length texts + 1 = length-append texts ((uri, bytes) ∷ []) in (
        held_more held new uri bytes (length texts) added many ∙ sym count,
        is ∙ ap (λ ds. ds ++ d ∷ []) of
            ∙ ap (λ o. bundle_of texts ++ option_to_list o) (sym (taken_is (length held) uri bytes d t))
            ∙ sym (bundle-append texts (uri, bytes)),
        subst MayGoOn (sym causes_more)
            (clear-append (adding_causes 0 texts) (document_causes (length texts) (uri, bytes)) clear here),
      )

  -- it is refused
  pub kept_refused : (f : Fault) → AreKept texts held None → FailsBy (document_causes (length held) (uri, bytes)) f
      → AreKept more held (Some f)
  kept_refused f (many, of, clear) h =
      subst (λ cs. FailsBy cs f) (sym causes_more)
      (fails-later (adding_causes 0 texts) (document_causes (length texts) (uri, bytes)) f clear
      (subst (λ m. FailsBy (document_causes m (uri, bytes)) f) many h))

  -- one before it was
  pub kept_past : (f : Fault) → AreKept texts held (Some f) → AreKept more held (Some f)
  kept_past f h =
      subst (λ cs. FailsBy cs f) (sym causes_more)
      (fails-append (adding_causes 0 texts) (document_causes (length texts) (uri, bytes)) f h)

-- ---- the end

module _ (texts : DocumentTexts) (held : bundle.Documents) where
  pub finished_refused : (f : Fault) → AreKept texts held (Some f) → AreFinishedAs texts (Err f)
  finished_refused f h = fails-append (adding_causes 0 texts) (bundle_causes (bundle_of texts)) f h

  pub finished_all : (result : Result bundle.Documents Fault) → AreKept texts held None → IfOk result (λ s. s ≡ held)
      → OnOk result (MayGoOn (bundle_causes held)) → IfErr result (FailsBy (bundle_causes held))
      → AreFinishedAs texts result
  finished_all (Ok schemas) (many, of, clear) is whole fails = (
    is ∙ of,
    clear-append (adding_causes 0 texts) (bundle_causes (bundle_of texts)) clear
        (subst (λ ds. MayGoOn (bundle_causes ds)) of whole),
  )
  finished_all (Err f) (many, of, clear) is whole fails =
      fails-later (adding_causes 0 texts) (bundle_causes (bundle_of texts)) f clear
      (subst (λ ds. FailsBy (bundle_causes ds) f) of fails)

-- ---- files that are taken one after another

-- the texts so far, of which this is kept
abbrev pub TakenSoFar : ContentsByPath → List DocumentFile → ℕ → bundle.Documents → Option Fault → Type 0
TakenSoFar contents documents at held refused = (texts : DocumentTexts) × HoldsSoFar contents documents at texts
    × AreKept texts held refused

pub taken_more : (before now : ContentsByPath) (documents : List DocumentFile) (at : ℕ) (d : DocumentFile)
    (text lent : List ℕ) (held new : bundle.Documents) (refused more : Option Fault)
    → at < length documents → now ≡ before → IsLeft (now (get_or documents at d).file.now) text
    → length text ≤ input_limit → lent ≡ text → TakenSoFar before documents at held refused
    → RestDecides before documents at
    → ((texts : DocumentTexts) → AreKept texts held refused
    → AreKept (texts ++ ((get_or documents at d).uri.now, lent) ∷ []) new more)
    → TakenSoFar before documents (at + 1) new more × RestDecides before documents (at + 1)
taken_more before now documents at d text lent held new refused more within same is few same_text so_far decides adds =
    let here = get_or documents at d in
    let (texts, holds, kept) = so_far in
    let holds_text : IsLeft (before here.file.now) text = subst (λ h. IsLeft (h here.file.now) text) same is in
    let grown = texts ++ (here.uri.now, text) ∷ [] in (
      (
        grown,
        holds_more before documents at d text texts grown within holds_text few refl holds,
        subst (λ t. AreKept (texts ++ (here.uri.now, t) ∷ []) new more) same_text (adds texts kept),
      ),
      rest_more before documents at d within decides text holds_text few,
    )
