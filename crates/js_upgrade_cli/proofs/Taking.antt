-- Documents whose files are taken one after another.
use Rattle.std.proofs.Common.{◌≡◌, ℕ, ◌+◌, ◌<◌, ◌≤◌, inl, inr, List, [], ◌∷◌, ◌++◌, length, get_or, drop, Option}
use Rattle.std.proofs.Common.{Some, refl, sym, ap, ◌∙◌, subst}
use Rattle.std.proofs.lemmas.List.{drop_more}
use Rattle.js_output.specs.Device.{IsLeft, input_limit}
use Rattle.js_output.specs.declared.fault.Fault.{Fault}
use Rattle.js_output.specs.declared.fault.Fault.TheVariants as fault
use Rattle.js_command.specs.Files.{ContentsByPath, IsFileFault}
use Rattle.js_command.specs.Words.{files_of, pairs_seen}
use Rattle.js_upgrade_cli.specs.Outcome.{IsUntaken}
use Rattle.js_upgrade_cli.specs.code.Seen.{taken_seen, texts_seen}
use Rattle.js_upgrade_cli.specs.declared.documents.DocumentText.{DocumentText}
use Rattle.js_command.specs.declared.words.DocumentFile.{DocumentFile}
use Rattle.js_command.proofs.FileFaults.{may_fit}
use Rattle.js_command.proofs.Holding.{HoldsSoFar, holds_more as holds_one_more}

-- those before this one were taken, so the rest decides
abbrev pub RestUntaken : ContentsByPath → List DocumentFile → ℕ → Type 0
RestUntaken contents documents at = (document : Option ℕ) (f : Fault)
    → IsUntaken contents at (files_of (pairs_seen (drop at documents))) document f
    → IsUntaken contents 0 (files_of (pairs_seen documents)) document f

pub untaken_none : (contents : ContentsByPath) (documents : List DocumentFile) → RestUntaken contents documents 0
untaken_none contents documents = λ document f h. h

texts_push : (ts : List DocumentText) (t : DocumentText)
    → texts_seen (ts ++ t ∷ []) ≡ texts_seen ts ++ taken_seen t ∷ []
texts_push [] t = refl
texts_push (x ∷ xs) t = ap (λ ds. taken_seen x ∷ ds) (texts_push xs t)

module _ (contents : ContentsByPath) (documents : List DocumentFile) (at : ℕ) (d : DocumentFile)
    (within : at < length documents) (is : d ≡ get_or documents at d) where
  this : drop at documents ≡ d ∷ drop (at + 1) documents
  this = drop_more documents at d within ∙ ap (λ x. x ∷ drop (at + 1) documents) (sym is)

  pub holds_more : (taken more : List DocumentText) (t : DocumentText) → t.uri.now ≡ d.uri.now
      → IsLeft (contents d.file.now) t.text.items → length t.text.items ≤ input_limit → more ≡ taken ++ t ∷ []
      → HoldsSoFar contents documents at (texts_seen taken) → HoldsSoFar contents documents (at + 1) (texts_seen more)
  holds_more taken more t named left few grows h =
      holds_one_more contents documents at d t.text.items (texts_seen taken) (texts_seen more) within
      (subst (λ x. IsLeft (contents x.file.now) t.text.items) is left) few
      (ap texts_seen grows ∙ texts_push taken t
      ∙ ap (λ u. texts_seen taken ++ (u, t.text.items) ∷ []) (named ∙ ap (λ x. x.uri.now) is)) h

  untaken_step : (document : Option ℕ) (f : Fault) (bytes : List ℕ)
      → IsLeft (contents d.file.now) bytes → length bytes ≤ input_limit
      → IsUntaken contents (at + 1) (files_of (pairs_seen (drop (at + 1) documents))) document f
      → IsUntaken contents at (d.file.now ∷ files_of (pairs_seen (drop (at + 1) documents))) document f
  untaken_step document fault.Memory bytes left few h = tt
  untaken_step document _ bytes left few h = inr (may_fit (contents d.file.now) bytes left few, h)

  pub untaken_more : (bytes : List ℕ) → IsLeft (contents d.file.now) bytes → length bytes ≤ input_limit
      → RestUntaken contents documents at → RestUntaken contents documents (at + 1)
  untaken_more bytes left few h = λ document f those.
      h document f (subst (λ ds. IsUntaken contents at (files_of (pairs_seen ds)) document f) (sym this)
      (untaken_step document f bytes left few those))

  untaken_first : (f : Fault) → IsFileFault (contents d.file.now) f
      → IsUntaken contents at (d.file.now ∷ files_of (pairs_seen (drop (at + 1) documents))) (Some at) f
  untaken_first fault.Memory h = tt
  untaken_first _ h = inl (refl, h)

  pub untaken_here : (f : Fault) → IsFileFault (contents d.file.now) f → RestUntaken contents documents at
      → IsUntaken contents 0 (files_of (pairs_seen documents)) (Some at) f
  untaken_here f here h =
      h (Some at) f (subst (λ ds. IsUntaken contents at (files_of (pairs_seen ds)) (Some at) f) (sym this)
      (untaken_first f here))

-- memory may run out at any file
pub untaken_memory : (contents : ContentsByPath) (number : ℕ) (paths : List (List ℕ)) (document : Option ℕ)
    → IsUntaken contents number paths document fault.Memory
untaken_memory contents number [] document = tt
untaken_memory contents number (path ∷ paths) document = tt
