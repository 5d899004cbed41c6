-- The fault of the first file that isn't taken.
use Rattle.std.proofs.Common.{ℕ, ◌+◌, ◌<◌, ◌≤◌, inl, inr, List, [], ◌∷◌, ◌++◌, length}
use Rattle.std.proofs.Common.{get_or, drop, Option, Some, None, sym, subst}
use Rattle.std.proofs.lemmas.List.{drop_more}
use Rattle.js_output.specs.Device.{IsLeft, input_limit}
use Rattle.js_output.specs.Documents.{DocumentTexts}
use Rattle.js_output.specs.Input.{IsInputFault}
use Rattle.js_output.specs.declared.fault.Fault.{Fault}
use Rattle.js_output.specs.declared.fault.Fault.TheVariants as fault
use Rattle.js_command.specs.Answer.{AreContents}
use Rattle.js_command.specs.Files.{ContentsByPath, MayFit, IsFileFault, IsFirstFileFault}
use Rattle.js_command.specs.Words.{DocumentPairs, files_of, pairs_seen}
use Rattle.js_command.specs.declared.words.DocumentFile.{DocumentFile}

-- what was taken fits
pub may_fit : (known : Option (List ℕ)) (bytes : List ℕ) → IsLeft known bytes
    → length bytes ≤ input_limit → MayFit known
may_fit None bytes is few = tt
may_fit (Some contents) bytes is few = subst (λ b. length b ≤ input_limit) (sym is) few

input_fault_of : (known : Option (List ℕ)) (f : Fault) → IsFileFault known f → IsInputFault f
input_fault_of None f h = h
input_fault_of (Some bytes) fault.Memory h = tt
input_fault_of (Some bytes) fault.InputTooLarge h = tt
input_fault_of (Some bytes) _ h = absurd h

pub input_fault : (contents : ContentsByPath) (paths : List (List ℕ)) (f : Fault)
    → IsFirstFileFault contents paths f → IsInputFault f
input_fault contents [] f h = absurd h
input_fault contents (path ∷ paths) f (inl h) = input_fault_of (contents path) f h
input_fault contents (path ∷ paths) f (inr (fits, h)) = input_fault contents paths f h

-- more files behind it change nothing
pub fault_before : (contents : ContentsByPath) (paths more : List (List ℕ)) (f : Fault)
    → IsFirstFileFault contents paths f
    → IsFirstFileFault contents (paths ++ more) f
fault_before contents [] more f h = absurd h
fault_before contents (path ∷ paths) more f (inl h) = inl h
fault_before contents (path ∷ paths) more f (inr (fits, h)) = inr (fits, fault_before contents paths more f h)

-- the documents were taken, and this file isn't
pub fault_last : (contents : ContentsByPath) (pairs : DocumentPairs) (documents : DocumentTexts) (path : List ℕ)
    (f : Fault)
    → AreContents contents pairs documents → IsFileFault (contents path) f
    → IsFirstFileFault contents (files_of pairs ++ path ∷ []) f
fault_last contents [] [] path f holds h = inl h
fault_last contents (p ∷ ps) (d ∷ ds) path f (same, is, few, rest) h =
    inr (may_fit (contents p.1) d.1 is few, fault_last contents ps ds path f rest h)
fault_last contents [] (d ∷ ds) path f holds h = absurd holds
fault_last contents (p ∷ ps) [] path f holds h = absurd holds

-- ---- documents whose files are taken one after another

-- those before this one were taken, so the rest decides
abbrev pub RestDecides : ContentsByPath → List DocumentFile → ℕ → Type 0
RestDecides contents documents at = (f : Fault) → IsFirstFileFault contents (files_of (pairs_seen (drop at documents)))
    f
    → IsFirstFileFault contents (files_of (pairs_seen documents)) f

pub rest_none : (contents : ContentsByPath) (documents : List DocumentFile) → RestDecides contents documents 0
rest_none contents documents = λ f h. h

module _ (contents : ContentsByPath) (documents : List DocumentFile) (at : ℕ) (d : DocumentFile)
    (within : at < length documents) (decides : RestDecides contents documents at) where
  pub rest_more : (text : List ℕ) → IsLeft (contents (get_or documents at d).file.now) text → length text ≤ input_limit
      → RestDecides contents documents (at + 1)
  rest_more text is few = λ f h.
      decides f (subst (λ ds. IsFirstFileFault contents (files_of (pairs_seen ds)) f) (sym
      (drop_more documents at d within)) (inr (may_fit (contents (get_or documents at d).file.now) text is few, h)))

  pub rest_here : (f : Fault) → IsFileFault (contents (get_or documents at d).file.now) f
      → IsFirstFileFault contents (files_of (pairs_seen documents)) f
  rest_here f h = decides f
      (subst (λ ds. IsFirstFileFault contents (files_of (pairs_seen ds)) f) (sym (drop_more documents at d within))
      (inl h))
