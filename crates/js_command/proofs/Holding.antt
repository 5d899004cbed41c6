-- Documents and the files that hold them, one after another.
use Rattle.std.proofs.Common.{◌≡◌, ℕ, ◌+◌, ◌<◌, ◌≤◌, List, [], ◌∷◌, ◌++◌, length, get_or, drop}
use Rattle.std.proofs.Common.{refl, sym, ap, ◌∙◌, subst, append_assoc}
use Rattle.std.proofs.lemmas.List.{append-nil, drop_all, drop_more}
use Rattle.js_output.specs.Device.{IsLeft, input_limit}
use Rattle.js_output.specs.Documents.{DocumentTexts}
use Rattle.js_command.specs.Answer.{AreContents}
use Rattle.js_command.specs.Files.{ContentsByPath}
use Rattle.js_command.specs.Words.{pairs_seen}
use Rattle.js_command.specs.declared.words.DocumentFile.{DocumentFile}

-- whatever documents the rest holds, these stand before them
abbrev pub HoldsSoFar : ContentsByPath → List DocumentFile → ℕ → DocumentTexts → Type 0
HoldsSoFar contents documents at taken = (rest : DocumentTexts)
    → AreContents contents (pairs_seen (drop at documents)) rest
    → AreContents contents (pairs_seen documents) (taken ++ rest)

pub holds_none : (contents : ContentsByPath) (documents : List DocumentFile) → HoldsSoFar contents documents 0 []
holds_none contents documents = λ rest h. h

pub holds_more : (contents : ContentsByPath) (documents : List DocumentFile) (at : ℕ) (d : DocumentFile) (text : List ℕ)
    (taken more : DocumentTexts) → at < length documents
    → IsLeft (contents (get_or documents at d).file.now) text → length text ≤ input_limit
    → more ≡ taken ++ ((get_or documents at d).uri.now, text) ∷ []
    → HoldsSoFar contents documents at taken → HoldsSoFar contents documents (at + 1) more
holds_more contents documents at d text taken more within is few grows h = λ rest left.
    let here = get_or documents at d in
    let next : AreContents contents (pairs_seen (drop at documents)) ((here.uri.now, text) ∷ rest) =
    subst (λ ds. AreContents contents (pairs_seen ds) ((here.uri.now, text) ∷ rest))
    (sym (drop_more documents at d within))
    (refl, is, few, left) in
    subst (λ ds. AreContents contents (pairs_seen documents) ds) (sym (ap (λ l. l ++ rest) grows
    ∙ append_assoc taken ((here.uri.now, text) ∷ []) rest)) (h ((here.uri.now, text) ∷ rest) next)

pub holds_all : (contents : ContentsByPath) (documents : List DocumentFile) (at : ℕ) (taken : DocumentTexts)
    → length documents ≤ at → HoldsSoFar contents documents at taken
    → AreContents contents (pairs_seen documents) taken
holds_all contents documents at taken end h =
    subst (λ ds. AreContents contents (pairs_seen documents) ds) (append-nil taken)
    (h [] (subst (λ ds. AreContents contents (pairs_seen ds) []) (sym (drop_all at documents end)) tt))
