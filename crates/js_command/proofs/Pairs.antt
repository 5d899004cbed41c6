-- Words two by two.
use Rattle.std.proofs.Common.{◌≡◌, ℕ, ◌+◌, ◌<◌, ◌≤◌, List, [], ◌∷◌, ◌++◌, length, get_or, drop, Option, Some, None}
use Rattle.std.proofs.Common.{unwrap_or, refl, sym, ap, ap₂, ◌∙◌, arith, codes, append_assoc, Bor}
use Rattle.std.proofs.lemmas.List.{append-nil, drop_all, drop_more}
use Rattle.clap.specs.Words.{Row, Text, all_of}
use Rattle.js_command.specs.Words.{DocumentPairs, pairs_after, pairs_in, words_of}
use Rattle.js_command.specs.Found.{pairs_of}

pub pairs_found : (rows : List Row) (words : List Text) → all_of (codes "PAIRS") rows ≡ Some words
    → pairs_of rows ≡ pairs_in words
pairs_found rows words e = ap (λ o. pairs_in (unwrap_or o [])) e

pub pairs_none : (rows : List Row) → all_of (codes "PAIRS") rows ≡ None → pairs_of rows ≡ Some []
pairs_none rows e = ap (λ o. pairs_in (unwrap_or o [])) e

-- those that were read, and then what the rest gives
abbrev pub onto : DocumentPairs → Option DocumentPairs → Option DocumentPairs
onto ps None = None
onto ps (Some more) = Some (ps ++ more)

onto_after : (ps : DocumentPairs) (p : Text × Text) (o : Option DocumentPairs)
    → onto ps (pairs_after p o) ≡ onto (ps ++ p ∷ []) o
onto_after ps p None = refl
onto_after ps p (Some more) = ap Some (sym (append_assoc ps (p ∷ []) more))

pub onto_none : (o : Option DocumentPairs) → o ≡ onto [] o
onto_none None = refl
onto_none (Some ps) = refl

abbrev pub Lent : Type 0
Lent = List (Bor Text)

-- ---- words that are two by two, so far as they were read

pub read_none : (words : Lent) → pairs_in (words_of words) ≡ onto [] (pairs_in (words_of (drop 0 words)))
read_none words = onto_none (pairs_in (words_of words))

pub read_more : (words : Lent) (at : ℕ) (d uri file : Bor Text) (seen more : DocumentPairs) → at + 1 < length words
    → uri ≡ get_or words at d → file ≡ get_or words (at + 1) d
    → more ≡ seen ++ (uri.now, file.now) ∷ []
    → pairs_in (words_of words) ≡ onto seen (pairs_in (words_of (drop at words)))
    → pairs_in (words_of words) ≡ onto more (pairs_in (words_of (drop (at + 2) words)))
read_more words at d uri file seen more within u f grows e =
    let left = words_of (drop (at + 2) words) in
    let first : drop at words ≡ uri ∷ drop (at + 1) words = drop_more words at d (omega (arith, within))
    ∙ ap (λ w. w ∷ drop (at + 1) words) (sym u) in
    let after : at + 1 + 1 ≡ at + 2 = omega arith in
    let second : drop (at + 1) words ≡ file ∷ drop (at + 2) words = drop_more words (at + 1) d within
    ∙ ap₂ (λ w ws. w ∷ ws) (sym f) (ap (λ n. drop n words) after) in
    let is : drop at words ≡ uri ∷ file ∷ drop (at + 2) words = first ∙ ap (λ ws. uri ∷ ws) second in
    e ∙ ap (λ ws. onto seen (pairs_in (words_of ws))) is ∙ onto_after seen (uri.now, file.now) (pairs_in left)
    ∙ ap (λ ps. onto ps (pairs_in left)) (sym grows)

pub read_all : (words : Lent) (at : ℕ) (seen : DocumentPairs) → length words ≤ at
    → pairs_in (words_of words) ≡ onto seen (pairs_in (words_of (drop at words)))
    → pairs_in (words_of words) ≡ Some seen
read_all words at seen end e = e ∙ ap (λ ws. onto seen (pairs_in (words_of ws))) (drop_all at words end)
    ∙ ap Some (append-nil seen)

-- one word is left over
pub read_odd : (words : Lent) (at : ℕ) (d : Bor Text) (seen : DocumentPairs) → at < length words → length words ≤ at + 1
    → pairs_in (words_of words) ≡ onto seen (pairs_in (words_of (drop at words)))
    → pairs_in (words_of words) ≡ None
read_odd words at d seen within end e =
    e ∙ ap (λ ws. onto seen (pairs_in (words_of ws)))
    (drop_more words at d within ∙ ap (λ ws. get_or words at d ∷ ws) (drop_all (at + 1) words end))
