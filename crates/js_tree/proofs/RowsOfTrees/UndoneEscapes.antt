-- A text is known from its escaped form.
use Rattle.std.proofs.Common.{◌≡◌, ℕ, Bool, true, false, List, [], ◌∷◌, ◌++◌, Option, Some, ap, sym, ◌∙◌, append-nil}
use Rattle.std.proofs.lemmas.Grind.{flat_map-append}
use Rattle.std.specs.List.{list_all}
use Rattle.json.specs.Lex.{tokens}
use Rattle.json.specs.Print.{escape, escape_byte, quoted, print_from, ArePrintable}
use Rattle.json.specs.Text.{content, plain}
use Rattle.json.specs.Token.{Token, string}
use Rattle.json.proofs.Printed.Strings.{content-escape}
use Rattle.json.proofs.Printed.Tokens.{tokens-print}
use Rattle.js_doc.specs.Escapes.{stands}
use Rattle.js_doc.proofs.QuotedRuns.{nothing_escaped}
use Rattle.js_tree.specs.Rows.RelativeState.{part}
use Rattle.js_tree.specs.code.Strings.{string_in}

same_text : (s t : List ℕ) → Some s ≡ Some t → s ≡ t
same_text s t e = cc

pub from_escaped : (s t : List ℕ) → escape s ≡ escape t → s ≡ t
from_escaped s t e =
    same_text s t (sym (content-escape s []) ∙ (ap (λ l. content plain (l ++ 34 ∷ [])) e ∙ content-escape t []))

part_stands : (slash : Bool) (bytes : List ℕ) → list_all stands bytes ≡ true → list_all stands (part slash bytes) ≡ true
part_stands true bytes h = h
part_stands false bytes h = h

-- a part that has no escapes, behind a text
pub without_escapes : (start : List ℕ) (slash : Bool) (bytes text : List ℕ) → list_all stands bytes ≡ true
    → escape start ++ part slash bytes ≡ escape text → start ++ part slash bytes ≡ text
without_escapes start slash bytes text h e =
    let rest = part slash bytes in
    from_escaped (start ++ rest) text
    (flat_map-append escape_byte start rest
    ∙ (ap (λ l. escape start ++ l) (nothing_escaped rest (part_stands slash bytes h)) ∙ e))

same_token : (token other : Token) (more rest : List Token) → token ∷ more ≡ other ∷ rest → token ≡ other
same_token token other more rest e = cc

-- a reader gives one string for a quoted text
pub one_string : (json text : List ℕ) → json ≡ quoted text → tokens json ≡ string text ∷ []
unfolding print_from ArePrintable
one_string json text e = ap tokens (e ∙ sym (append-nil (quoted text))) ∙ tokens-print (string text ∷ []) (tt, tt)

-- and it gives one
pub gives_some : (json text : List ℕ) → json ≡ quoted text → ¬ (tokens json ≡ [])
gives_some json text e is = let x : string text ∷ [] ≡ [] = sym (one_string json text e) ∙ is in absurd (cc)

pub gives_string : (json text : List ℕ) (token : Token) (more : List Token) → tokens json ≡ token ∷ more
    → json ≡ quoted text → string_in token ≡ Some text
gives_string json text token more is e =
    ap string_in (same_token token (string text) more [] (sym is ∙ one_string json text e))

pub same_read : (s text : List ℕ) (o : Option (List ℕ)) → o ≡ Some s → o ≡ Some text → s ≡ text
same_read s text o e f = same_text s text (sym e ∙ f)
