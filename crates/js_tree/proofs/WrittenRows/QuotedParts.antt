-- Texts that are quoted in parts: the marks go out with what stands beside them.
use Rattle.std.proofs.Common.{◌≡◌, Bool, List, [], ◌∷◌, ◌++◌, ℕ, codes, drop, ap, sym, ◌∙◌, append_assoc}
use Rattle.json.specs.Print.{escape}
use Rattle.js_doc.specs.Compact.{comma_if, quoted}
use Rattle.js_tree.specs.Note.{Note, error}
use Rattle.js_tree.specs.NodeText.{annotation_part, beginning_text, end_text, error_part, valid_text}
use Rattle.js_tree.proofs.QuotedParts.{quoted_then}
use Rattle.js_tree.specs.Rows.Locations.{instance_start, keyword_start}
use Rattle.js_tree.specs.code.RelativeText.{opening_text}

abbrev closing_text : List ℕ → List ℕ → Bool → List ℕ
closing_text instance keyword valid = escape instance
    ++ (codes "\",\"keywordLocation\":\"" ++ (escape keyword ++ 34 ∷ valid_text valid))

end_in_parts : (instance keyword : List ℕ) (valid : Bool)
    → codes ",\"instanceLocation\":\"" ++ closing_text instance keyword valid ≡ end_text instance keyword valid
end_in_parts instance keyword valid =
    ap (λ l. codes ",\"instanceLocation\":" ++ l)
    (quoted_then instance (codes ",\"keywordLocation\":" ++ (34 ∷ (escape keyword ++ 34 ∷ valid_text valid)))
    ∙ ap (λ l. quoted instance ++ (codes ",\"keywordLocation\":" ++ l)) (quoted_then keyword (valid_text valid)))

pub opening_in_parts : (later : Bool) (schema token absolute : List ℕ) → escape schema ++ token ≡ escape absolute
    → (comma_if later ++ codes "{\"absoluteKeywordLocation\":\"") ++ (escape schema ++ token)
    ≡ opening_text later absolute
opening_in_parts later schema token absolute e =
    append_assoc (comma_if later) (codes "{\"absoluteKeywordLocation\":\"") (escape schema ++ token)
    ∙ ap (λ l. comma_if later ++ (codes "{\"absoluteKeywordLocation\":\"" ++ l)) e

opened_then : (later : Bool) (absolute rest : List ℕ) → opening_text later absolute ++ 34 ∷ rest
    ≡ comma_if later ++ (codes "{\"absoluteKeywordLocation\":" ++ (quoted absolute ++ rest))
opened_then later absolute rest =
    append_assoc (comma_if later) (codes "{\"absoluteKeywordLocation\":\"" ++ escape absolute) (34 ∷ rest)
    ∙ ap (λ l. comma_if later ++ l) (ap (λ l. codes "{\"absoluteKeywordLocation\":" ++ l) (quoted_then absolute rest))

pub beginning_in_parts : (later : Bool) (absolute : List ℕ) (note : Note)
    → opening_text later absolute ++ 34 ∷ annotation_part note ≡ comma_if later ++ beginning_text absolute note
beginning_in_parts later absolute note = opened_then later absolute (annotation_part note)

-- ---- the end of a node, with what stands before its instance location

abbrev after_instance : List ℕ → Bool → List ℕ
after_instance keyword valid = keyword_start ++ (escape keyword ++ 34 ∷ valid_text valid)

pub from_mark : (found instance keyword : List ℕ) (valid : Bool) → found ≡ instance_start ++ escape instance
    → found ++ (keyword_start ++ (escape keyword ++ 34 ∷ valid_text valid)) ≡ 34 ∷ end_text instance keyword valid
from_mark found instance keyword valid e =
    let rest = after_instance keyword valid in
    ap (λ l. l ++ rest) e ∙ (append_assoc instance_start (escape instance) rest
    ∙ ap (λ l. 34 ∷ l) (end_in_parts instance keyword valid))

pub behind_mark : (found instance keyword : List ℕ) (valid : Bool) → found ≡ instance_start ++ escape instance
    → drop 1 found ++ (keyword_start ++ (escape keyword ++ 34 ∷ valid_text valid)) ≡ end_text instance keyword valid
behind_mark found instance keyword valid e =
    let rest = after_instance keyword valid in
    ap (λ l. drop 1 l ++ rest) e
    ∙ (append_assoc (codes ",\"instanceLocation\":\"") (escape instance) rest ∙ end_in_parts instance keyword valid)

-- ---- a node without children, from the closing mark of its absolute location on

pub rest_of_error : (note : Note) (reason end : List ℕ) → note ≡ error reason
    → codes "\",\"error\":\"" ++ (escape reason ++ 34 ∷ end) ≡ 34 ∷ (annotation_part note ++ (error_part note ++ end))
rest_of_error note reason end e =
    ap (λ l. codes "\",\"error\":" ++ l) (quoted_then reason end)
    ∙ ap (λ n. 34 ∷ (annotation_part n ++ (error_part n ++ end))) (sym e)

pub rest_of_other : (note : Note) (end : List ℕ) → error_part note ≡ []
    → (34 ∷ annotation_part note) ++ end ≡ 34 ∷ (annotation_part note ++ (error_part note ++ end))
rest_of_other note end e = ap (λ l. 34 ∷ (annotation_part note ++ (l ++ end))) (sym e)
