-- The tokens of a text that is JSON are those of its value.
use Rattle.std.proofs.Common.{◌≡◌, ℕ, zero, suc, List, [], ◌∷◌, ◌++◌, length, map, Option, Some, None, option_and_then}
use Rattle.std.proofs.Common.{refl, sym, ap, ◌∙◌, subst, append_assoc, append-nil}
use Rattle.std.specs.Prelude.{⊤, IsSome}
use Rattle.json.specs.Json.{Json, array, object, Items, item, Members}
use Rattle.json.specs.Json.{member, Parse, parse_map, after_end_array, read_key, items_step, members_step, items}
use Rattle.json.specs.Json.{members}
use Rattle.json.specs.Json.{value_with, value, if_last, max_depth, document}
use Rattle.json.specs.Lex.{tokens}
use Rattle.json.specs.Print.{ArePrintable, IsPrintable}
use Rattle.json.specs.Token.{Token}
use Rattle.json.specs.Tree.{json_tokens, items_tokens, members_tokens}
use Rattle.json.proofs.Grammar.{closed_array, read_key_is}
use Rattle.json.proofs.Numbered.{document-HasNumbers}
use Rattle.json.proofs.Printed.Trees.{ArePrintable-json_tokens}
use Rattle.js_numbers.specs.Instance.{exact_token}

-- what was read from the tokens has the first of them, and the others are left
abbrev Reads : {A : Type 0} → (A → List Token) → List Token → Option (A × List Token) → Type 0
Reads written ts None = ⊤
Reads written ts (Some p) = ts ≡ written p.0 ++ p.1

abbrev ReadsAll : {A : Type 0} → (A → List Token) → Parse A → Type 0
ReadsAll written parse = (ts : List Token) → Reads written ts (parse ts)

-- ---- arrays

item_then : (ts s : List Token) (j : Json) → ts ≡ json_tokens j ++ s → (more : Option (Items × List Token))
    → Reads items_tokens s more → Reads items_tokens ts (parse_map (item j) more)
item_then ts s j e None h = tt
item_then ts s j e (Some (js, r)) h =
    e ∙ ap (λ l. json_tokens j ++ l) h ∙ sym (append_assoc (json_tokens j) (items_tokens js) r)

item_and_more : (more : Parse Items) → ReadsAll items_tokens more → (ts : List Token)
    → (first : Option (Json × List Token)) → Reads json_tokens ts first
    → Reads items_tokens ts (option_and_then (λ p. parse_map (item p.0) (more p.1)) first)
item_and_more more again ts None h = tt
item_and_more more again ts (Some (j, s)) h = item_then ts s j h (more s) (again s)

item_turn : (p : Parse Json) → ReadsAll json_tokens p → (more : Parse Items) → ReadsAll items_tokens more
    → (ts : List Token) → (end : Option (List Token)) → after_end_array ts ≡ end
    → Reads items_tokens ts (items_step p more ts end)
item_turn p reads more again ts (Some r) e = closed_array ts r e
item_turn p reads more again ts None e = item_and_more more again ts (p ts) (reads ts)

items_read : (p : Parse Json) → ReadsAll json_tokens p → (n : ℕ) → ReadsAll items_tokens (items p n)
unfolding items
items_read p reads zero ts = tt
items_read p reads (suc n) ts = item_turn p reads (items p n) (items_read p reads n) ts (after_end_array ts) refl

-- ---- objects

member_then : (ts s : List Token) (k : List ℕ) (j : Json) → ts ≡ Token.key k ∷ (json_tokens j ++ s)
    → (more : Option (Members × List Token)) → Reads members_tokens s more
    → Reads members_tokens ts (parse_map (member k j) more)
member_then ts s k j e None h = tt
member_then ts s k j e (Some (ms, r)) h =
    e ∙ ap (λ l. Token.key k ∷ (json_tokens j ++ l)) h
    ∙ ap (λ l. Token.key k ∷ l) (sym (append_assoc (json_tokens j) (members_tokens ms) r))

member_and_more : (more : Parse Members) → ReadsAll members_tokens more → (ts s : List Token) (k : List ℕ)
    → ts ≡ Token.key k ∷ s → (first : Option (Json × List Token)) → Reads json_tokens s first
    → Reads members_tokens ts (option_and_then (λ p. parse_map (member k p.0) (more p.1)) first)
member_and_more more again ts s k e None h = tt
member_and_more more again ts s k e (Some (j, r)) h =
    member_then ts r k j (e ∙ ap (λ l. Token.key k ∷ l) h) (more r) (again r)

member_turn : (p : Parse Json) → ReadsAll json_tokens p → (more : Parse Members) → ReadsAll members_tokens more
    → (ts : List Token) (name : Option (Option (List ℕ) × List Token)) → read_key ts ≡ name
    → Reads members_tokens ts (option_and_then (λ q. members_step p more q.0 q.1) name)
member_turn p reads more again ts None e = tt
member_turn p reads more again ts (Some (None, s)) e = read_key_is ts None s e
member_turn p reads more again ts (Some (Some k, s)) e =
    member_and_more more again ts s k (read_key_is ts (Some k) s e) (p s) (reads s)

members_read : (p : Parse Json) → ReadsAll json_tokens p → (n : ℕ) → ReadsAll members_tokens (members p n)
unfolding members
members_read p reads zero ts = tt
members_read p reads (suc n) ts = member_turn p reads (members p n) (members_read p reads n) ts (read_key ts) refl

-- ---- values

array_reads : (ts : List Token) (o : Option (Items × List Token)) → Reads items_tokens ts o
    → Reads json_tokens (Token.begin_array ∷ ts) (parse_map array o)
array_reads ts None h = tt
array_reads ts (Some (js, r)) h = ap (λ l. Token.begin_array ∷ l) h

object_reads : (ts : List Token) (o : Option (Members × List Token)) → Reads members_tokens ts o
    → Reads json_tokens (Token.begin_object ∷ ts) (parse_map object o)
object_reads ts None h = tt
object_reads ts (Some (ms, r)) h = ap (λ l. Token.begin_object ∷ l) h

value_with_reads : (a : Parse Items) (o : Parse Members) → ReadsAll items_tokens a → ReadsAll members_tokens o
    → ReadsAll json_tokens (value_with a o)
value_with_reads a o p q [] = tt
value_with_reads a o p q (Token.begin_object ∷ ts) = object_reads ts (o ts) (q ts)
value_with_reads a o p q (Token.end_object ∷ ts) = tt
value_with_reads a o p q (Token.begin_array ∷ ts) = array_reads ts (a ts) (p ts)
value_with_reads a o p q (Token.end_array ∷ ts) = tt
value_with_reads a o p q (Token.key s ∷ ts) = tt
value_with_reads a o p q (Token.string s ∷ ts) = refl
value_with_reads a o p q (Token.number s ∷ ts) = refl
value_with_reads a o p q (Token.boolean b ∷ ts) = refl
value_with_reads a o p q (Token.null ∷ ts) = refl
value_with_reads a o p q (Token.bad ∷ ts) = tt

value_reads : (depth : ℕ) → ReadsAll json_tokens (value depth)
unfolding value
value_reads zero = value_with_reads (λ ts. None) (λ ts. None) (λ ts. tt) (λ ts. tt)
value_reads (suc depth) =
    value_with_reads (λ ts. items (value depth) (length ts) ts) (λ ts. members (value depth) (length ts) ts)
    (λ ts. items_read (value depth) (value_reads depth) (length ts) ts)
    (λ ts. members_read (value depth) (value_reads depth) (length ts) ts)

last_reads : (ts : List Token) (o : Option (Json × List Token)) (j : Json) → Reads json_tokens ts o
    → option_and_then (λ p. if_last p.0 p.1) o ≡ Some j → ts ≡ json_tokens j
last_reads ts None j h e = absurd cc
last_reads ts (Some (v, [])) j h e = let same : v ≡ j = cc in h ∙ append-nil (json_tokens v) ∙ ap json_tokens same
last_reads ts (Some (v, t ∷ rest)) j h e = absurd cc

pub document_tokens : (text : List ℕ) (j : Json) → document text ≡ Some j → tokens text ≡ json_tokens j
document_tokens text j e =
    let ts = tokens text in last_reads ts (value max_depth ts) j (value_reads max_depth ts) e

pub document_printable : (text : List ℕ) (j : Json) → document text ≡ Some j → ArePrintable (tokens text)
document_printable text j e =
    subst ArePrintable (sym (document_tokens text j e)) (ArePrintable-json_tokens j (document-HasNumbers text j e))

is_some : (text : List ℕ) (o : Option Json) → document text ≡ o → IsSome o → ArePrintable (tokens text)
is_some text None e h = absurd cc
is_some text (Some j) e h = document_printable text j e

pub json_printable : (text : List ℕ) → IsSome (document text) → ArePrintable (tokens text)
json_printable text h = is_some text (document text) refl h

-- ---- one token after another

pub printable_more : (all rest : List Token) (t : Token) → all ≡ t ∷ rest → ArePrintable all
    → IsPrintable t × ArePrintable rest
unfolding ArePrintable
printable_more all rest t e h = subst ArePrintable e h

pub exact_more : (old new all rest : List Token) (t : Token) → new ≡ old ++ exact_token t ∷ [] → all ≡ t ∷ rest
    → new ++ map exact_token rest ≡ old ++ map exact_token all
exact_more old new all rest t e f =
    ap (λ l. l ++ map exact_token rest) e ∙ append_assoc old (exact_token t ∷ []) (map exact_token rest)
    ∙ ap (λ l. old ++ map exact_token l) (sym f)
