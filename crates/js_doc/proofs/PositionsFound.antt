-- From what stands at a pointer among the tokens to the position in the text.
use Rattle.std.proofs.Common.{◌≡◌, ℕ, zero, suc, ◌-◌, ◌<◌, ◌≤◌, List, false, if◌then◌else◌, map, length, drop, get_or}
use Rattle.std.proofs.Common.{Option, Some, None, option_map, option_and_then, refl, sym, ap, ◌∙◌, subst, arith}
use Rattle.std.proofs.Common.{lt_of_not-le}
use Rattle.std.proofs.lemmas.Bool.{false≢true}
use Rattle.std.proofs.lemmas.List.{drop_all, get_or-map, get_or_default, length-map}
use Rattle.std.specs.Borrow.{Bor}
use Rattle.std.specs.Prelude.{IsSome}
use Rattle.json.specs.Find.{BeginsWith}
use Rattle.json.specs.Json.{Json, document}
use Rattle.json.specs.Lex.{tokens}
use Rattle.json.specs.Tape.{node_token}
use Rattle.json.specs.Token.{Token, begin_object, null}
use Rattle.json.specs.declared.tape.Node.{Node}
use Rattle.json.specs.declared.tape.Node.TheVariants.{Object, EndObject, Array, EndArray, Key, String}
use Rattle.json.specs.declared.tape.Node.TheVariants.{Number, Bool, Null}
use Rattle.js_doc.specs.Pointer.{Tokens}
use Rattle.json.proofs.Found.{not_empty}
use Rattle.js_doc.specs.Positions.{Placed, is_key, name_start, value_placed, spot_at, spots, token_start}
use Rattle.js_doc.specs.Positions.{value_end}

pub some_of : {A : Type 0} (o : Option A) → IsSome o → (a : A) × (o ≡ Some a)
some_of None h = absurd (false≢true h)
some_of (Some a) h = (a, refl)

pub within : (all : List Token) (n : ℕ) (j : Json) → BeginsWith (drop n all) j → n < length all
within all n j begins = lt_of_not-le (λ h. not_empty j (subst (λ ts. BeginsWith ts j) (drop_all n all h) begins))

not_a_key : (n : Node) → ((s : Bor (List ℕ)) → n ≡ Key s → ⊥) → is_key (node_token n) ≡ false
not_a_key (Object a) never = refl
not_a_key EndObject never = refl
not_a_key (Array a) never = refl
not_a_key EndArray never = refl
not_a_key (Key s) never = absurd (never s refl)
not_a_key (String s) never = refl
not_a_key (Number s) never = refl
not_a_key (Bool b) never = refl
not_a_key Null never = refl

pub no_name : (ns : List Node) (at : ℕ) (text : List ℕ) → map node_token ns ≡ tokens text → 0 < at
    → at ≤ length ns → ((s : Bor (List ℕ)) → get_or ns (at - 1) (Object 0) ≡ Key s → ⊥)
    → None ≡ name_start at text
no_name ns zero text e h l never = absurd (omega arith)
no_name ns (suc n) text e h l never =
    let z : n ≡ suc n - 1 = omega arith in
    let less : n < length (map node_token ns) = omega (arith, length-map ns node_token) in
    let same : get_or (tokens text) n null ≡ node_token (get_or ns n (Object 0)) = ap (λ ts. get_or ts n null) (sym e)
    ∙ get_or_default (map node_token ns) n null begin_object less
    ∙ get_or-map node_token ns n (Object 0) begin_object (omega arith) in
    let no : is_key (get_or (tokens text) n null) ≡ false = ap is_key same
    ∙ not_a_key (get_or ns n (Object 0)) (λ s is. never s (ap (λ k. get_or ns k (Object 0)) (sym z) ∙ is)) in
    subst (λ b. None ≡ (if b then Some (token_start n text) else None)) (sym no) refl

-- ---- with lines and columns

abbrev all_of : List ℕ → Option Placed → Option ((ℕ × (ℕ × ℕ)) × (ℕ × Option (ℕ × (ℕ × ℕ))))
all_of text o =
    option_map (λ (p : ℕ × (ℕ × Option ℕ)). (spot_at text p.0, (p.1.0, option_map (spot_at text) p.1.1)))
    (option_map (λ (p : Placed). (token_start p.0 text, (value_end p.0 p.1 text, name_start p.0 text))) o)

pub spots_there : (text : List ℕ) (pointer : Tokens) (at : ℕ) (v : Json)
    → option_and_then (value_placed pointer 0) (document text) ≡ Some (at, v) → spots text pointer
    ≡ Some (spot_at text (token_start at text), (value_end at v text, option_map (spot_at text) (name_start at text)))
spots_there text pointer at v e = ap (all_of text) e

pub spots_nowhere : (text : List ℕ) (pointer : Tokens) → option_and_then (value_placed pointer 0) (document text) ≡ None
    → spots text pointer ≡ None
spots_nowhere text pointer e = ap (all_of text) e
