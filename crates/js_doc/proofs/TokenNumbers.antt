-- The numbers of the tokens at which an array's items and an object's members begin.
use Rattle.std.proofs.Common.{◌≡◌, ℕ, ◌+◌, ◌<◌, List, [], ◌∷◌, Bool, true, false, if◌then◌else◌, decimal}
use Rattle.std.proofs.Common.{drop, length, map, Option, Some, None, refl, sym, ap, ◌∙◌, subst, arith}
use Rattle.json.specs.Find.{BeginsWith, InItems}
use Rattle.json.specs.Json.{Json, Items, no_items, item, after_end_array}
use Rattle.json.specs.Token.{Token}
use Rattle.json.specs.Tape.{node_token}
use Rattle.json.specs.Tree.{json_tokens}
use Rattle.json.specs.declared.tape.Node.{Node}
use Rattle.json.proofs.Found.{items_close, items_go_on}
use Rattle.json.proofs.Grammar.{left, skip_value-shorter}
use Rattle.js_doc.specs.Lookup.{is_text}
use Rattle.js_doc.specs.Positions.{Placed, item_placed}
use Rattle.js_doc.specs.code.Nodes.{IsPlaced}
use Rattle.js_doc.proofs.TokenLookup.{is_text-refl, is_text-sound}

abbrev chosen : List ℕ → ℕ → ℕ → Json → Items → Bool → Type 0
chosen name i n j js b = item_placed name i n (item j js)
    ≡ (if b then Some (n, j) else item_placed name (i + 1) (n + length (json_tokens j)) js)

pub this_item : (name : List ℕ) (i n : ℕ) (j : Json) (js : Items) → name ≡ decimal i
    → item_placed name i n (item j js) ≡ Some (n, j)
this_item name i n j js is =
    let e : is_text name (decimal i) ≡ true = ap (λ x. is_text x (decimal i)) is ∙ is_text-refl (decimal i) in
    subst (chosen name i n j js) e refl

passed : (name : List ℕ) (i n : ℕ) (j : Json) (js : Items) (b : Bool) → is_text name (decimal i) ≡ b
    → (name ≡ decimal i → ⊥)
    → item_placed name i n (item j js) ≡ item_placed name (i + 1) (n + length (json_tokens j)) js
passed name i n j js true e never = absurd (never (is_text-sound name (decimal i) e))
passed name i n j js false e never = subst (chosen name i n j js) e refl

pub later_item : (name : List ℕ) (i n : ℕ) (j : Json) (js : Items) → (name ≡ decimal i → ⊥)
    → item_placed name i n (item j js) ≡ item_placed name (i + 1) (n + length (json_tokens j)) js
later_item name i n j js never = passed name i n j js (is_text name (decimal i)) refl never

abbrev IsItem : Items → Type 0
IsItem no_items = ⊥
IsItem (item j js) = Unit {0}

unclosed : (ts : List Token) (j : Json) (js : Items) → InItems ts (item j js) → after_end_array ts ≡ None
unclosed [] j js h = refl
unclosed (Token.begin_object ∷ ts) j js h = refl
unclosed (Token.end_object ∷ ts) j js h = refl
unclosed (Token.begin_array ∷ ts) j js h = refl
unclosed (Token.end_array ∷ ts) j js h = absurd (subst IsItem (items_close ts (item j js) h) tt)
unclosed (Token.key s ∷ ts) j js h = refl
unclosed (Token.string s ∷ ts) j js h = refl
unclosed (Token.number s ∷ ts) j js h = refl
unclosed (Token.boolean b ∷ ts) j js h = refl
unclosed (Token.null ∷ ts) j js h = refl
unclosed (Token.bad ∷ ts) j js h = refl

abbrev others : Items → Items
others no_items = no_items
others (item j js) = js

pub none_named : (name : List ℕ) (js : Items) (ts : List Token) (i n : ℕ) → InItems ts js
    → ((k : ℕ) → k < i + length ts → name ≡ decimal k → ⊥) → item_placed name i n js ≡ None
none_named name no_items ts i n h never = refl
none_named name (item j js) ts i n h never =
    let f = items_go_on ts (item j js) (unclosed ts j js h) h in
    let same : js ≡ f.3 = ap others f.5 in
    let less : length f.2 < length ts = skip_value-shorter f.0 ts f.2 (ap left f.4) in
    later_item name i n j js (never i (omega (arith, less)))
    ∙ none_named name js f.2 (i + 1) (n + length (json_tokens j)) (subst (InItems f.2) (sym same) f.6)
    (λ k l is. never k (omega (arith, less, l)) is)

-- ---- what was found before, and what is found now

pub newer : (ns : List Node) (found : Option ℕ) (was : Option Placed) (n : ℕ) (j : Json) (b : Bool) → b ≡ true
    → found ≡ Some n → BeginsWith (drop n (map node_token ns)) j
    → IsPlaced ns found (if b then Some (n, j) else was)
newer ns found was n j b e is h =
    subst (λ x. IsPlaced ns found (if x then Some (n, j) else was)) (sym e)
    (subst (λ x. IsPlaced ns x (Some (n, j))) (sym is) (j, refl, h))

pub older : (ns : List Node) (found old : Option ℕ) (was : Option Placed) (n : ℕ) (j : Json) (b : Bool) → b ≡ false
    → found ≡ old → IsPlaced ns old was → IsPlaced ns found (if b then Some (n, j) else was)
older ns found old was n j b e is h =
    subst (λ x. IsPlaced ns found (if x then Some (n, j) else was)) (sym e) (subst (λ x. IsPlaced ns x was) (sym is) h)
