-- From the offset at which a token begins, the text has this token and those behind it.
use Rattle.std.proofs.Common.{◌≡◌, ℕ, zero, suc, ◌-◌, List, [], ◌∷◌, Bool, true, false, not, ◌&&◌, ◌||◌, ◌==◌}
use Rattle.std.proofs.Common.{cond, if◌then◌else◌, map, drop, ◌⊎◌, inl, inr, refl, sym, ap, ◌∙◌, subst, arith}
use Rattle.std.proofs.lemmas.Bool.{false≢true, eqb-true, or_cases}
use Rattle.std.specs.Prelude.{⊤}
use Rattle.json.specs.Align.{is_good}
use Rattle.json.specs.Find.{BeginsWith}
use Rattle.json.specs.Json.{Json}
use Rattle.json.specs.Lex.{Lexeme, token, comma, colon, Class, quote, backslash, operator, space, other, class}
use Rattle.json.specs.Lex.{Mode, between, in_word, in_string, in_escape, lex_byte, lex, tokens}
use Rattle.json.specs.Lex.{Place, fresh, after_value, after_comma, after_key, begins_colon, may_begin, may_close}
use Rattle.json.specs.Lex.{if_allowed, place_token, punctuate}
use Rattle.json.specs.Tape.{node_token}
use Rattle.json.specs.Token as spec
use Rattle.json.specs.Token.{Token}
use Rattle.json.specs.Word.{is_operator, is_space}
use Rattle.json.specs.declared.tape.Node.{Node}
use Rattle.json.specs.declared.tape.Node.TheVariants.{Object, EndObject, Array, EndArray, Key, String}
use Rattle.json.specs.declared.tape.Node.TheVariants.{Number, Bool as Truth, Null}
use Rattle.json.proofs.Found.{not_empty}
use Rattle.js_doc.specs.Positions.{begins, bytes_before, mode_past, token_start}

-- ---- bytes and lexemes

-- the lexemes from the token with n tokens before it on
abbrev from_token : ℕ → List Lexeme → List Lexeme
from_token n [] = []
from_token n (comma ∷ ls) = from_token n ls
from_token n (colon ∷ ls) = from_token n ls
from_token zero (token t ∷ ls) = token t ∷ ls
from_token (suc n) (token t ∷ ls) = from_token n ls

not_zero : (n : ℕ) (b : Bool) → (suc n == 0) ≡ b → b ≡ false
not_zero n true e = let z = eqb-true (suc n) 0 e in absurd (omega (arith, z))
not_zero n false e = refl

one : (t : Token) (ls : List Lexeme) (n : ℕ)
    → from_token n (token t ∷ ls) ≡ (if n == 0 then token t ∷ ls else from_token (n - 1) ls)
one t ls zero = refl
one t ls (suc n) =
    let less : n ≡ suc n - 1 = omega arith in
    let never : (suc n == 0) ≡ false = not_zero n (suc n == 0) refl in
    subst (λ b. from_token n ls ≡ (if b then token t ∷ ls else from_token (suc n - 1) ls)) (sym never)
    (ap (λ i. from_token i ls) less)

-- what a byte gives, by the tests of it
abbrev class_by : Bool → Bool → Bool → Bool → Class
class_by q b o s = cond q quote (cond b backslash (cond o operator (cond s space other)))

abbrev begins_by : Mode → Bool → Bool → Bool → Bool → Bool
begins_by between o s cm cl = not s && not cm && not cl
begins_by in_word o s cm cl = o && not cm && not cl
begins_by in_string o s cm cl = false
begins_by in_escape o s cm cl = false

abbrev past_by : Mode → Bool → Bool → Bool → Bool → Mode
past_by between q b o s = if q then in_string else (if o || s then between else in_word)
past_by in_word q b o s = if o || s then between else in_word
past_by in_string q b o s = if q then between else (if b then in_escape else in_string)
past_by in_escape q b o s = in_string

abbrev TurnOf : Mode → ℕ → Class → Bool → Mode → Type 0
TurnOf m x c here past = (xs : List ℕ) (k : Mode → List Lexeme) (n : ℕ) → from_token n (lex_byte m c x xs k)
    ≡ (if here && (n == 0) then lex_byte between c x xs k else from_token (if here then n - 1 else n) (k past))

abbrev Turn : Mode → ℕ → Type 0
Turn m x = TurnOf m x (class x) (begins m x) (mode_past m x)

abbrev TurnBy : Mode → ℕ → Bool → Bool → Bool → Bool → Bool → Bool → Type 0
TurnBy m x q b o s cm cl = TurnOf m x (class_by q b o s) (begins_by m o s cm cl) (past_by m q b o s)

abbrev Tests : Mode → ℕ → Type 0
Tests m x = TurnBy m x (x == 34) (x == 92) (is_operator x) (is_space x) (x == 44) (x == 58)

by_tests : (m : Mode) (x : ℕ) → Tests m x → Turn m x
by_tests between x h = h
by_tests in_word x h = h
by_tests in_string x h = h
by_tests in_escape x h = h

tested : (m : Mode) (x : ℕ) (q b o s cm cl : Bool) → (x == 34) ≡ q → (x == 92) ≡ b → is_operator x ≡ o
    → is_space x ≡ s → (x == 44) ≡ cm → (x == 58) ≡ cl → TurnBy m x q b o s cm cl → Turn m x
tested m x q b o s cm cl eq eb eo es em el h = by_tests m x
    (subst (λ z. TurnBy m x z (x == 92) (is_operator x) (is_space x) (x == 44) (x == 58)) (sym eq)
    (subst (λ z. TurnBy m x q z (is_operator x) (is_space x) (x == 44) (x == 58)) (sym eb)
    (subst (λ z. TurnBy m x q b z (is_space x) (x == 44) (x == 58)) (sym eo)
    (subst (λ z. TurnBy m x q b o z (x == 44) (x == 58)) (sym es)
    (subst (λ z. TurnBy m x q b o s z (x == 58)) (sym em)
    (subst (λ z. TurnBy m x q b o s cm z) (sym el) h))))))

at_space : (m : Mode) (x : ℕ) (cm cl : Bool) → TurnBy m x false false false true cm cl
at_space between x cm cl = λ xs k n. refl
at_space in_word x cm cl = λ xs k n. refl
at_space in_string x cm cl = λ xs k n. refl
at_space in_escape x cm cl = λ xs k n. refl

at_other : (m : Mode) (x : ℕ) → TurnBy m x false false false false false false
at_other between x = λ xs k n. one _ (k in_word) n
at_other in_word x = λ xs k n. refl
at_other in_string x = λ xs k n. refl
at_other in_escape x = λ xs k n. refl

at_quote : (m : Mode) → Turn m 34
at_quote between = λ xs k n. one _ (k in_string) n
at_quote in_word = λ xs k n. refl
at_quote in_string = λ xs k n. refl
at_quote in_escape = λ xs k n. refl

at_backslash : (m : Mode) → Turn m 92
at_backslash between = λ xs k n. one _ (k in_word) n
at_backslash in_word = λ xs k n. refl
at_backslash in_string = λ xs k n. refl
at_backslash in_escape = λ xs k n. refl

at_open_brace : (m : Mode) → Turn m 123
at_open_brace between = λ xs k n. one _ (k between) n
at_open_brace in_word = λ xs k n. one _ (k between) n
at_open_brace in_string = λ xs k n. refl
at_open_brace in_escape = λ xs k n. refl

at_close_brace : (m : Mode) → Turn m 125
at_close_brace between = λ xs k n. one _ (k between) n
at_close_brace in_word = λ xs k n. one _ (k between) n
at_close_brace in_string = λ xs k n. refl
at_close_brace in_escape = λ xs k n. refl

at_open_bracket : (m : Mode) → Turn m 91
at_open_bracket between = λ xs k n. one _ (k between) n
at_open_bracket in_word = λ xs k n. one _ (k between) n
at_open_bracket in_string = λ xs k n. refl
at_open_bracket in_escape = λ xs k n. refl

at_close_bracket : (m : Mode) → Turn m 93
at_close_bracket between = λ xs k n. one _ (k between) n
at_close_bracket in_word = λ xs k n. one _ (k between) n
at_close_bracket in_string = λ xs k n. refl
at_close_bracket in_escape = λ xs k n. refl

at_colon : (m : Mode) → Turn m 58
at_colon between = λ xs k n. refl
at_colon in_word = λ xs k n. refl
at_colon in_string = λ xs k n. refl
at_colon in_escape = λ xs k n. refl

at_comma : (m : Mode) → Turn m 44
at_comma between = λ xs k n. refl
at_comma in_word = λ xs k n. refl
at_comma in_string = λ xs k n. refl
at_comma in_escape = λ xs k n. refl

or_last : (P : ℕ → Type 0) (x c : ℕ) (b : Bool) → P c → (b ≡ true → P x) → (b ≡ true) ⊎ ((x == c) ≡ true) → P x
or_last P x c b p f (inl e) = f e
or_last P x c b p f (inr e) = subst P (sym (eqb-true x c e)) p

at_operator : (m : Mode) (x : ℕ) → is_operator x ≡ true → Turn m x
at_operator m x e =
    or_last (Turn m) x 44 _ (at_comma m) (λ h. or_last (Turn m) x 58 _ (at_colon m)
    (λ i. or_last (Turn m) x 93 _ (at_close_bracket m) (λ j. or_last (Turn m) x 91 _ (at_open_bracket m)
    (λ l. or_last (Turn m) x 125 _ (at_close_brace m) (λ o. subst (Turn m) (sym (eqb-true x 123 o)) (at_open_brace m))
    (or_cases _ _ l)) (or_cases _ _ j)) (or_cases _ _ i)) (or_cases _ _ h)) (or_cases _ _ e)

not_this : (x c : ℕ) (t : Bool) → is_operator x ≡ false → is_operator c ≡ true → (x == c) ≡ t → t ≡ false
not_this x c false never is e = refl
not_this x c true never is e = absurd (false≢true (sym never ∙ ap is_operator (eqb-true x c e) ∙ is))

turn_by : (m : Mode) (x : ℕ) (q b o s : Bool) → (x == 34) ≡ q → (x == 92) ≡ b → is_operator x ≡ o → is_space x ≡ s
    → Turn m x
turn_by m x true b o s eq eb eo es = subst (Turn m) (sym (eqb-true x 34 eq)) (at_quote m)
turn_by m x false true o s eq eb eo es = subst (Turn m) (sym (eqb-true x 92 eb)) (at_backslash m)
turn_by m x false false true s eq eb eo es = at_operator m x eo
turn_by m x false false false true eq eb eo es =
    tested m x false false false true (x == 44) (x == 58) eq eb eo es refl refl (at_space m x (x == 44) (x == 58))
turn_by m x false false false false eq eb eo es =
    tested m x false false false false false false eq eb eo es (not_this x 44 (x == 44) eo refl refl)
    (not_this x 58 (x == 58) eo refl refl) (at_other m x)

turn : (m : Mode) (x : ℕ) → Turn m x
turn m x = turn_by m x (x == 34) (x == 92) (is_operator x) (is_space x) refl refl refl refl

pick : (b : Bool) (r x : ℕ) (xs : List ℕ) (ls : List Lexeme) → lex between (drop r xs) ≡ ls
    → lex between (drop (if b then 0 else suc r) (x ∷ xs)) ≡ (if b then lex between (x ∷ xs) else ls)
pick true r x xs ls e = refl
pick false r x xs ls e = e

at_start : (xs : List ℕ) (m : Mode) (n : ℕ) → lex between (drop (bytes_before m n xs) xs) ≡ from_token n (lex m xs)
unfolding lex
at_start [] m n = refl
at_start (x ∷ xs) m n =
    pick (begins m x && (n == 0)) (bytes_before (mode_past m x) (if begins m x then n - 1 else n) xs) x xs _
    (at_start xs (mode_past m x) (if begins m x then n - 1 else n))
    ∙ sym (turn m x xs (λ next. lex next xs) n)

-- ---- lexemes and tokens

abbrev AllGood : List Token → Type 0
AllGood [] = ⊤
AllGood (t ∷ ts) = (is_good t ≡ true) × AllGood ts

good_nodes : (ns : List Node) → AllGood (map node_token ns)
good_nodes [] = tt
good_nodes (Object a ∷ ns) = (refl, good_nodes ns)
good_nodes (EndObject ∷ ns) = (refl, good_nodes ns)
good_nodes (Array a ∷ ns) = (refl, good_nodes ns)
good_nodes (EndArray ∷ ns) = (refl, good_nodes ns)
good_nodes (Key s ∷ ns) = (refl, good_nodes ns)
good_nodes (String s ∷ ns) = (refl, good_nodes ns)
good_nodes (Number s ∷ ns) = (refl, good_nodes ns)
good_nodes (Truth b ∷ ns) = (refl, good_nodes ns)
good_nodes (Null ∷ ns) = (refl, good_nodes ns)

abbrev Ends : List Token → (ℕ → Type 0) → List Token → ℕ → Type 0
Ends now R all zero = now ≡ all
Ends now R all (suc n) = R n

abbrev Goes : (Place → List Token) → (ℕ → Type 0) → List Token → Type 0
Goes k R all = (next : Place) (m : ℕ) → AllGood (k next) → drop m (k next) ≡ all → R m

tried : (b : Bool) (t : Token) (k : Place → List Token) (next : Place) (n : ℕ) (all : List Token) (R : ℕ → Type 0)
    → AllGood (if_allowed b t k next) → drop n (if_allowed b t k next) ≡ all → Goes k R all → Ends (t ∷ k next) R all n
tried false t k next n all R good e more = absurd (false≢true good.0)
tried true t k next zero all R good e more = e
tried true t k next (suc n) all R good e more = more next n good.1 e

placed_token : (p : Place) (t : Token) (c : Bool) (k : Place → List Token) (n : ℕ) (all : List Token) (R : ℕ → Type 0)
    → AllGood (place_token p t c k) → drop n (place_token p t c k) ≡ all → Goes k R all
    → Ends (place_token fresh t c k) R all n
placed_token p spec.begin_object c k n all R good e more =
    tried (may_begin p) spec.begin_object k fresh n all R good e more
placed_token p spec.end_object c k n all R good e more =
    tried (may_close p) spec.end_object k after_value n all R good e more
placed_token p spec.begin_array c k n all R good e more =
    tried (may_begin p) spec.begin_array k fresh n all R good e more
placed_token p spec.end_array c k n all R good e more =
    tried (may_close p) spec.end_array k after_value n all R good e more
placed_token p (spec.key s) c k n all R good e more = absurd (false≢true good.0)
placed_token p (spec.string s) true k n all R good e more =
    tried (may_begin p) (spec.key s) k after_key n all R good e more
placed_token p (spec.string s) false k n all R good e more =
    tried (may_begin p) (spec.string s) k after_value n all R good e more
placed_token p (spec.number s) c k n all R good e more =
    tried (may_begin p) (spec.number s) k after_value n all R good e more
placed_token p (spec.boolean b) c k n all R good e more =
    tried (may_begin p) (spec.boolean b) k after_value n all R good e more
placed_token p spec.null c k n all R good e more = tried (may_begin p) spec.null k after_value n all R good e more
placed_token p spec.bad c k n all R good e more = absurd (false≢true good.0)

abbrev IsSomeToken : List Token → Type 0
IsSomeToken [] = ⊥
IsSomeToken (t ∷ ts) = ⊤

none_left : {P : Type 0} (n : ℕ) (t : Token) (ts : List Token) → drop n [] ≡ t ∷ ts → P
none_left zero t ts e = absurd (subst IsSomeToken (sym e) tt)
none_left (suc n) t ts e = absurd (subst IsSomeToken (sym e) tt)

punctuated : (ls : List Lexeme) (p : Place) (n : ℕ) (t : Token) (ts : List Token) → AllGood (punctuate p ls)
    → drop n (punctuate p ls) ≡ t ∷ ts → punctuate fresh (from_token n ls) ≡ t ∷ ts
unfolding punctuate
punctuated [] fresh n t ts good e = none_left n t ts e
punctuated [] after_value n t ts good e = none_left n t ts e
punctuated [] after_comma n t ts good e = absurd (false≢true good.0)
punctuated [] after_key n t ts good e = absurd (false≢true good.0)
punctuated (comma ∷ ls) fresh n t ts good e = absurd (false≢true good.0)
punctuated (comma ∷ ls) after_value n t ts good e = punctuated ls after_comma n t ts good e
punctuated (comma ∷ ls) after_comma n t ts good e = absurd (false≢true good.0)
punctuated (comma ∷ ls) after_key n t ts good e = absurd (false≢true good.0)
punctuated (colon ∷ ls) fresh n t ts good e = absurd (false≢true good.0)
punctuated (colon ∷ ls) after_value n t ts good e = absurd (false≢true good.0)
punctuated (colon ∷ ls) after_comma n t ts good e = absurd (false≢true good.0)
punctuated (colon ∷ ls) after_key n t ts good e = punctuated ls fresh n t ts good e
punctuated (token u ∷ ls) p zero t ts good e =
    placed_token p u (begins_colon ls) (λ next. punctuate next ls) zero (t ∷ ts)
    (λ m. punctuate fresh (from_token m ls) ≡ t ∷ ts) good e (λ next m g d. punctuated ls next m t ts g d)
punctuated (token u ∷ ls) p (suc n) t ts good e =
    placed_token p u (begins_colon ls) (λ next. punctuate next ls) (suc n) (t ∷ ts)
    (λ m. punctuate fresh (from_token m ls) ≡ t ∷ ts) good e (λ next m g d. punctuated ls next m t ts g d)

-- ---- both together

pub begins_there : (text : List ℕ) (ns : List Node) (n : ℕ) (v : Json) → map node_token ns ≡ tokens text
    → BeginsWith (drop n (map node_token ns)) v → BeginsWith (tokens (drop (token_start n text) text)) v
begins_there text ns n v same begin = go (drop n (tokens text)) refl (subst (λ ts. BeginsWith (drop n ts) v) same begin)
  where
    go : (ts : List Token) → drop n (tokens text) ≡ ts → BeginsWith ts v
        → BeginsWith (tokens (drop (token_start n text) text)) v
    go [] e h = absurd (not_empty v h)
    go (t ∷ ts) e h =
        let there = punctuated (lex between text) fresh n t ts (subst AllGood same (good_nodes ns)) e in
        subst (λ us. BeginsWith us v) (sym (ap (punctuate fresh) (at_start text between n) ∙ there)) h
