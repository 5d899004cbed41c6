-- What a node tells of the value that begins at it, and how far that value goes.
use Rattle.std.proofs.Common.{◌≡◌, ℕ, ◌+◌, ◌<◌, ◌≤◌, List, ◌∷◌, map, length, drop, get_or}
use Rattle.std.proofs.Common.{Option, Some, None, refl, sym, ap, ◌∙◌, arith}
use Rattle.std.proofs.lemmas.List.{drop_more, get_or-map, length-append, length-drop, length-map}
use Rattle.std.specs.Borrow.{Bor}
use Rattle.json.specs.Find.{BeginsWith}
use Rattle.json.specs.Json.{Json, null, boolean, number, string, array, object, Items, Members}
use Rattle.json.specs.Json.{parse_map, after_end_array, value}
use Rattle.json.specs.Tape.{node_token, Passes}
use Rattle.json.specs.Token.{Token}
use Rattle.json.specs.Tree.{json_tokens}
use Rattle.json.specs.declared.tape.Node.{Node}
use Rattle.json.specs.declared.tape.Node.TheVariants.{Object, EndObject, Array, EndArray, Key, String}
use Rattle.json.specs.declared.tape.Node.TheVariants.{Number, Bool, Null}
use Rattle.json.proofs.Grammar.{value_is, left_some}
use Rattle.json.proofs.Found.{one_reading, not_found, Some_inj, IsKey}
use Rattle.json.proofs.Unique.Spelling.{value-json_tokens_back}
use Rattle.js_doc.specs.Positions.{part_placed}

pub here : (ns : List Node) (i : ℕ) (d : Node) → i < length ns
    → drop i (map node_token ns) ≡ node_token (get_or ns i d) ∷ drop (i + 1) (map node_token ns)
here ns i d h =
    drop_more (map node_token ns) i (node_token d) (omega (arith, length-map ns node_token))
    ∙ ap (λ t. t ∷ drop (i + 1) (map node_token ns)) (get_or-map node_token ns i d (node_token d) h)

abbrev Shape : Node → List Token → Json → List Token → Type 0
Shape (Object a) ts j rest = (ms : Members) × (j ≡ object ms)
Shape EndObject ts j rest = ⊥
Shape (Array a) ts j rest = (js : Items) × (j ≡ array js)
Shape EndArray ts j rest = ⊥
Shape (Key s) ts j rest = ⊥
Shape (String s) ts j rest = (j ≡ string s.now) × (rest ≡ ts)
Shape (Number s) ts j rest = (j ≡ number s.now) × (rest ≡ ts)
Shape (Bool b) ts j rest = (j ≡ boolean b) × (rest ≡ ts)
Shape Null ts j rest = (j ≡ null) × (rest ≡ ts)

made : {A : Type 0} (f : A → Json) (o : Option (A × List Token)) (j : Json) (rest : List Token)
    → parse_map f o ≡ Some (j, rest) → (a : A) × (j ≡ f a)
made f None j rest e = not_found (j, rest) e
made f (Some x) j rest e = (x.0, sym (ap (λ z. z.0) (Some_inj _ _ e)))

alone : (k j : Json) (ts rest : List Token) → ◌≡◌ {A = Option (Json × List Token)} (Some (k, ts)) (Some (j, rest))
    → (j ≡ k) × (rest ≡ ts)
alone k j ts rest e = let both = Some_inj _ _ e in (sym (ap (λ z. z.0) both), sym (ap (λ z. z.1) both))

shape : (n : Node) (ts : List Token) (j : Json) (d : ℕ) (rest : List Token) → value d (node_token n ∷ ts)
    ≡ Some (j, rest) → Shape n ts j rest
shape (Object a) ts j d rest e = made object _ j rest (sym (value_is d _) ∙ e)
shape EndObject ts j d rest e = not_found (j, rest) (sym (value_is d _) ∙ e)
shape (Array a) ts j d rest e = made array _ j rest (sym (value_is d _) ∙ e)
shape EndArray ts j d rest e = not_found (j, rest) (sym (value_is d _) ∙ e)
shape (Key s) ts j d rest e = not_found (j, rest) (sym (value_is d _) ∙ e)
shape (String s) ts j d rest e = alone (string s.now) j ts rest (sym (value_is d _) ∙ e)
shape (Number s) ts j d rest e = alone (number s.now) j ts rest (sym (value_is d _) ∙ e)
shape (Bool b) ts j d rest e = alone (boolean b) j ts rest (sym (value_is d _) ∙ e)
shape Null ts j d rest e = alone null j ts rest (sym (value_is d _) ∙ e)

pub one_token : (n : Node) (ts : List Token) (j : Json) (d : ℕ) (rest : List Token) → ((a : ℕ) → n ≡ Object a → ⊥)
    → ((a : ℕ) → n ≡ Array a → ⊥) → value d (node_token n ∷ ts) ≡ Some (j, rest) → rest ≡ ts
one_token (Object a) ts j d rest p q e = absurd (p a refl)
one_token EndObject ts j d rest p q e = absurd (shape EndObject ts j d rest e)
one_token (Array a) ts j d rest p q e = absurd (q a refl)
one_token EndArray ts j d rest p q e = absurd (shape EndArray ts j d rest e)
one_token (Key s) ts j d rest p q e = absurd (shape (Key s) ts j d rest e)
one_token (String s) ts j d rest p q e = (shape (String s) ts j d rest e).1
one_token (Number s) ts j d rest p q e = (shape (Number s) ts j d rest e).1
one_token (Bool b) ts j d rest p q e = (shape (Bool b) ts j d rest e).1
one_token Null ts j d rest p q e = (shape Null ts j d rest e).1

pub by_link : (all : List Token) (i end d : ℕ) (j : Json) (rest : List Token) → Passes all i end
    → value d (drop i all) ≡ Some (j, rest) → rest ≡ drop end all
by_link all i end d j rest link e =
    let other = left_some (value link.0 (drop i all)) (drop end all) link.1 in
    ap (λ z. z.1) (Some_inj _ _ (one_reading d link.0 (drop i all) _ _ e other.1))

-- the value takes as many tokens as it has
pub goes_to : (all : List Token) (i end d : ℕ) (j : Json) (rest : List Token) → i ≤ end → end ≤ length all
    → value d (drop i all) ≡ Some (j, rest) → rest ≡ drop end all → end ≡ i + length (json_tokens j)
goes_to all i end d j rest h within e is =
    let whole = ap length (value-json_tokens_back d (drop i all) rest j e) in
    let left = ap length is in
    omega (arith, length-drop i all, length-drop end all, whole, left, length-append (json_tokens j) rest)

pub no_close : (n : Node) (ts : List Token) → (n ≡ EndArray → ⊥) → after_end_array (node_token n ∷ ts) ≡ None
no_close (Object a) ts never = refl
no_close EndObject ts never = refl
no_close (Array a) ts never = refl
no_close EndArray ts never = absurd (never refl)
no_close (Key s) ts never = refl
no_close (String s) ts never = refl
no_close (Number s) ts never = refl
no_close (Bool b) ts never = refl
no_close Null ts never = refl

pub no_key : (n : Node) → ((s : Bor (List ℕ)) → n ≡ Key s → ⊥) → IsKey (node_token n) → ⊥
no_key (Object a) never h = h
no_key EndObject never h = h
no_key (Array a) never h = h
no_key EndArray never h = h
no_key (Key s) never h = never s refl
no_key (String s) never h = h
no_key (Number s) never h = h
no_key (Bool b) never h = h
no_key Null never h = h

pub an_object : (a : ℕ) (ts : List Token) (j : Json) → BeginsWith (node_token (Object a) ∷ ts) j
    → (ms : Members) × (j ≡ object ms)
an_object a ts j h = shape (Object a) ts j h.0 h.1 h.2

pub an_array : (a : ℕ) (ts : List Token) (j : Json) → BeginsWith (node_token (Array a) ∷ ts) j
    → (js : Items) × (j ≡ array js)
an_array a ts j h = shape (Array a) ts j h.0 h.1 h.2

-- neither an array nor an object
pub no_part : (name : List ℕ) (k : ℕ) (n : Node) (ts : List Token) (j : Json) → ((a : ℕ) → n ≡ Object a → ⊥)
    → ((a : ℕ) → n ≡ Array a → ⊥) → BeginsWith (node_token n ∷ ts) j → part_placed name k j ≡ None
no_part name k (Object a) ts j p q h = absurd (p a refl)
no_part name k EndObject ts j p q h = absurd (shape EndObject ts j h.0 h.1 h.2)
no_part name k (Array a) ts j p q h = absurd (q a refl)
no_part name k EndArray ts j p q h = absurd (shape EndArray ts j h.0 h.1 h.2)
no_part name k (Key s) ts j p q h = absurd (shape (Key s) ts j h.0 h.1 h.2)
no_part name k (String s) ts j p q h = ap (part_placed name k) (shape (String s) ts j h.0 h.1 h.2).0
no_part name k (Number s) ts j p q h = ap (part_placed name k) (shape (Number s) ts j h.0 h.1 h.2).0
no_part name k (Bool b) ts j p q h = ap (part_placed name k) (shape (Bool b) ts j h.0 h.1 h.2).0
no_part name k Null ts j p q h = ap (part_placed name k) (shape Null ts j h.0 h.1 h.2).0
