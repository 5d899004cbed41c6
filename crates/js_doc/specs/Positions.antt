-- Where the value at a pointer stands in a text (RFC 6901, section 4; RFC 8259).
-- A text's tokens are its brackets and braces, strings, numbers and literals (RFC 8259, section 2).
use Rattle.std.specs.Prelude.{◌≡◌, ℕ, suc, zero, ◌+◌, ◌-◌, List, [], ◌∷◌, Bool, true, false, not, ◌&&◌, ◌||◌, ◌==◌}
use Rattle.std.specs.Prelude.{if◌then◌else◌, nat_le, nat_lt, length, get_or, take, drop, decimal}
use Rattle.std.specs.Prelude.{Option, Some, None, option_map, option_and_then}
use Rattle.json.specs.Ascii as ascii
use Rattle.json.specs.Find.{BeginsWith}
use Rattle.json.specs.Json.{Json, array, object, Items, no_items, item, Members, no_members, member, document}
use Rattle.json.specs.Lex.{Mode, between, in_word, in_string, in_escape, tokens}
use Rattle.json.specs.Token as token
use Rattle.json.specs.Tree.{json_tokens}
use Rattle.json.specs.Word.{is_operator, is_space}
use Rattle.js_doc.specs.Lookup.{is_text}
use Rattle.js_doc.specs.Pointer.{Tokens}

-- ---- the value at a pointer, and how many tokens stand before it

abbrev pub Placed : Type 0
Placed = ℕ × Json

-- n tokens stand before the items, and the first has the index i
abbrev pub item_placed : List ℕ → ℕ → ℕ → Items → Option Placed
item_placed name i n no_items = None
item_placed name i n (item j js) =
    if is_text name (decimal i) then Some (n, j) else item_placed name (i + 1) (n + length (json_tokens j)) js

-- n tokens stand before the members; of those with the name the last counts
abbrev pub member_placed : List ℕ → Option Placed → ℕ → Members → Option Placed
member_placed name found n no_members = found
member_placed name found n (member k j ms) =
    member_placed name (if is_text k name then Some (n + 1, j) else found) (n + 1 + length (json_tokens j)) ms

-- the item or member that the token of a pointer names, in a value with n tokens before it
abbrev pub part_placed : List ℕ → ℕ → Json → Option Placed
part_placed name n (array js) = item_placed name 0 (n + 1) js
part_placed name n (object ms) = member_placed name None (n + 1) ms
part_placed name n _ = None

abbrev pub value_placed : Tokens → ℕ → Json → Option Placed
value_placed [] n j = Some (n, j)
value_placed (name ∷ names) n j = option_and_then (λ p. value_placed names p.0 p.1) (part_placed name n j)

-- ---- where tokens begin

-- the byte begins a token, where the bytes before it have led to the mode
abbrev pub begins : Mode → ℕ → Bool
begins between x = not (is_space x) && not (x == ascii.comma) && not (x == ascii.colon)
begins in_word x = is_operator x && not (x == ascii.comma) && not (x == ascii.colon)
begins in_string x = false
begins in_escape x = false

abbrev pub mode_past : Mode → ℕ → Mode
mode_past between x =
    if x == ascii.quote then in_string else (if is_operator x || is_space x then between else in_word)
mode_past in_word x = if is_operator x || is_space x then between else in_word
mode_past in_string x = if x == ascii.quote then between else (if x == ascii.backslash then in_escape else in_string)
mode_past in_escape x = in_string

-- how many bytes stand before the token with n tokens before it; all of them if there is no such token
abbrev pub bytes_before : Mode → ℕ → List ℕ → ℕ
bytes_before m n [] = 0
bytes_before m n (x ∷ xs) =
    if begins m x && (n == 0) then 0 else
    suc (bytes_before (mode_past m x) (if begins m x then n - 1 else n) xs)

abbrev pub token_start : ℕ → List ℕ → ℕ
token_start = bytes_before between

-- ---- where values end

-- what may stand between a value and the token behind it
abbrev pub is_separator : ℕ → Bool
is_separator x = is_space x || x == ascii.comma

abbrev pub are_separators : List ℕ → Bool
are_separators [] = true
are_separators (x ∷ xs) = is_separator x && are_separators xs

-- the length without the separators at the end
abbrev pub trimmed_length : List ℕ → ℕ
trimmed_length [] = 0
trimmed_length (x ∷ xs) = if are_separators (x ∷ xs) then 0 else suc (trimmed_length xs)

-- how many bytes stand before the end of the value with n tokens before it
abbrev pub value_end : ℕ → Json → List ℕ → ℕ
value_end n v text = trimmed_length (take (token_start (n + length (json_tokens v)) text) text)

-- ---- all together

abbrev pub is_key : token.Token → Bool
is_key token.begin_object = false
is_key token.end_object = false
is_key token.begin_array = false
is_key token.end_array = false
is_key (token.key s) = true
is_key (token.string s) = false
is_key (token.number s) = false
is_key (token.boolean b) = false
is_key token.null = false
is_key token.bad = false

-- where the name begins that stands before the token, if one does
abbrev pub name_start : ℕ → List ℕ → Option ℕ
name_start zero text = None
name_start (suc n) text = if is_key (get_or (tokens text) n token.null) then Some (token_start n text) else None

-- where the value at the pointer begins and ends, and where its member's name begins
abbrev pub position : List ℕ → Tokens → Option (ℕ × (ℕ × Option ℕ))
position text pointer =
    option_map (λ p. (token_start p.0 text, (value_end p.0 p.1 text, name_start p.0 text)))
    (option_and_then (value_placed pointer 0) (document text))

-- from the offset on the text begins with the value at the pointer
abbrev pub BeginsAt : List ℕ → Tokens → ℕ → Type 0
BeginsAt text pointer offset = (n : ℕ) × (v : Json)
    × (option_and_then (value_placed pointer 0) (document text) ≡ Some (n, v))
    × BeginsWith (tokens (drop offset text)) v

-- ---- lines and columns, from 1; a column counts characters

-- a byte that goes on with a character (RFC 3629, section 3)
abbrev pub goes_on : ℕ → Bool
goes_on x = nat_le 128 x && nat_lt x 192

-- the line and the column behind the bytes
abbrev pub line_and_column_past : ℕ → ℕ → List ℕ → ℕ × ℕ
line_and_column_past line column [] = (line, column)
line_and_column_past line column (x ∷ xs) =
    if x == ascii.line_feed then line_and_column_past (line + 1) 1 xs else
    (if goes_on x then line_and_column_past line column xs else line_and_column_past line (column + 1) xs)

abbrev pub line_and_column_at : ℕ → List ℕ → ℕ × ℕ
line_and_column_at offset text = line_and_column_past 1 1 (take offset text)

-- ---- with lines and columns

-- a byte's offset, with its line and column
abbrev pub spot_at : List ℕ → ℕ → ℕ × (ℕ × ℕ)
spot_at text offset = (offset, line_and_column_at offset text)

-- `position`, with the lines and columns of what begins
abbrev pub spots : List ℕ → Tokens → Option ((ℕ × (ℕ × ℕ)) × (ℕ × Option (ℕ × (ℕ × ℕ))))
spots text pointer =
    option_map (λ p. (spot_at text p.0, (p.1.0, option_map (spot_at text) p.1.1))) (position text pointer)
