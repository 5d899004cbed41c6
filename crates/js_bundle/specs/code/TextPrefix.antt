-- How the texts begin that say where a place stands: with as many tokens of its pointer, or of its way from the
-- resource's root. Those of the next place go on from there.
use Rattle.std.specs.Prelude.{◌≡◌, ℕ, List, suc, [], ◌∷◌, ◌++◌, Option, bytes_eq, codes}
use Rattle.std.specs.Prelude.{decimal, drop, take, string_bytes, if◌then◌else◌}
use Rattle.std.specs.Option.{option_map_or}
use Rattle.js_doc.specs.Fragment.{fragment_text}
use Rattle.js_doc.specs.Pointer.{Tokens, pointer_text, token_text}
use Rattle.js_doc.specs.declared.token.Notation.{Notation}
use Rattle.js_doc.specs.declared.token.Notation.TheVariants.{Plain, Fragment}
use Rattle.js_bundle.specs.declared.index.text_prefix.TextPrefix.{TextPrefix}
use Rattle.js_bundle.specs.code.StoredLocation.{repeated}
use Rattle.js_bundle.specs.Location.{canonical, way}
use Rattle.js_bundle.specs.Resource.{Site}

-- with how many tokens alike two pointers begin
abbrev pub tokens_alike : Tokens → Tokens → ℕ
tokens_alike tokens [] = 0
tokens_alike [] (k ∷ others) = 0
tokens_alike (l ∷ tokens) (k ∷ others) = if bytes_eq l k then suc (tokens_alike tokens others) else 0

-- those of a place and of the one before it
abbrev pub shared_with : Option Site → Site → ℕ
shared_with before place = option_map_or (λ b. tokens_alike place.pointer b.pointer) before 0

-- ---- tokens as text

abbrev pub text_of_tokens : Notation → Tokens → List ℕ
text_of_tokens Plain tokens = pointer_text tokens
text_of_tokens Fragment tokens = fragment_text tokens

-- the prefix is a head and the first tokens
pub record BeginsWithTokens (head : List ℕ) (notation : Notation) (tokens : Tokens) (prefix : TextPrefix) : Type 0 where
  pub text : string_bytes prefix.text ≡ head ++ text_of_tokens notation (take prefix.tokens tokens)

-- the prefix goes on to the first `count` tokens, and the text to all
pub record IsExtended (notation : Notation) (tokens : Tokens) (count : ℕ) (old new : TextPrefix)
    (whole : List ℕ) : Type 0 where
  pub reached : new.tokens ≡ count
  pub prefix : string_bytes new.text ≡ string_bytes old.text
      ++ text_of_tokens notation (drop old.tokens (take count tokens))
  pub text : whole ≡ string_bytes new.text ++ text_of_tokens notation (drop count tokens)

-- of the key of a place
abbrev pub BeginsKey : TextPrefix → Site → Type 0
BeginsKey prefix place = BeginsWithTokens (token_text (decimal place.document)) Plain place.pointer prefix

-- of its location
abbrev pub BeginsLocation : TextPrefix → Site → Type 0
BeginsLocation prefix place = BeginsWithTokens (repeated (canonical place) ++ codes "#") Fragment (way place) prefix
