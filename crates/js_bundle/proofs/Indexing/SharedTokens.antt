-- The texts that say where a place stands go on from where those of the place before it are the same.
use Rattle.std.proofs.Common.{◌≡◌, ℕ, zero, suc, ◌-◌, ◌≤◌, min, List, [], ◌∷◌, ◌++◌, Bool, true, false, ◌&&◌}
use Rattle.std.proofs.Common.{◌==◌, bytes_eq, codes, decimal, take, drop, length, string_bytes, if◌then◌else◌}
use Rattle.std.proofs.Common.{refl, sym, ap, ap₂, ◌∙◌, append_assoc, arith}
use Rattle.std.proofs.lemmas.Bool.{and_parts, eqb-true}
use Rattle.std.proofs.lemmas.List.{length-drop, take-append-drop, take-take}
use Rattle.js_doc.specs.Pointer.{Tokens, token_text}
use Rattle.js_doc.proofs.TokenLookup.{is_text-sound}
use Rattle.js_doc.specs.declared.token.Notation.{Notation}
use Rattle.js_doc.specs.declared.token.Notation.TheVariants.{Plain, Fragment}
use Rattle.js_bundle.specs.declared.index.text_prefix.TextPrefix.{TextPrefix}
use Rattle.js_bundle.specs.code.TextPrefix.{tokens_alike, text_of_tokens, BeginsWithTokens}
use Rattle.js_bundle.specs.code.TextPrefix.{BeginsKey, BeginsLocation, IsExtended}
use Rattle.js_bundle.specs.code.StoredLocation.{repeated}
use Rattle.js_bundle.specs.Location.{canonical, way}
use Rattle.js_bundle.specs.Resource.{Site}
use Rattle.js_bundle.specs.Url.{printed}
use Rattle.js_bundle.proofs.Indexing.TokensWritten.{written_append}

-- ---- pointers that begin alike

take_none : {A : Type 0} (n : ℕ) (xs ys : List A) → n ≤ 0 → take n xs ≡ take n ys
take_none zero xs ys h = refl
take_none (suc n) xs ys h = absurd (omega (arith, h))

pub shared_front : (n : ℕ) (q p : Tokens) → n ≤ tokens_alike q p → take n p ≡ take n q
shared_front n q [] h = take_none n [] q h
shared_front n [] (k ∷ p) h = take_none n (k ∷ p) [] h
shared_front zero (l ∷ q) (k ∷ p) h = refl
shared_front (suc n) (l ∷ q) (k ∷ p) h = by_token (bytes_eq l k) refl (shared_front n q p) h
  where
    by_token : (b : Bool) → bytes_eq l k ≡ b → (n ≤ tokens_alike q p → take n p ≡ take n q)
        → suc n ≤ (if b then suc (tokens_alike q p) else 0) → take (suc n) (k ∷ p) ≡ take (suc n) (l ∷ q)
    by_token true e more low = ap₂ (λ t r. t ∷ r) (sym (is_text-sound l k e)) (more (omega (arith, low)))
    by_token false e more low = take_none (suc n) (k ∷ p) (l ∷ q) low

-- the same after the tokens of a resource's root
pub shared_way : (n r : ℕ) (q p : Tokens) → n ≤ tokens_alike q p - r → take n (drop r p) ≡ take n (drop r q)
shared_way n zero q p h = shared_front n q p (omega (arith, h))
shared_way n (suc r) q [] h = take_none n [] (drop (suc r) q) (omega (arith, h))
shared_way n (suc r) [] (k ∷ p) h = take_none n (drop r p) [] (omega (arith, h))
shared_way n (suc r) (l ∷ q) (k ∷ p) h = by_token (bytes_eq l k) (shared_way n r q p) h
  where
    by_token : (b : Bool) → (n ≤ tokens_alike q p - r → take n (drop r p) ≡ take n (drop r q))
        → n ≤ (if b then suc (tokens_alike q p) else 0) - suc r → take n (drop r p) ≡ take n (drop r q)
    by_token true more low = more (omega (arith, low))
    by_token false more low = take_none n (drop r p) (drop r q) (omega (arith, low))

-- after the last one of either
pub shared_ends : (q p : Tokens) (i : ℕ) → i ≡ min (length q) (length p) → tokens_alike (drop i q) (drop i p) ≡ 0
shared_ends q p i e = by_lists (drop i q) (drop i p) (length-drop i q) (length-drop i p)
  where
    by_lists : (t u : Tokens) → length t ≡ length q - i → length u ≡ length p - i → tokens_alike t u ≡ 0
    by_lists t [] m n = refl
    by_lists [] (k ∷ u) m n = refl
    by_lists (l ∷ t) (k ∷ u) m n = absurd (omega (arith, e, m, n))

-- ---- the texts of one place

-- the first n tokens are those of another text with the same head
goes_on : (head : List ℕ) (notation : Notation) (p q : Tokens) (b : TextPrefix) → BeginsWithTokens head notation p b
    → take b.tokens p ≡ take b.tokens q → BeginsWithTokens head notation q b
goes_on head notation p q b h same = record { text = h.text ∙ ap (λ ts. head ++ text_of_tokens notation ts) same }

further : (head : List ℕ) (notation : Notation) (p q : Tokens)
    → (head ++ text_of_tokens notation p) ++ text_of_tokens notation q ≡ head ++ text_of_tokens notation (p ++ q)
further head notation p q = append_assoc head (text_of_tokens notation p) (text_of_tokens notation q)
    ∙ ap (λ x. head ++ x) (sym (written_append notation p q))

front_and_rest : (n m : ℕ) (p : Tokens) → n ≤ m → take n p ++ drop n (take m p) ≡ take m p
front_and_rest n m p h = ap (λ f. f ++ drop n (take m p)) (sym (take-take n m p h)) ∙ take-append-drop n (take m p)

pub extended_begins : (head : List ℕ) (notation : Notation) (p q : Tokens) (count : ℕ) (old new : TextPrefix)
    (text : List ℕ) → q ≡ p → BeginsWithTokens head notation p old → old.tokens ≤ count
    → IsExtended notation q count old new text → BeginsWithTokens head notation p new
extended_begins head notation p q count old new text same h low e =
    let more = drop old.tokens (take count p) in
    record {
      text = e.prefix ∙ ap (λ ts. string_bytes old.text ++ text_of_tokens notation (drop old.tokens (take count ts)))
          same
          ∙ ap (λ t. t ++ text_of_tokens notation more) h.text ∙ further head notation (take old.tokens p) more
          ∙ ap (λ ts. head ++ text_of_tokens notation ts) (front_and_rest old.tokens count p low)
          ∙ ap (λ n. head ++ text_of_tokens notation (take n p)) (sym e.reached);
    }

pub extended_whole : (head : List ℕ) (notation : Notation) (p q : Tokens) (count : ℕ) (old new : TextPrefix)
    (text : List ℕ)
    → q ≡ p → BeginsWithTokens head notation p old → old.tokens ≤ count
    → IsExtended notation q count old new text → text ≡ head ++ text_of_tokens notation p
extended_whole head notation p q count old new text same h low e =
    let begun = extended_begins head notation p q count old new text same h low e in
    e.text ∙ ap (λ ts. string_bytes new.text ++ text_of_tokens notation (drop count ts)) same
    ∙ ap (λ t. t ++ text_of_tokens notation (drop count p))
    (begun.text ∙ ap (λ n. head ++ text_of_tokens notation (take n p)) e.reached)
    ∙ further head notation (take count p) (drop count p)
    ∙ ap (λ ts. head ++ text_of_tokens notation ts) (take-append-drop count p)

-- ---- from the place before

pub key_goes_on : (b : TextPrefix) (before place : Site) (most : ℕ) → BeginsKey b before → before.document
    ≡ place.document → b.tokens ≤ most → most ≤ tokens_alike place.pointer before.pointer → BeginsKey b place
key_goes_on b before place most h same few low =
    goes_on (token_text (decimal place.document)) Plain before.pointer place.pointer b
    (record {
      text = h.text ∙ ap
          (λ d. token_text (decimal d) ++ text_of_tokens Plain (take b.tokens before.pointer)) same;
    })
    (shared_front b.tokens place.pointer before.pointer (omega (arith, few, low)))

pub way_is : (place : Site) (w tokens root : Tokens) → w ≡ drop (length root) tokens → tokens ≡ place.pointer
    → root ≡ place.own.resource → w ≡ way place
way_is place w tokens root is whole above = is ∙ ap (λ ts. drop (length root) ts) whole
    ∙ ap (λ ts. drop (length ts) place.pointer) above

pub location_goes_on : (b : TextPrefix) (before place : Site) (most : ℕ) → BeginsLocation b before
    → (bytes_eq (repeated (printed before.own.base)) (repeated (printed place.own.base))
    && length before.own.resource == length place.own.resource) ≡ true
    → b.tokens ≤ most → most ≤ tokens_alike place.pointer before.pointer - length place.own.resource
    → BeginsLocation b place
location_goes_on b before place most h alike few low =
    let parts = and_parts (bytes_eq (repeated (printed before.own.base)) (repeated (printed place.own.base)))
    (length before.own.resource == length place.own.resource) alike in
    let deep : length before.own.resource
    ≡ length place.own.resource = eqb-true (length before.own.resource) (length place.own.resource) parts.1 in
    goes_on (repeated (canonical place) ++ codes "#") Fragment (way before) (way place) b
    (record {
      text = h.text ∙ ap (λ t. (t ++ codes "#") ++ text_of_tokens Fragment (take b.tokens (way before)))
          (is_text-sound (repeated (printed before.own.base)) (repeated (printed place.own.base)) parts.0);
    })
    (ap (λ n. take b.tokens (drop n before.pointer)) deep
    ∙ shared_way b.tokens (length place.own.resource) place.pointer before.pointer (omega (arith, few, low)))
