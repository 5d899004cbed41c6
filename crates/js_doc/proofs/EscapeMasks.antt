-- The bytes of a vector that have to be escaped, as a mask.
use Rattle.std.proofs.Common.{◌≡◌, ℕ, zero, suc, ◌+◌, ◌-◌, ◌*◌, ◌%◌, ◌^◌, ◌<◌, ◌≤◌, Bool, true, false, not, ◌||◌, ◌==◌}
use Rattle.std.proofs.Common.{cond, ltb, List, [], ◌∷◌, map, length, drop, replicate, refl, sym, ap, ap₂, ◌∙◌, arith}
use Rattle.std.proofs.lemmas.Simd.{zip2_splat, zip2_of_maps, mask_l-mod, chunk-drop, length-chunk}
use Rattle.std.proofs.lemmas.Simd.{leading_from_mask_l, trailing_mask_l}
use Rattle.std.proofs.lemmas.List.{drop-drop, length-map, length-drop}
use Rattle.std.proofs.lemmas.List.Folds.{prefix_len-append}
use Rattle.std.proofs.lemmas.List.Sums.{prefix_len-le-length}
use Rattle.std.proofs.lemmas.Bool.{eq-eqb, ne_eqb}
use Rattle.std.specs.List.{prefix_len}
use lib.Bits.{bit_or}
use lib.Count.{count_trailing_zeros}
use lib.Lanes.{chunk, mask_l, top, zip2}
use Rattle.js_doc.specs.Escapes.{needs_escape, stands}

-- ---- three comparisons of each lane

abbrev hit : ℕ → ℕ → ℕ
hit a b = cond (a == b) 255 0

abbrev below : ℕ → ℕ → ℕ
below a b = cond (ltb a b) 255 0

abbrev found : Bool → Bool → Bool → ℕ
found a b c = bit_or (bit_or (cond a 255 0) (cond b 255 0)) (cond c 255 0)

top_found : (a b c : Bool) → top 7 (found a b c) ≡ (a || b || c)
top_found true true true = refl
top_found true true false = refl
top_found true false true = refl
top_found true false false = refl
top_found false true true = refl
top_found false true false = refl
top_found false false true = refl
top_found false false false = refl

abbrev lane : ℕ → ℕ
lane x = found (x == 34) (x == 92) (ltb x 32)

tops : (v : List ℕ) → map (top 7) (map lane v) ≡ map needs_escape v
tops [] = refl
tops (x ∷ v) = ap₂ (λ b bs. b ∷ bs) (top_found (x == 34) (x == 92) (ltb x 32)) (tops v)

abbrev compared : ℕ → List ℕ → List ℕ
compared n v = zip2 bit_or (zip2 bit_or (zip2 hit v (replicate n 34)) (zip2 hit v (replicate n 92)))
    (zip2 below v (replicate n 32))

lanes : (n : ℕ) (v : List ℕ) → length v ≡ n → compared n v ≡ map lane v
lanes n v long =
    zip2_of_maps bit_or (λ x. bit_or (hit x 34) (hit x 92)) (λ x. below x 32) v
    (zip2_of_maps bit_or (λ x. hit x 34) (λ x. hit x 92) v (zip2_splat hit v n 34 long) (zip2_splat hit v n 92 long))
    (zip2_splat below v n 32 long)

pub masked : (n : ℕ) (v : List ℕ) → length v ≡ n → n ≤ 64
    → mask_l (map (top 7) (compared n v)) % 2 ^ 64 ≡ mask_l (map needs_escape v)
masked n v long short =
    ap (λ xs. mask_l (map (top 7) xs) % 2 ^ 64) (lanes n v long) ∙ ap (λ ms. mask_l ms % 2 ^ 64) (tops v)
    ∙ mask_l-mod (map needs_escape v) 64 (omega (arith, long, short, length-map v needs_escape))

-- ---- runs, a vector further on

pub run_bound : (bs : List ℕ) (i : ℕ) → i ≤ length bs → i + prefix_len stands (drop i bs) ≤ length bs
run_bound bs i h = omega (arith, prefix_len-le-length stands (drop i bs), length-drop i bs)

none_found : (b : Bool) (n l m : ℕ) → n ≤ l → cond (not b) (1 + n) 0 ≡ 1 + l → (n ≡ l → m ≡ 0) → cond b 1 0 + 2 * m ≡ 0
none_found true n l m le e ih = let no : ⊥ = omega arith in absurd no
none_found false n l m le e ih = let z = ih (omega arith) in omega arith

empty_mask : (xs : List ℕ) → prefix_len stands xs ≡ length xs → mask_l (map needs_escape xs) ≡ 0
empty_mask [] e = refl
empty_mask (x ∷ xs) e = none_found (needs_escape x) _ (length xs) _ (prefix_len-le-length stands xs)
    (omega arith) (empty_mask xs)

split : (bs : List ℕ) (i n : ℕ) → prefix_len stands (drop i bs) ≡ cond (prefix_len stands (chunk i n bs) == length
    (chunk i n bs)) (length (chunk i n bs) + prefix_len stands (drop (i + n) bs)) (prefix_len stands (chunk i n bs))
split bs i n = ap (prefix_len stands) (chunk-drop i n bs) ∙ prefix_len-append stands (chunk i n bs) (drop (i + n) bs)

pub run_through : (bs : List ℕ) (i n : ℕ) → i + n ≤ length bs → mask_l (map needs_escape (chunk i n bs)) ≡ 0
    → prefix_len stands (drop i bs) ≡ n + prefix_len stands (drop (i + n) bs)
run_through bs i n room none =
    let c = chunk i n bs in
    split bs i n ∙ ap (λ b. cond b (length c + prefix_len stands (drop (i + n) bs)) (prefix_len stands c))
    (eq-eqb _ _ (leading_from_mask_l needs_escape c none))
    ∙ ap (λ k. k + prefix_len stands (drop (i + n) bs)) (length-chunk i n bs room)

-- m has a bit for each byte of the vector that has to be escaped
pub run_stops : (bs : List ℕ) (i n m : ℕ) → m ≡ mask_l (map needs_escape (chunk i n bs)) → i + n ≤ length bs → n ≤ 64
    → 0 < m → prefix_len stands (drop i bs) ≡ count_trailing_zeros 64 m
run_stops bs i n m is room short some =
    let c = chunk i n bs in
    split bs i n ∙ ap (λ b. cond b (length c + prefix_len stands (drop (i + n) bs)) (prefix_len stands c))
    (ne_eqb _ _ (λ (e : prefix_len stands c ≡ length c). omega (arith, is, some, empty_mask c e)))
    ∙ sym (trailing_mask_l needs_escape 64 c (omega (arith, short, length-chunk i n bs room))
    (omega (arith, is, some))) ∙ ap (count_trailing_zeros 64) (sym is)

-- the rest of a run, from a byte within it on
past_next : (b : Bool) (all n rest : ℕ) → suc n ≤ cond b (1 + all) 0 → (n ≤ all → all ≡ n + rest)
    → cond b (1 + all) 0 ≡ suc n + rest
past_next true all n rest h more = let e = more (omega (arith, h)) in omega (arith, e)
past_next false all n rest h more = absurd (omega (arith, h))

past : (xs : List ℕ) (n : ℕ) → n ≤ prefix_len stands xs → prefix_len stands xs ≡ n + prefix_len stands (drop n xs)
past xs zero h = omega arith
past [] (suc n) h = absurd (omega (arith, h))
past (x ∷ xs) (suc n) h = past_next (stands x) (prefix_len stands xs) n (prefix_len stands (drop n xs)) h (past xs n)

pub run_from : (bs : List ℕ) (start within end : ℕ) → start ≤ within → within ≤ end
    → start + prefix_len stands (drop start bs) ≡ end + prefix_len stands (drop end bs)
    → within + prefix_len stands (drop within bs) ≡ start + prefix_len stands (drop start bs)
run_from bs start within end from to same =
    let n = within - start in
    let rest = past (drop start bs) n (omega (arith, same, from, to)) in
    let there : drop n (drop start bs) ≡ drop within bs = drop-drop n start bs
    ∙ ap (λ k. drop k bs) (omega (arith, from)) in
    omega (arith, from, rest, ap (prefix_len stands) there)

pub none_behind : (bs : List ℕ) (i : ℕ) → length bs ≤ i → prefix_len stands (drop i bs) ≡ 0
none_behind bs i h = omega (arith, prefix_len-le-length stands (drop i bs), length-drop i bs)

-- no byte of the last vector has to be escaped
pub last_stands : (bs : List ℕ) (n : ℕ) → n ≤ length bs → mask_l (map needs_escape (chunk (length bs - n) n bs)) ≡ 0
    → length bs ≡ (length bs - n) + prefix_len stands (drop (length bs - n) bs)
last_stands bs n room none =
    let run = run_through bs (length bs - n) n (omega (arith, room)) none in
    omega (arith, room, run, none_behind bs (length bs - n + n) (omega (arith, room)))
