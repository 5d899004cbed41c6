-- A step of the pass that makes the table of spots.
use Rattle.std.proofs.Common.{◌≡◌, ℕ, suc, ◌+◌, ◌-◌, ◌<◌, ◌≤◌, List, [], ◌∷◌, ◌++◌, Bool, true, false, ◌&&◌}
use Rattle.std.proofs.Common.{◌==◌, if◌then◌else◌, length, get_or, take, drop, ◌⊎◌, inl, inr, refl, sym, ap, ◌∙◌, subst}
use Rattle.std.proofs.Common.{arith, length-append, eq-or-lt_of_le}
use Rattle.std.proofs.lemmas.Bool.{eqb-true}
use Rattle.std.proofs.lemmas.List.{drop_all, get_or_append_left, get_or_at}
use Rattle.json.specs.Ascii as ascii
use Rattle.json.specs.Lex.{Mode}
use Rattle.js_doc.specs.Positions.{begins, bytes_before, goes_on, line_and_column_past, mode_past, spot_at}
use Rattle.js_doc.specs.Positions.{token_start}
use Rattle.js_doc.specs.Spots.{spot_seen}
use Rattle.js_doc.specs.code.SpotTable.{AreAllBegun, AreBegun}
use Rattle.js_doc.specs.declared.positions.spots.Spot.{Spot}

-- the rest of the text says where the tokens begin that aren't in the table
abbrev pub RestBegins : List ℕ → List Spot → ℕ → Mode → List ℕ → Type 0
RestBegins text table i m rest =
    (n : ℕ) → token_start (length table + n) text ≡ i + bytes_before m n rest

never : (n : ℕ) (b : Bool) → (suc n == 0) ≡ b → b ≡ false
never n true e = let z = eqb-true (suc n) 0 e in absurd (omega (arith, z))
never n false e = refl

turned : (m : Mode) (x n : ℕ) (rest : List ℕ) (b : Bool) → begins m x ≡ b → bytes_before m n (x ∷ rest)
    ≡ (if b && (n == 0) then 0 else suc (bytes_before (mode_past m x) (if b then n - 1 else n) rest))
turned m x n rest b e =
    subst (λ z. bytes_before m n (x ∷ rest)
    ≡ (if z && (n == 0) then 0 else suc (bytes_before (mode_past m x) (if z then n - 1 else n) rest))) e refl

-- a token that isn't the first of the rest begins as far behind the first byte
later : (m : Mode) (x n : ℕ) (rest : List ℕ) → begins m x ≡ true
    → bytes_before m (suc n) (x ∷ rest) ≡ suc (bytes_before (mode_past m x) n rest)
later m x n rest e =
    let less : suc n - 1 ≡ n = omega arith in
    turned m x (suc n) rest true e
    ∙ ap (λ z. if z then 0 else suc (bytes_before (mode_past m x) (suc n - 1) rest)) (never n (suc n == 0) refl)
    ∙ ap (λ k. suc (bytes_before (mode_past m x) k rest)) less

pub rest_past : (text : List ℕ) (table : List Spot) (s : Spot) (i : ℕ) (m : Mode) (x : ℕ) (rest : List ℕ) (b : Bool)
    → begins m x ≡ b → RestBegins text table i m (x ∷ rest)
    → RestBegins text (if b then table ++ s ∷ [] else table) (i + 1) (mode_past m x) rest
rest_past text table s i m x rest false e h n =
    let more : i + suc (bytes_before (mode_past m x) n rest)
    ≡ i + 1 + bytes_before (mode_past m x) n rest = omega arith in
    h n ∙ ap (λ k. i + k) (turned m x n rest false e) ∙ more
rest_past text table s i m x rest true e h n =
    let one_more : length (table ++ s ∷ []) + n ≡ length table + suc n = omega (arith, length-append table (s ∷ [])) in
    let more : i + suc (bytes_before (mode_past m x) n rest)
    ≡ i + 1 + bytes_before (mode_past m x) n rest = omega arith in
    ap (λ k. token_start k text) one_more ∙ h (suc n) ∙ ap (λ k. i + k) (later m x n rest e) ∙ more

pub begun_past : (text : List ℕ) (table : List Spot) (s : Spot) (i : ℕ) (m : Mode) (x : ℕ) (rest : List ℕ) (b : Bool)
    → begins m x ≡ b → RestBegins text table i m (x ∷ rest) → spot_seen s ≡ spot_at text i → AreBegun text table
    → AreBegun text (if b then table ++ s ∷ [] else table)
begun_past text table s i m x rest false e h here before = before
begun_past text table s i m x rest true e h here before = λ n less d.
    go n d (eq-or-lt_of_le (omega (arith, less, length-append table (s ∷ []))))
  where
    go : (n : ℕ) (d : Spot) → (n ≡ length table) ⊎ (n < length table)
        → spot_seen (get_or (table ++ s ∷ []) n d) ≡ spot_at text (token_start n text)
    go n d (inl is) =
        let last : n ≡ length table + 0 = omega (arith, is) in
        let none : i + 0 ≡ i = omega arith in
        let start : token_start n text ≡ i = ap (λ k. token_start k text) last ∙ h 0
        ∙ ap (λ k. i + k) (turned m x 0 rest true e) ∙ none in
        ap spot_seen (get_or_at table s [] d n (sym is)) ∙ here ∙ ap (spot_at text) (sym start)
    go n d (inr less) = ap spot_seen (get_or_append_left table (s ∷ []) d n less) ∙ before n less d

pub all_begun : (text : List ℕ) (table : List Spot) (i : ℕ) (m : Mode) → length text ≤ i → i ≤ length text
    → RestBegins text table i m (drop i text) → AreBegun text table → AreAllBegun text table
all_begun text table i m past within h before = (
  before,
  λ n more.
      let k : n ≡ length table + (n - length table) = omega (arith, more) in
      let none : i + 0 ≡ length text = omega (arith, past, within) in
      ap (λ z. token_start z text) k ∙ h (n - length table)
      ∙ ap (λ xs. i + bytes_before m (n - length table) xs) (drop_all i text past) ∙ none,
)

-- ---- lines and columns

abbrev by_tests : {A : Type 0} → (ℕ → ℕ → A) → ℕ → ℕ → Bool → Bool → A
by_tests f l c feed on = if feed then f (l + 1) 1 else (if on then f l c else f l (c + 1))

pub one_byte : (l c x : ℕ) (xs : List ℕ) → line_and_column_past l c (x ∷ xs)
    ≡ line_and_column_past (line_and_column_past l c (x ∷ [])).0 (line_and_column_past l c (x ∷ [])).1 xs
one_byte l c x xs = go (x == ascii.line_feed) (goes_on x)
  where
    go : (feed on : Bool) → by_tests (λ i j. line_and_column_past i j xs) l c feed on
        ≡ line_and_column_past (by_tests {A = ℕ × ℕ} (λ i j. (i, j)) l c feed on).0
        (by_tests {A = ℕ × ℕ} (λ i j. (i, j)) l c feed on).1 xs
    go true on = refl
    go false true = refl
    go false false = refl

-- the rest of the text says which lines and columns are behind
abbrev pub RestCounts : List ℕ → ℕ → ℕ → ℕ → List ℕ → Type 0
RestCounts text i l c rest =
    (k : ℕ) → line_and_column_past 1 1 (take (i + k) text) ≡ line_and_column_past l c (take k rest)

pub counts_past : (text : List ℕ) (i l c x : ℕ) (rest : List ℕ) → RestCounts text i l c (x ∷ rest)
    → RestCounts text (i + 1) (line_and_column_past l c (x ∷ [])).0 (line_and_column_past l c (x ∷ [])).1 rest
counts_past text i l c x rest h k =
    let more : i + 1 + k ≡ i + suc k = omega arith in
    ap (λ n. line_and_column_past 1 1 (take n text)) more ∙ h (suc k) ∙ one_byte l c x (take k rest)

pub counted_here : (text : List ℕ) (i l c : ℕ) (rest : List ℕ) → RestCounts text i l c rest
    → (i, (l, c)) ≡ spot_at text i
counted_here text i l c rest h =
    let none : i ≡ i + 0 = omega arith in
    ap (λ p. (i, p)) (sym (ap (λ n. line_and_column_past 1 1 (take n text)) none ∙ h 0))
