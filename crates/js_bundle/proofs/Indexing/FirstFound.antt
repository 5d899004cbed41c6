-- What a number finds in a list, and the first member of a name.
use Rattle.std.proofs.Common.{◌≡◌, ℕ, suc, ◌+◌, List, [], ◌∷◌, Bool, true, false, cond, if◌then◌else◌, nat_eq}
use Rattle.std.proofs.Common.{Some, None, slice_get, find, refl, sym, ap, ◌∙◌, subst, arith}
use Rattle.std.specs.List.{position_from}
use Rattle.std.specs.Str.{bytes_eq}
use Rattle.std.proofs.lemmas.Bool.{eqb-false}
use Rattle.js_doc.specs.Members.{get}
use Rattle.js_doc.specs.Value.{Value, Named}
use Rattle.js_doc.proofs.TokenLookup.{member_is}
use Rattle.js_bundle.specs.Keyword.{Text}

-- ---- the first that passes, and its number

pub record IsNumbered {A : Type 0} (f : A → Bool) (n : ℕ) (xs : List A) (k : ℕ) : Type 0 where
  pub index : ℕ
  pub is : k ≡ n + index
  pub element : A
  pub found : find f xs ≡ Some element
  pub stands : slice_get xs index ≡ Some element
  pub passes : f element ≡ true

numbered_by : {A : Type 0} (f : A → Bool) (n : ℕ) (x : A) (xs : List A) (k : ℕ) (b : Bool) → f x ≡ b
    → position_from f n (x ∷ xs) ≡ Some k
    → (position_from f (n + 1) xs ≡ Some k → IsNumbered f (n + 1) xs k) → IsNumbered f n (x ∷ xs) k
numbered_by f n x xs k true e h more =
    let same : Some n ≡ Some k = sym (ap (λ b. cond b (Some n) (position_from f (n + 1) xs)) e) ∙ h in
    let number : n ≡ k = cc in
    record {
      index = 0;
      is = omega (arith, number);
      element = x;
      found = ap (λ b. cond b (Some x) (find f xs)) e;
      stands = refl;
      passes = e;
    }
numbered_by f n x xs k false e h more =
    let m = more (sym (ap (λ b. cond b (Some n) (position_from f (n + 1) xs)) e) ∙ h) in
    record {
      index = suc m.index;
      is = omega (arith, m.is);
      element = m.element;
      found = ap (λ b. cond b (Some x) (find f xs)) e ∙ m.found;
      stands = m.stands;
      passes = m.passes;
    }

numbered_from : {A : Type 0} (f : A → Bool) (n : ℕ) (xs : List A) (k : ℕ)
    → position_from f n xs ≡ Some k → IsNumbered f n xs k
numbered_from f n [] k h = absurd (cc)
numbered_from f n (x ∷ xs) k h = numbered_by f n x xs k (f x) refl h (numbered_from f (n + 1) xs k)

pub number_finds : {A : Type 0} (f : A → Bool) (xs : List A) (n : ℕ) → position_from f 0 xs ≡ Some n
    → (x : A) × (find f xs ≡ Some x) × (slice_get xs n ≡ Some x)
number_finds f xs n h =
    let m = numbered_from f 0 xs n h in
    let number : m.index ≡ n = omega (arith, m.is) in
    (m.element, m.found, subst (λ i. slice_get xs i ≡ Some m.element) number m.stands)

-- the same, where the element of that number is known
pub number_finds_it : {A : Type 0} (f : A → Bool) (xs : List A) (n : ℕ) (x : A) → position_from f 0 xs ≡ Some n
    → slice_get xs n ≡ Some x → find f xs ≡ Some x
number_finds_it f xs n x h e = let r = number_finds f xs n h in r.1 ∙ sym r.2 ∙ e

-- it passes the test
pub number_passes : {A : Type 0} (f : A → Bool) (xs : List A) (n : ℕ) (x : A) → position_from f 0 xs ≡ Some n
    → slice_get xs n ≡ Some x → f x ≡ true
number_passes f xs n x h e =
    let m = numbered_from f 0 xs n h in
    let number : m.index ≡ n = omega (arith, m.is) in
    let same : Some m.element ≡ Some x = sym m.stands ∙ ap (slice_get xs) number ∙ e in
    let element : m.element ≡ x = cc in
    ap f (sym element) ∙ m.passes

none_by : {A : Type 0} (f : A → Bool) (n : ℕ) (x : A) (xs : List A) (b : Bool) → f x ≡ b → position_from f n (x ∷ xs)
    ≡ None → (position_from f (n + 1) xs ≡ None → find f xs ≡ None) → find f (x ∷ xs) ≡ None
none_by f n x xs true e h more = let some : Some n
    ≡ None = sym (ap (λ b. cond b (Some n) (position_from f (n + 1) xs)) e) ∙ h in absurd (cc)
none_by f n x xs false e h more = ap (λ b. cond b (Some x) (find f xs)) e
    ∙ more (sym (ap (λ b. cond b (Some n) (position_from f (n + 1) xs)) e) ∙ h)

pub no_number : {A : Type 0} (f : A → Bool) (n : ℕ) (xs : List A) → position_from f n xs ≡ None → find f xs ≡ None
no_number f n [] h = refl
no_number f n (x ∷ xs) h = none_by f n x xs (f x) refl h (no_number f (n + 1) xs)

equal_by : (n : ℕ) (b : Bool) → nat_eq n n ≡ b → nat_eq n n ≡ true
equal_by n true e = e
equal_by n false e = absurd (eqb-false n n e refl)

pub nat_eq-refl : (n : ℕ) → nat_eq n n ≡ true
nat_eq-refl n = equal_by n (nat_eq n n) refl

pub get_first : (k l : Text) (v : Value) (ms : Named)
    → get k ((l, v) ∷ ms) ≡ (if bytes_eq k l then Some v else get k ms)
get_first k l v ms = sym (member_is k ((l, v) ∷ ms)) ∙ ap (λ x. if bytes_eq k l then Some v else x) (member_is k ms)
