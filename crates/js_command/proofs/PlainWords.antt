-- What `clap` makes of one word, where no subcommand is named and no option is known.
use Rattle.std.proofs.Common.{◌≡◌, ◌∙◌, ℕ, List, [], ◌∷◌, Bool, true, false, ◌&&◌, Option, Some, None, ◌==◌, refl, sym}
use Rattle.std.proofs.Common.{ap, ap₂, subst, chars, bytes_eq, eqb-true, ◌⊎◌, inl, inr, true≢false}
use Rattle.clap.specs.Lexer.{long_of, short_of, name_and_value}
use Rattle.clap.specs.Walk.{Text, Rule, Held, Names, Waiting, idle, option, positional, value}
use Rattle.clap.specs.Walk.{arg_by_long, arg_by_short, subcommand_met, word_met, plain_word}
use Rattle.clap.specs.Simple.{Shape}
use Rattle.clap.specs.Kinds.{Kinds}
use Rattle.clap.specs.Faults.{word_fault}
use Rattle.clap.proofs.OnLiterals.{clap_on_literals}
use Rattle.js_command.specs.Plain.{is_flag, dashes, has_more}

-- ---- words

-- a text that begins with a hyphen has a character
hyphen_has : (bs : Text) → has_more (chars (45 ∷ bs)) ≡ true
unfolding clap_on_literals
hyphen_has [] = refl
hyphen_has (b ∷ bs) = refl

none_has : has_more (chars []) ≡ false
unfolding clap_on_literals
none_has = refl

-- what follows a hyphen, where the word is no flag: nothing, or no character
short_rest : (x : ℕ) (xs : Text) (v : Bool) → (x == 45) ≡ v → has_more (chars (x ∷ xs)) ≡ false → v ≡ false
short_rest x xs false is none = refl
short_rest x xs true is none =
    sym (subst (λ b. has_more (chars (b ∷ xs)) ≡ true) (sym (eqb-true x 45 is)) (hyphen_has xs)) ∙ none

abbrev pub at_word : Bool → Text → Bool → Type 0
at_word v bs is = (v && has_more (chars bs)) ≡ is

no_long : (word : Text) → is_flag word ≡ false → long_of word ≡ None
no_long [] h = refl
no_long (b ∷ bs) h = after b bs (b == 45) refl h
  where
    after : (b : ℕ) (bs : Text) (v : Bool) → (b == 45) ≡ v → ((b == 45) && has_more (chars bs)) ≡ false
        → long_of (b ∷ bs) ≡ None
    after b bs false is h = rw is refl
    after b [] true is h = rw is refl
    after b (x ∷ xs) true is h =
        let none : has_more (chars (x ∷ xs)) ≡ false = subst (λ v. at_word v (x ∷ xs) false) is h in
        rw (is, short_rest x xs (x == 45) refl none) refl

some_is : (l : List ℕ) → has_more l ≡ true → (y : ℕ) × (ys : List ℕ) × (l ≡ y ∷ ys)
some_is [] h = absurd (true≢false (sym h))
some_is (y ∷ ys) h = (y, ys, refl)

none_is : (l : List ℕ) → has_more l ≡ false → l ≡ []
none_is [] h = refl
none_is (y ∷ ys) h = absurd (true≢false h)

-- a word that is no flag has no short flags, or none that is a character
abbrev pub HasNoShort : Text → Type 0
HasNoShort word = (short_of word ≡ None)
    ⊎ ((x : ℕ) × (xs : Text) × (short_of word ≡ Some (x ∷ xs)) × (chars (x ∷ xs) ≡ []))

no_short : (word : Text) → is_flag word ≡ false → HasNoShort word
no_short [] h = inl refl
no_short (b ∷ bs) h = after b bs (b == 45) refl h
  where
    after : (b : ℕ) (bs : Text) (v : Bool) → (b == 45) ≡ v
        → ((b == 45) && has_more (chars bs)) ≡ false → HasNoShort (b ∷ bs)
    after b bs false is h = inl (rw is refl)
    after b [] true is h = inl (rw is refl)
    after b (x ∷ xs) true is h =
        let none : has_more (chars (x ∷ xs)) ≡ false = subst (λ v. at_word v (x ∷ xs) false) is h in
        inr (x, xs, rw (is, short_rest x xs (x == 45) refl none) refl, none_is _ none)

-- a flag is a long one, or a short one that is a character
abbrev pub IsLongOrShort : Text → Type 0
IsLongOrShort word = ((p : Text × Option Text) × (long_of word ≡ Some p))
    ⊎ ((x : ℕ) × (xs : Text) × (y : ℕ) × (ys : Text) × (long_of word ≡ None) × (short_of word ≡ Some (x ∷ xs))
    × (chars (x ∷ xs) ≡ y ∷ ys))

long_or_short : (word : Text) → is_flag word ≡ true → bytes_eq word dashes ≡ false → IsLongOrShort word
long_or_short [] is other = absurd (true≢false (sym is))
long_or_short (b ∷ bs) is other = after b bs (b == 45) refl is other
  where
    doubled : (b x : ℕ) (xs : Text) (v : Bool) → (b == 45) ≡ true → (x == 45) ≡ v → bytes_eq (b ∷ x ∷ xs) dashes ≡ false
        → has_more (chars (x ∷ xs)) ≡ true → IsLongOrShort (b ∷ x ∷ xs)
    doubled b x [] true e f other some = absurd (true≢false (sym (ap₂ (λ v w. v && (w && true)) e f) ∙ other))
    doubled b x (y ∷ ys) true e f other some = inl (name_and_value (y ∷ ys), rw (e, f) refl)
    doubled b x xs false e f other some = let first = some_is _ some in
        inr (x, xs, first.0, first.1, rw (e, f) refl, rw (e, f) refl, first.2)

    after : (b : ℕ) (bs : Text) (v : Bool) → (b == 45) ≡ v → ((b == 45) && has_more (chars bs)) ≡ true
        → bytes_eq (b ∷ bs) dashes ≡ false → IsLongOrShort (b ∷ bs)
    after b bs false e is other = absurd (true≢false (sym is ∙ ap (λ v. v && has_more (chars bs)) e))
    after b [] true e is other = absurd (true≢false (sym (subst (λ v. at_word v [] true) e is) ∙ none_has))
    after b (x ∷ xs) true e is other = doubled b x xs (x == 45) e refl other (subst (λ v. at_word v (x ∷ xs) true) e is)

-- ---- what they are to a command without options

-- no option waits for a value
abbrev pub IsReady : Waiting → Type 0
IsReady idle = Unit {0}
IsReady (option id) = ⊥
IsReady positional = Unit {0}

abbrev pub IsFault : Kinds → Type 0
IsFault [] = ⊥
IsFault (k ∷ ks) = Unit {0}

is_value : (c : List Rule) (waiting : Waiting) (word : Text) (h : Held) → IsReady waiting
    → plain_word c waiting word h ≡ (h, value)
is_value c idle word h ready = refl
is_value c (option id) word h ready = absurd ready
is_value c positional word h ready = refl

module _ (s : Shape) (names : Names) (long : (name : Text) → arg_by_long s.rules name ≡ None) (short : (x : ℕ)
    → arg_by_short s.rules x ≡ None) where
  pub plain_met : (waiting : Waiting) (p : ℕ) (word : Text) (h : Held) → IsReady waiting → h.skip ≡ 0
      → subcommand_met names waiting word ≡ None
      → bytes_eq word dashes ≡ false → is_flag word ≡ false → word_met s.rules names false waiting p word h ≡ (h, value)
  unfolding clap_on_literals
  plain_met waiting p word h ready skip unnamed other is =
      let no : long_of word ≡ None = no_long word is in
      elim (no_short word is) [
        | inl e ↦ rw (unnamed, other, no, e) (is_value s.rules waiting word h ready)
        | inr e ↦ rw (unnamed, other, no, e.2, e.3) (is_value s.rules waiting word (record h { skip = 0 }) ready
            ∙ (λ i. (record h { skip = sym skip i }, value)))
      ]

  pub flag_faults : (waiting : Waiting) (word : Text) (h : Held) → h.skip ≡ 0 → subcommand_met names waiting word ≡ None
      → bytes_eq word dashes ≡ false → is_flag word ≡ true → IsFault (word_fault s names false waiting word h)
  unfolding clap_on_literals
  flag_faults waiting word h skip unnamed other is = elim (long_or_short word is other) [
    | inl e ↦ rw (unnamed, other, e.1, long e.0.0) tt
    | inr e ↦ rw (unnamed, other, e.4, e.5, e.6, skip, short e.2) tt
  ]

  pub plain_faults : (waiting : Waiting) (word : Text) (h : Held) → IsReady waiting → h.skip ≡ 0
      → subcommand_met names waiting word ≡ None
      → is_flag word ≡ false → (v : Bool) → bytes_eq word dashes ≡ v → word_fault s names false waiting word h ≡ []
  unfolding clap_on_literals
  plain_faults waiting word h ready skip unnamed is true dashed = rw (unnamed, dashed) refl
  plain_faults waiting word h ready skip unnamed is false dashed =
      let no : long_of word ≡ None = no_long word is in
      elim (no_short word is) [
        | inl e ↦ rw (unnamed, dashed, no, e) refl
        | inr e ↦ rw (unnamed, dashed, no, e.2, e.3) refl
      ]
