-- What `clap` reads of the words of each subcommand.
use Rattle.std.proofs.Common.{◌≡◌, ◌∙◌, ◌≤◌, ℕ, List, [], ◌∷◌, ◌++◌, length, Bool, true, false, nat_lt, Option, Some}
use Rattle.std.proofs.Common.{None, Result, Err, find, unwrap_or, option_map, if◌then◌else◌, bytes_eq, codes, refl}
use Rattle.std.proofs.Common.{sym, ap, ap₂, append_assoc, append-nil, fold, arith}
use Rattle.clap.specs.Lexer.{usize_max}
use Rattle.clap.specs.Walk.{Text, Row, Rule, Held, Walk, positional, value, arg_by_long, arg_by_short, arg_by_index}
use Rattle.clap.specs.Walk.{walk_from, nothing_held, settled, finished, rows_after, answers_to}
use Rattle.clap.specs.Simple.{Shape, built, label_of, filled, with_index}
use Rattle.clap.specs.Kinds.{Kinds, or_else, values_kinds}
use Rattle.clap.specs.Faults.{step_fault, settle_fault, defaults_fault, check_fault, level_fault, walk_fault}
use Rattle.clap.specs.declared.builder.value_parser.ValueParser.TheVariants as parser
use Rattle.clap.specs.declared.builder.value_parser.Reading.TheVariants.{AsWritten}
use Rattle.clap.specs.declared.parser.matches.ValueSource.TheVariants.{CommandLine}
use Rattle.clap.proofs.OnLiterals.{clap_on_literals}
use Rattle.js_command.specs.Grammar.{grammar, pairs_argument}
use Rattle.js_command.specs.Plain.{is_flag, dashes, plain_of}
use Rattle.js_command.specs.Words.{Request, asked_by, check_asked, suite_asked, places_asked}
use Rattle.js_command.specs.Found.{read_by}
use Rattle.js_command.specs.declared.words.Misuse.{Misuse}
use Rattle.js_command.specs.declared.words.Misuse.TheVariants as misuse
use Rattle.js_command.proofs.PlainWords.{IsFault}
use Rattle.js_command.proofs.Walking.{IsOpen, IsFixed, Reads, taken, taken_fault, reads, fixed_at, fault_before}

-- not more words than a slice may have
abbrev pub IsShort : List Text → Type 0
IsShort words = length words ≤ usize_max

-- those that stand for themselves are no more
abbrev Few : ℕ → Option (List Text) → Type 0
Few n None = Unit {0}
Few n (Some ps) = length ps ≤ n

few_by : (x : Text) (xs : List Text) (v u : Bool) (rest : Option (List Text)) → Few (length xs) rest
    → Few (length (x ∷ xs)) (if v then Some xs else (if u then None else option_map (λ ws. x ∷ ws) rest))
few_by x xs true u rest h = omega arith
few_by x xs false true rest h = tt
few_by x xs false false None h = tt
few_by x xs false false (Some ps) h = omega (arith, h)

few_of : (ws : List Text) → Few (length ws) (plain_of ws)
few_of [] = omega arith
few_of (x ∷ xs) = few_by x xs (bytes_eq x dashes) (is_flag x) (plain_of xs) (few_of xs)

-- a subcommand as it is built
abbrev pub level : Text → Shape
level name = unwrap_or (find (λ s. answers_to name (label_of s)) (built grammar).subs) (built grammar).top

-- it has no option, and what follows a positional begins with a hyphen only after `--`
record HasPositionals (name : Text) : Type 0 where
  long : (n : Text) → arg_by_long (level name).rules n ≡ None
  short : (x : ℕ) → arg_by_short (level name).rules x ≡ None
  fixed : (p : ℕ) → IsFixed (arg_by_index (level name).rules p)

pub read_fault : (ks : Kinds) (found : Option (Text × List Row)) → IsFault ks → read_by ks found ≡ Err misuse.OtherForm
read_fault [] found h = absurd h
read_fault (k ∷ ks) found h = refl

-- what is read of a level
abbrev pub level_read : Text → List Text → Result Request Misuse
level_read name ws = read_by (level_fault (level name) [] nothing_held ws false [])
    (Some (name, rows_after (level name).rules [] ws))

abbrev closing : Shape → Held → Kinds
closing s h = or_else (settle_fault s.rules s.args_override_self h)
    (or_else (defaults_fault (settled s.rules h).rows s.rules) (check_fault s (finished s.rules h) false))

abbrev start : Walk
start = walk_from nothing_held

start_open : IsOpen start
start_open = record { stopped = refl; ready = tt; skip = refl }

-- what is read where the words are held so
abbrev final : Text → Kinds → Held → Result Request Misuse
final name ks h = read_by (or_else ks (closing (level name) h)) (Some (name, finished (level name).rules h))

module _ (name : Text) (has : HasPositionals name) where
  abbrev walk_by : Walk → List Text → Walk
  walk_by w ps = fold (taken (level name) has.long has.short has.fixed) w ps

  abbrev fault_by : Walk → List Text → Kinds
  fault_by w ps = taken_fault (level name) has.long has.short has.fixed w ps

  -- what is read of the words after this walk
  abbrev read_after : Walk → List Text → Result Request Misuse
  read_after w ps = final name (fault_by w ps) (walk_by w ps).held

  module _ (form : List Text → Result Request Misuse) where
    -- of words that stand for themselves it is this form
    abbrev Says : Type 0
    Says = (ps : List Text) → IsShort ps → read_after start ps ≡ form ps

    level_by : (ws : List Text) (taking : Option (List Text))
        → Reads (level name) has.long has.short has.fixed start ws taking → Few (length ws) taking → IsShort ws → Says
        → level_read name ws ≡ asked_by form taking
    level_by ws None h fewer few says = read_fault (level_fault (level name) [] nothing_held ws false [])
        (Some (name, rows_after (level name).rules [] ws))
        (fault_before (walk_fault (level name) [] start ws) _ h)
    level_by ws (Some ps) h fewer few says = (λ i. final name (h.1 i) (h.0 i)) ∙ says ps (omega (arith, fewer, few))

    level_says : Says → (ws : List Text) → IsShort ws → level_read name ws ≡ asked_by form (plain_of ws)
    level_says says ws few = level_by ws (plain_of ws)
        (reads (level name) has.long has.short has.fixed start ws start_open refl) (few_of ws) few says

-- ---- the words that are left over

abbrev pairs_at : ℕ → Rule
pairs_at k = with_index k (filled pairs_argument)

abbrev so_far : List Row → ℕ → List Text → Walk
so_far rows k words = record {
  held = record { rows = rows; pending = Some (codes "PAIRS", words); skip = 0 };
  waiting = positional;
  position = k;
  is_trailing = false;
  stopped = None;
}

values_fine : (words : List Text) → values_kinds false parser.String words ≡ []
values_fine [] = refl
values_fine (w ∷ ws) = values_fine ws

-- one level, of which the positional k takes all words that are left
module _ (name : Text) (has : HasPositionals name) (rows : List Row) (k : ℕ)
    (here : arg_by_index (level name).rules k ≡ Some (pairs_at k)) where
  left_end : (words ps : List Text) → walk_by name has (so_far rows k words) ps ≡ so_far rows k (words ++ ps)
  left_end words [] = ap (so_far rows k) (sym (append-nil words))
  left_end words (x ∷ xs) =
      ap (λ u. walk_by name has u xs) (rw here refl)
      ∙ left_end (words ++ x ∷ []) xs ∙ ap (so_far rows k) (append_assoc words (x ∷ []) xs)

  left_fine : (words ps : List Text) → fault_by name has (so_far rows k words) ps ≡ []
  left_fine words [] = refl
  left_fine words (x ∷ xs) =
      let next : taken (level name) has.long has.short has.fixed (so_far rows k words) x
      ≡ so_far rows k (words ++ x ∷ []) = rw here refl in
      let turn : step_fault (level name) k (so_far rows k words).held value ≡ [] = rw here refl in
      ap₂ or_else turn (ap (λ u. fault_by name has u xs) next ∙ left_fine (words ++ x ∷ []) xs)

  left_read : (words ps : List Text)
      → read_after name has (so_far rows k words) ps ≡ final name [] (so_far rows k (words ++ ps)).held
  left_read words ps = ap₂ (final name) (left_fine words ps) (ap (λ u. u.held) (left_end words ps))

-- ---- the three subcommands

not_less : (n : ℕ) → nat_lt n 0 ≡ false
not_less n = grind arith

not_above : (n : ℕ) → n ≤ usize_max → nat_lt usize_max n ≡ false
not_above n h = grind arith

-- what was found for a positional
abbrev pub row : Text → Text → Row
row id word = record { id = id; values = word ∷ []; count = None; source = Some CommandLine; reading = AsWritten }

-- `places`

places_has : HasPositionals (codes "places")
places_has =
    record { long = λ n. refl; short = λ x. refl; fixed = λ p. fixed_at (level (codes "places")).rules p (refl, tt) }

places_says : Says (codes "places") places_has places_asked
unfolding clap_on_literals
places_says [] few = refl
places_says (p ∷ ps) few =
    left_read (codes "places") places_has [] 1 refl (p ∷ []) ps
    ∙ rw (not_less (length (p ∷ ps)), not_above (length (p ∷ ps)) (omega (arith, few)), values_fine (p ∷ ps)) refl

-- `suite`

suite_has : HasPositionals (codes "suite")
suite_has = record
    { long = λ n. refl; short = λ x. refl; fixed = λ p. fixed_at (level (codes "suite")).rules p (refl, (refl, tt)) }

suite_says : Says (codes "suite") suite_has suite_asked
unfolding clap_on_literals
suite_says [] few = refl
suite_says (file ∷ []) few = refl
suite_says (file ∷ p ∷ ps) few =
    left_read (codes "suite") suite_has (row (codes "SUITE") file ∷ []) 2 refl (p ∷ []) ps
    ∙ rw (not_less (length (p ∷ ps)), not_above (length (p ∷ ps)) (omega (arith, few)), values_fine (p ∷ ps)) refl

-- `check`

check_has : HasPositionals (codes "check")
check_has = record {
  long = λ n. refl;
  short = λ x. refl;
  fixed = λ p. fixed_at (level (codes "check")).rules p (refl, (refl, (refl, (refl, tt))));
}

check_says : Says (codes "check") check_has check_asked
unfolding clap_on_literals
check_says [] few = refl
check_says (format ∷ []) few = refl
check_says (format ∷ instance ∷ []) few = refl
check_says (format ∷ instance ∷ entry ∷ []) few = refl
check_says (format ∷ instance ∷ entry ∷ p ∷ ps) few =
    left_read (codes "check") check_has (row (codes "FORMAT") format ∷ row (codes "INSTANCE") instance
    ∷ row (codes "ENTRY") entry ∷ []) 4 refl (p ∷ []) ps
    ∙ rw (not_less (length (p ∷ ps)), not_above (length (p ∷ ps)) (omega (arith, few)), values_fine (p ∷ ps)) refl

-- ---- what each reads

pub check_read : (ws : List Text) → IsShort ws → level_read (codes "check") ws ≡ asked_by check_asked (plain_of ws)
check_read = level_says (codes "check") check_has check_asked check_says

pub suite_read : (ws : List Text) → IsShort ws → level_read (codes "suite") ws ≡ asked_by suite_asked (plain_of ws)
suite_read = level_says (codes "suite") suite_has suite_asked suite_says

pub places_read : (ws : List Text) → IsShort ws → level_read (codes "places") ws ≡ asked_by places_asked (plain_of ws)
places_read = level_says (codes "places") places_has places_asked places_says
