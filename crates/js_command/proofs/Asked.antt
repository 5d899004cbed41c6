-- What `clap` reads of all words.
use Rattle.std.proofs.Common.{◌≡◌, ◌∙◌, ℕ, List, [], ◌∷◌, ◌++◌, Bool, true, false, is_some, Option, Some, None, Result}
use Rattle.std.proofs.Common.{Err, codes, bytes_eq, refl, sym, ap, ap₂, subst, subst₂, append_assoc, append-nil, fold}
use Rattle.std.proofs.Common.{if◌then◌else◌, length, ◌<◌, ◌⊎◌, inl, inr, arith, Bor}
use Rattle.std.proofs.lemmas.List.{length-map}
use Rattle.clap.specs.Walk.{Text, Names, Row, Held, Walk, idle, arg_by_long, arg_by_short, walk_from}
use Rattle.clap.specs.Walk.{walked, nothing_held, subcommand_met, word_met, Step, value}
use Rattle.clap.specs.Simple.{App, built, names_of, entered, subcommand_of}
use Rattle.clap.specs.Kinds.{Kinds, or_else}
use Rattle.clap.specs.Faults.{walk_fault, entered_fault, level_fault, fault_of, settle_fault}
use Rattle.clap.specs.Faults.{defaults_fault, check_fault, turn_fault, word_fault, step_fault}
use Rattle.clap.specs.Walk.{settled, finished}
use Rattle.clap.proofs.OnLiterals.{clap_on_literals}
use Rattle.js_command.specs.Grammar.{grammar}
use Rattle.js_command.specs.Plain.{is_flag, dashes, plain_of}
use Rattle.js_command.specs.Words.{Request, asked_by, check_asked, suite_asked, places_asked, request_of, words_of}
use Rattle.js_command.specs.code.Tasks.{IsMisuse}
use Rattle.js_command.specs.Found.{read_by, misuse_of}
use Rattle.js_command.specs.Found.{entered as found_request}
use Rattle.clap.specs.Kinds.{IsAmong}
use Rattle.clap.specs.declared.error.kind.ErrorKind.{ErrorKind}
use Rattle.clap.specs.declared.error.kind.ErrorKind.TheVariants as kind
use Rattle.js_command.specs.declared.words.Misuse.{Misuse}
use Rattle.js_command.specs.declared.words.Misuse.TheVariants as misuse
use Rattle.js_command.proofs.PlainWords.{IsFault, plain_met, flag_faults}
use Rattle.js_command.proofs.Walking.{fault_before, fault_after}
use Rattle.js_command.proofs.Levels.{IsShort, level, read_fault, check_read, suite_read, places_read}

abbrev all : App
all = built grammar

abbrev names : Names
names = names_of all

abbrev start : Walk
start = walk_from nothing_held

-- ---- the words after a subcommand's name

abbrev met : Text → List Text → Walk
met name words = record start { stopped = Some (name, words) }

met_end : (name : Text) (seen ws : List Text)
    → fold (walked all.top.rules names) (met name seen) ws ≡ met name (seen ++ ws)
unfolding clap_on_literals
met_end name seen [] = ap (met name) (sym (append-nil seen))
met_end name seen (x ∷ xs) = met_end name (seen ++ x ∷ []) xs ∙ ap (met name) (append_assoc seen (x ∷ []) xs)

met_fine : (name : Text) (seen ws : List Text) → walk_fault all.top names (met name seen) ws ≡ []
unfolding clap_on_literals
met_fine name seen [] = refl
met_fine name seen (x ∷ xs) = met_fine name (seen ++ x ∷ []) xs

-- what is read, by where the walk ends and what is wrong on it
abbrev read_at : Walk → Kinds → Result Request Misuse
read_at w wrong = read_by (or_else wrong
    (or_else (entered_fault all w.stopped) (or_else (settle_fault all.top.rules all.top.args_override_self w.held)
    (or_else (defaults_fault (settled all.top.rules w.held).rows all.top.rules)
    (check_fault all.top (finished all.top.rules w.held) (is_some (entered all w.stopped)))))))
    (entered all w.stopped)

abbrev read : List Text → Result Request Misuse
read words = read_by (fault_of grammar words) (subcommand_of grammar words)

read_is : (words : List Text)
    → read words ≡ read_at (fold (walked all.top.rules names) start words) (walk_fault all.top names start words)
read_is words = refl

pub or_none : (ks : Kinds) → or_else ks [] ≡ ks
or_none [] = refl
or_none (k ∷ ks) = refl

check_named : (w : Text) (ws : List Text) → bytes_eq (codes "check") w ≡ true → IsShort ws
    → read (w ∷ ws) ≡ asked_by check_asked (plain_of ws)
unfolding clap_on_literals
check_named w ws e few =
    let next : walked all.top.rules names start w ≡ met (codes "check") [] = rw e refl in
    let turn : turn_fault all.top names start w ≡ [] = rw e refl in
    ap₂ read_at (ap (λ u. fold (walked all.top.rules names) u ws) next ∙ met_end (codes "check") [] ws)
    (ap₂ or_else turn (ap (λ u. walk_fault all.top names u ws) next ∙ met_fine (codes "check") [] ws))
    ∙ ap (λ ks. read_by ks (entered all (Some (codes "check", ws))))
    (or_none (level_fault (level (codes "check")) [] nothing_held ws false [])) ∙ check_read ws few

suite_named : (w : Text) (ws : List Text) → bytes_eq (codes "check") w ≡ false → bytes_eq (codes "suite") w ≡ true
    → IsShort ws → read (w ∷ ws) ≡ asked_by suite_asked (plain_of ws)
unfolding clap_on_literals
suite_named w ws e f few =
    let next : walked all.top.rules names start w ≡ met (codes "suite") [] = rw (e, f) refl in
    let turn : turn_fault all.top names start w ≡ [] = rw (e, f) refl in
    ap₂ read_at (ap (λ u. fold (walked all.top.rules names) u ws) next ∙ met_end (codes "suite") [] ws)
    (ap₂ or_else turn (ap (λ u. walk_fault all.top names u ws) next ∙ met_fine (codes "suite") [] ws))
    ∙ ap (λ ks. read_by ks (entered all (Some (codes "suite", ws))))
    (or_none (level_fault (level (codes "suite")) [] nothing_held ws false [])) ∙ suite_read ws few

places_named : (w : Text) (ws : List Text) → bytes_eq (codes "check") w ≡ false → bytes_eq (codes "suite") w ≡ false
    → bytes_eq (codes "places") w ≡ true → IsShort ws → read (w ∷ ws) ≡ asked_by places_asked (plain_of ws)
unfolding clap_on_literals
places_named w ws e f g few =
    let next : walked all.top.rules names start w ≡ met (codes "places") [] = rw (e, f, g) refl in
    let turn : turn_fault all.top names start w ≡ [] = rw (e, f, g) refl in
    ap₂ read_at (ap (λ u. fold (walked all.top.rules names) u ws) next ∙ met_end (codes "places") [] ws)
    (ap₂ or_else turn (ap (λ u. walk_fault all.top names u ws) next ∙ met_fine (codes "places") [] ws))
    ∙ ap (λ ks. read_by ks (entered all (Some (codes "places", ws))))
    (or_none (level_fault (level (codes "places")) [] nothing_held ws false []))
    ∙ places_read ws few

-- ---- other words

-- the first word names no subcommand
abbrev IsUnnamed : Text → Type 0
IsUnnamed w = (bytes_eq (codes "check") w ≡ false) × (bytes_eq (codes "suite") w ≡ false)
    × (bytes_eq (codes "places") w ≡ false)

unnamed : (w : Text) → IsUnnamed w → subcommand_met names idle w ≡ None
unnamed w h = rw (h.0, h.1, h.2) refl

any_long : (n : Text) → arg_by_long all.top.rules n ≡ None
any_long n = refl

any_short : (x : ℕ) → arg_by_short all.top.rules x ≡ None
any_short x = refl

-- what is wrong, by where the walk ends and what is wrong on it
abbrev fault_at : Walk → Kinds → Kinds
fault_at w wrong = or_else wrong
    (or_else (entered_fault all w.stopped) (or_else (settle_fault all.top.rules all.top.args_override_self w.held)
    (or_else (defaults_fault (settled all.top.rules w.held).rows all.top.rules)
    (check_fault all.top (finished all.top.rules w.held) (is_some (entered all w.stopped))))))

at_once : (w : Text) (ws : List Text) → IsFault (turn_fault all.top names start w) → IsFault (fault_of grammar (w ∷ ws))
unfolding clap_on_literals
at_once w ws h =
    let after = fold (walked all.top.rules names) start (w ∷ ws) in
    let wrong : IsFault (walk_fault all.top names start (w ∷ ws)) = fault_before (turn_fault all.top names start w)
    (walk_fault all.top names (walked all.top.rules names start w) ws) h in
    fault_before (walk_fault all.top names start (w ∷ ws)) (fault_at after []) wrong

-- behind `--` nothing may stand, and no subcommand does
dashes_fault : (w : Text) (ws : List Text) → IsUnnamed w → bytes_eq w dashes ≡ true
    → IsFault (fault_of grammar (w ∷ ws))
unfolding clap_on_literals
dashes_fault w ws h e =
    let next : walked all.top.rules names start w ≡ record start { is_trailing = true } = rw (unnamed w h, e) refl in
    let turn : turn_fault all.top names start w ≡ [] = rw (unnamed w h, e) refl in
    subst₂ (λ u ks. IsFault (fault_at (fold (walked all.top.rules names) u ws)
    (or_else ks (walk_fault all.top names u ws)))) (sym next) (sym turn) (behind ws)
  where
    behind : (ws : List Text) → IsFault (fault_at (fold (walked all.top.rules names)
        (record start { is_trailing = true }) ws) (walk_fault all.top names (record start { is_trailing = true }) ws))
    behind [] = tt
    behind (x ∷ xs) = tt

unnamed_fault : (w : Text) (ws : List Text) (v u : Bool) → IsUnnamed w → bytes_eq w dashes ≡ v → is_flag w ≡ u
    → IsFault (fault_of grammar (w ∷ ws))
unnamed_fault w ws true u h e f = dashes_fault w ws h e
unnamed_fault w ws false true h e f =
    let met = word_met all.top.rules names false idle 1 w nothing_held in
    at_once w ws (fault_before (word_fault all.top names false idle w nothing_held) (step_fault all.top 1 met.0 met.1)
    (flag_faults all.top names any_long any_short idle w nothing_held refl (unnamed w h) e f))
unnamed_fault w ws false false h e f =
    let met = word_met all.top.rules names false idle 1 w nothing_held in
    let is : met ≡ (nothing_held, value) =
    plain_met all.top names any_long any_short idle 1 w nothing_held tt refl (unnamed w h) e f in
    at_once w ws (fault_after (word_fault all.top names false idle w nothing_held) (step_fault all.top 1 met.0 met.1)
    (subst (λ (m : Held × Step). IsFault (step_fault all.top 1 m.0 m.1)) (sym is) tt))

-- ---- the law

named : (w : Text) (ws : List Text) (a b c : Bool) → bytes_eq (codes "check") w ≡ a → bytes_eq (codes "suite") w ≡ b
    → bytes_eq (codes "places") w ≡ c → IsShort ws
    → read (w ∷ ws) ≡ (if a then asked_by check_asked (plain_of ws) else (if b then asked_by suite_asked (plain_of ws)
    else (if c then asked_by places_asked (plain_of ws) else Err misuse.OtherForm)))
named w ws true b c e f g few = check_named w ws e few
named w ws false true c e f g few = suite_named w ws e f few
named w ws false false true e f g few = places_named w ws e f g few
named w ws false false false e f g few = read_fault (fault_of grammar (w ∷ ws)) (subcommand_of grammar (w ∷ ws))
    (unnamed_fault w ws (bytes_eq w dashes) (is_flag w) (e, f, g) refl refl)

-- what `clap` reads is what the words ask for
pub reads_request : (w : Text) (ws : List Text) → IsShort ws
    → read_by (fault_of grammar (w ∷ ws)) (subcommand_of grammar (w ∷ ws)) ≡ request_of (w ∷ ws)
reads_request w ws few = named w ws (bytes_eq (codes "check") w) (bytes_eq (codes "suite") w)
    (bytes_eq (codes "places") w) refl refl refl few

-- ---- what that says of a parse

pub lent_length : (words : List (Bor Text)) → length (words_of words) ≡ length words
lent_length words = length-map words (λ w. w.now)

pub found_asks : (words : List Text) (found : Option (Text × List Row)) → 0 < length words → IsShort words
    → fault_of grammar words ≡ [] → found ≡ subcommand_of grammar words
    → found_request found ≡ request_of words
found_asks [] found some few clear is = absurd (omega (arith, some))
found_asks (w ∷ ws) found some few clear is =
    ap found_request is ∙ ap (λ ks. read_by ks (subcommand_of grammar (w ∷ ws))) (sym clear)
    ∙ reads_request w ws (omega (arith, few))

among_faults : (k : ErrorKind) (ks : Kinds) → IsAmong k ks → IsFault ks
among_faults k [] h = absurd h
among_faults k (x ∷ xs) h = tt

is_misuse : (asked : Result Request Misuse) (k : ErrorKind) → asked ≡ Err misuse.OtherForm
    → IsMisuse asked (misuse_of k)
is_misuse asked kind.OutOfMemory e = tt
is_misuse asked _ e = e

pub refused_asks : (words : List Text) (k : ErrorKind) → 0 < length words → IsShort words
    → (k ≡ kind.OutOfMemory) ⊎ IsAmong k (fault_of grammar words)
    → IsMisuse (request_of words) (misuse_of k)
refused_asks [] k some few h = absurd (omega (arith, some))
refused_asks (w ∷ ws) k some few (inl is) = subst (λ j. IsMisuse (request_of (w ∷ ws)) (misuse_of j)) (sym is) tt
refused_asks (w ∷ ws) k some few (inr among) = is_misuse (request_of (w ∷ ws)) k
    (sym (reads_request w ws (omega (arith, few))) ∙ read_fault (fault_of grammar (w ∷ ws))
    (subcommand_of grammar (w ∷ ws)) (among_faults k (fault_of grammar (w ∷ ws)) among))
