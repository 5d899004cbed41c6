-- How `clap` walks over the words of a command that has positionals alone.
use Rattle.std.proofs.Common.{◌≡◌, ◌∙◌, ℕ, List, [], ◌∷◌, Bool, true, false, ◌&&◌, ◌||◌, is_some, Option, Some, None}
use Rattle.std.proofs.Common.{option_map, ◌==◌, if◌then◌else◌, refl, sym, ap, ap₂, subst, bytes_eq, fold}
use Rattle.clap.specs.Walk.{Text, Rule, Held, Waiting, Walk, idle, option, positional, value, arg_by_long}
use Rattle.clap.specs.Walk.{arg_by_short, arg_by_index, word_met, walked, walked_from, after_step, to_positional}
use Rattle.clap.specs.Walk.{settled, subcommand_met, is_pending, takes_several, is_multiple}
use Rattle.std.specs.Option.{option_map_or}
use Rattle.clap.specs.Simple.{Shape}
use Rattle.clap.specs.Kinds.{Kinds, or_else}
use Rattle.clap.specs.Faults.{turn_fault, step_fault, word_fault, walk_fault}
use Rattle.clap.proofs.OnLiterals.{clap_on_literals}
use Rattle.js_command.specs.Plain.{is_flag, dashes, plain_of}
use Rattle.js_command.proofs.PlainWords.{IsReady, IsFault, plain_met, plain_faults, flag_faults}

-- no subcommand was met, and no option waits for a value
pub record IsOpen (w : Walk) : Type 0 where
  pub stopped : w.stopped ≡ None
  pub ready : IsReady w.waiting
  pub skip : w.held.skip ≡ 0

-- what follows the argument may begin with a hyphen only after `--`
abbrev pub IsFixed : Option Rule → Type 0
IsFixed None = Unit {0}
IsFixed (Some a) = a.trailing_var_arg ≡ false

-- the words that follow stand for themselves
abbrev pub after_dashes : Walk → Walk
after_dashes w = record w { is_trailing = true }

pub fault_before : (a b : Kinds) → IsFault a → IsFault (or_else a b)
fault_before [] b h = absurd h
fault_before (k ∷ ks) b h = tt

pub fault_after : (a b : Kinds) → IsFault b → IsFault (or_else a b)
fault_after [] b h = h
fault_after (k ∷ ks) b h = tt

multiple_ready : (v : Bool) → IsReady (if v then positional else idle)
multiple_ready true = tt
multiple_ready false = tt

module _ (s : Shape) (long : (name : Text) → arg_by_long s.rules name ≡ None) (short : (x : ℕ)
    → arg_by_short s.rules x ≡ None)
    (fixed : (p : ℕ) → IsFixed (arg_by_index s.rules p)) where
  -- the word goes to the next positional
  abbrev pub taken : Walk → Text → Walk
  taken w word = to_positional s.rules (arg_by_index s.rules w.position) word w w.held

  abbrev pub taken_fault : Walk → List Text → Kinds
  taken_fault w [] = []
  taken_fault w (x ∷ xs) = or_else (step_fault s w.position w.held value) (taken_fault (taken w x) xs)

  open_by : (w : Walk) (word : Text) (o : Option Rule) → IsOpen w → IsOpen (to_positional s.rules o word w w.held)
  open_by w word None o = record { stopped = o.stopped; ready = o.ready; skip = o.skip }
  open_by w word (Some a) o = record {
    stopped = refl;
    ready = multiple_ready (is_multiple a);
    skip = skip_of (is_pending a w.held.pending && takes_several a) w.held o.skip;
  }
    where
      skip_of : (v : Bool) (h : Held) → h.skip ≡ 0 → (if v then h else settled s.rules h).skip ≡ 0
      skip_of true h e = e
      skip_of false h e = e

  pub taken_open : (w : Walk) (word : Text) → IsOpen w → IsOpen (taken w word)
  taken_open w word o = open_by w word (arg_by_index s.rules w.position) o

  trailing_by : (w : Walk) (word : Text) (o : Option Rule) → IsFixed o
      → (to_positional s.rules o word w w.held).is_trailing ≡ w.is_trailing
  trailing_by w word None f = refl
  trailing_by w word (Some a) f = ap (λ v. w.is_trailing || v) f ∙ or_false w.is_trailing
    where
      or_false : (v : Bool) → (v || false) ≡ v
      or_false true = refl
      or_false false = refl

  pub taken_trailing : (w : Walk) (word : Text) → (taken w word).is_trailing ≡ w.is_trailing
  taken_trailing w word = trailing_by w word (arg_by_index s.rules w.position) (fixed w.position)

  -- nothing but the place of the hyphens is changed by `--`
  dashed_by : (w : Walk) (word : Text) (o : Option Rule)
      → to_positional s.rules o word (after_dashes w) w.held ≡ after_dashes (to_positional s.rules o word w w.held)
  dashed_by w word None = refl
  dashed_by w word (Some a) = refl

  dashed_ends : (w : Walk) (ws : List Text) → (fold taken (after_dashes w) ws).held ≡ (fold taken w ws).held
  dashed_ends w [] = refl
  dashed_ends w (x ∷ xs) = ap (λ u. (fold taken u xs).held) (dashed_by w x (arg_by_index s.rules w.position))
      ∙ dashed_ends (taken w x) xs

  dashed_faults : (w : Walk) (ws : List Text) → taken_fault (after_dashes w) ws ≡ taken_fault w ws
  dashed_faults w [] = refl
  dashed_faults w (x ∷ xs) = ap (or_else (step_fault s w.position w.held value))
      (ap (λ u. taken_fault u xs) (dashed_by w x (arg_by_index s.rules w.position)) ∙ dashed_faults (taken w x) xs)

  -- ---- a word that goes to a positional

  IsValue : Walk → Text → Type 0
  IsValue w word = (word_met s.rules [] w.is_trailing w.waiting w.position word w.held ≡ (w.held, value))
      × (word_fault s [] w.is_trailing w.waiting word w.held ≡ [])

  taken_next : (w : Walk) (word : Text) → IsOpen w → word_met s.rules [] w.is_trailing w.waiting w.position word w.held
      ≡ (w.held, value) → walked s.rules [] w word ≡ taken w word
  unfolding clap_on_literals
  taken_next w word o met = ap (λ stop. walked_from s.rules [] stop w word) o.stopped
      ∙ ap (λ m. after_step s.rules word w m.0 m.1) met

  taken_turn : (w : Walk) (word : Text) → IsOpen w
      → word_met s.rules [] w.is_trailing w.waiting w.position word w.held ≡ (w.held, value)
      → word_fault s [] w.is_trailing w.waiting word w.held ≡ []
      → turn_fault s [] w word ≡ step_fault s w.position w.held value
  taken_turn w word o met clear =
      ap (λ v. if v then [] else or_else (word_fault s [] w.is_trailing w.waiting word w.held)
      (step_fault s w.position (word_met s.rules [] w.is_trailing w.waiting w.position word w.held).0
      (word_met s.rules [] w.is_trailing w.waiting w.position word w.held).1)) (ap is_some o.stopped)
      ∙ ap₂ (λ ks m. or_else ks (step_fault s w.position m.0 m.1)) clear met

  -- ---- all words after `--`

  pub rest_ends : (w : Walk) (ws : List Text) → IsOpen w → w.is_trailing ≡ true
      → fold (walked s.rules []) w ws ≡ fold taken w ws
  rest_ends w [] o t = refl
  rest_ends w (x ∷ xs) o t =
      let met : word_met s.rules [] w.is_trailing w.waiting w.position x w.held ≡ (w.held, value) = rw t refl in
      ap (λ u. fold (walked s.rules []) u xs) (taken_next w x o met)
      ∙ rest_ends (taken w x) xs (taken_open w x o) (taken_trailing w x ∙ t)

  pub rest_faults : (w : Walk) (ws : List Text) → IsOpen w → w.is_trailing ≡ true
      → walk_fault s [] w ws ≡ taken_fault w ws
  unfolding clap_on_literals
  rest_faults w [] o t = refl
  rest_faults w (x ∷ xs) o t =
      let met : word_met s.rules [] w.is_trailing w.waiting w.position x w.held ≡ (w.held, value) = rw t refl in
      let clear : word_fault s [] w.is_trailing w.waiting x w.held ≡ [] = rw t refl in
      ap₂ or_else (taken_turn w x o met clear) (ap (λ u. walk_fault s [] u xs) (taken_next w x o met)
      ∙ rest_faults (taken w x) xs (taken_open w x o) (taken_trailing w x ∙ t))

  -- ---- the words of a command

  -- where no flag stands before `--`, the words without it go to the positionals one after another; else there is a
  -- fault
  abbrev pub Reads : Walk → List Text → Option (List Text) → Type 0
  Reads w ws None = IsFault (walk_fault s [] w ws)
  Reads w ws (Some taking) = ((fold (walked s.rules []) w ws).held ≡ (fold taken w taking).held)
      × (walk_fault s [] w ws ≡ taken_fault w taking)

  unnamed : (waiting : Waiting) (word : Text) → IsReady waiting → subcommand_met [] waiting word ≡ None
  unnamed idle word r = refl
  unnamed (option id) word r = absurd r
  unnamed positional word r = refl

  -- past the first word, by what it is
  reads_dashes : (w : Walk) (x : Text) (xs : List Text) → IsOpen w → w.is_trailing ≡ false → bytes_eq x dashes ≡ true
      → Reads w (x ∷ xs) (Some xs)
  unfolding clap_on_literals
  reads_dashes w x xs o t is =
      let no = unnamed w.waiting x o.ready in
      let next : walked s.rules [] w x ≡ after_dashes w = ap (λ stop. walked_from s.rules [] stop w x) o.stopped
      ∙ rw (t, no, is) refl in
      let clear : turn_fault s [] w x ≡ [] = rw (o.stopped, t, no, is) refl in
      let open_after : IsOpen (after_dashes w) = record { stopped = o.stopped; ready = o.ready; skip = o.skip } in (
        ap (λ u. (fold (walked s.rules []) u xs).held) next
            ∙ ap (λ u. u.held) (rest_ends (after_dashes w) xs open_after refl) ∙ dashed_ends w xs,
        ap₂ or_else clear (ap (λ u. walk_fault s [] u xs) next
            ∙ rest_faults (after_dashes w) xs open_after refl ∙ dashed_faults w xs),
      )

  reads_flag : (w : Walk) (x : Text) (xs : List Text) → IsOpen w → w.is_trailing ≡ false → bytes_eq x dashes ≡ false
      → is_flag x ≡ true → Reads w (x ∷ xs) None
  unfolding clap_on_literals
  reads_flag w x xs o t other is =
      let met = word_met s.rules [] w.is_trailing w.waiting w.position x w.held in
      let flagged : IsFault (word_fault s [] w.is_trailing w.waiting x w.held) =
      rw t (flag_faults s [] long short w.waiting x w.held o.skip (unnamed w.waiting x o.ready) other is) in
      let turn : IsFault (turn_fault s [] w x) =
      subst (λ v. IsFault (if v then [] else or_else (word_fault s [] w.is_trailing w.waiting x w.held)
      (step_fault s w.position met.0 met.1))) (sym (ap is_some o.stopped))
      (fault_before (word_fault s [] w.is_trailing w.waiting x w.held) (step_fault s w.position met.0 met.1) flagged) in
      fault_before (turn_fault s [] w x) (walk_fault s [] (walked s.rules [] w x) xs) turn

  plain_is_value : (w : Walk) (x : Text) → IsOpen w → w.is_trailing ≡ false
      → bytes_eq x dashes ≡ false → is_flag x ≡ false
      → word_met s.rules [] w.is_trailing w.waiting w.position x w.held ≡ (w.held, value)
  plain_is_value w x o t other is = rw t
      (plain_met s [] long short w.waiting w.position x w.held o.ready o.skip (unnamed w.waiting x o.ready) other is)

  plain_is_clear : (w : Walk) (x : Text) → IsOpen w → w.is_trailing ≡ false
      → bytes_eq x dashes ≡ false → is_flag x ≡ false
      → word_fault s [] w.is_trailing w.waiting x w.held ≡ []
  plain_is_clear w x o t other is =
      rw t (plain_faults s [] long short w.waiting x w.held o.ready o.skip (unnamed w.waiting x o.ready) is false other)

  reads_plain : (w : Walk) (x : Text) (xs : List Text) (rest : Option (List Text)) → IsOpen w → w.is_trailing ≡ false
      → bytes_eq x dashes ≡ false → is_flag x ≡ false
      → Reads (taken w x) xs rest → Reads w (x ∷ xs) (option_map (λ ws. x ∷ ws) rest)
  unfolding clap_on_literals
  reads_plain w x xs None o t other is h =
      let next = taken_next w x o (plain_is_value w x o t other is) in
      fault_after (turn_fault s [] w x) (walk_fault s [] (walked s.rules [] w x) xs)
      (subst (λ u. IsFault (walk_fault s [] u xs)) (sym next) h)
  reads_plain w x xs (Some ws) o t other is h =
      let met = plain_is_value w x o t other is in
      let next = taken_next w x o met in (
        ap (λ u. (fold (walked s.rules []) u xs).held) next ∙ h.0,
        ap₂ or_else (taken_turn w x o met (plain_is_clear w x o t other is))
            (ap (λ u. walk_fault s [] u xs) next ∙ h.1),
      )

  reads_by : (w : Walk) (x : Text) (xs : List Text) (v u : Bool) (rest : Option (List Text)) → bytes_eq x dashes ≡ v
      → is_flag x ≡ u → IsOpen w → w.is_trailing ≡ false
      → Reads (taken w x) xs rest
      → Reads w (x ∷ xs) (if v then Some xs else (if u then None else option_map (λ ws. x ∷ ws) rest))
  reads_by w x xs true u rest e f o t h = reads_dashes w x xs o t e
  reads_by w x xs false true rest e f o t h = reads_flag w x xs o t e f
  reads_by w x xs false false rest e f o t h = reads_plain w x xs rest o t e f h

  pub reads : (w : Walk) (ws : List Text) → IsOpen w → w.is_trailing ≡ false → Reads w ws (plain_of ws)
  unfolding clap_on_literals
  reads w [] o t = (refl, refl)
  reads w (x ∷ xs) o t = reads_by w x xs (bytes_eq x dashes) (is_flag x) (plain_of xs) refl refl o t
      (reads (taken w x) xs (taken_open w x o) (taken_trailing w x ∙ t))

-- no positional takes what begins with a hyphen
abbrev pub AreFixed : List Rule → Type 0
AreFixed [] = Unit {0}
AreFixed (a ∷ more) = (a.trailing_var_arg ≡ false) × AreFixed more

pub fixed_at : (c : List Rule) (p : ℕ) → AreFixed c → IsFixed (arg_by_index c p)
fixed_at [] p h = tt
fixed_at (a ∷ more) p h = here (option_map_or (λ k. k == p) a.index false) h.0 (fixed_at more p h.1)
  where
    here : (v : Bool) → a.trailing_var_arg ≡ false → IsFixed (arg_by_index more p)
        → IsFixed (if v then Some a else arg_by_index more p)
    here true f rest = f
    here false f rest = rest
