-- What is returned and written, by what comes of the bytes that are read. Memory, the reader and the sink can fail.
use Rattle.std.specs.Prelude.{◌≡◌, ℕ, List, length, Option, Result, Ok, Err, ◌⊎◌, MatchBool, nat_lt, ⊤}
use Rattle.js_output.specs.Cause.{Causes, MayGoOn, IsFirstFault}
use Rattle.js_output.specs.Device.{Tracked, input_limit, IsLeft, Sends, SendsBeginning}
use Rattle.js_output.specs.declared.fault.Fault.{Fault}
use Rattle.js_output.specs.declared.fault.Fault.TheVariants as fault

-- ---- what comes

-- one of these causes; or, if nothing prevents going on, what comes then
abbrev pub After : {O : Type 0} → Causes → (Result O Fault → Type 0) → Result O Fault → Type 0
After causes Then (Ok o) = MayGoOn causes × Then (Ok o)
After causes Then (Err f) = IsFirstFault causes f ⊎ (MayGoOn causes × Then (Err f))

-- it is one of these causes
abbrev pub StopsBy : {O : Type 0} → Causes → Result O Fault → Type 0
StopsBy causes (Ok o) = ⊥
StopsBy causes (Err f) = IsFirstFault causes f

-- of a whole input: its size is looked at first
abbrev pub OfInput : {O : Type 0} → List ℕ → (Result O Fault → Type 0) → Result O Fault → Type 0
OfInput bytes Then outcome =
    MatchBool (nat_lt input_limit (length bytes)) (outcome ≡ Err fault.InputTooLarge) (Then outcome)

-- ---- how it is reported

-- how an output is reported: what is returned, and the text that is written
pub record Report (O A : Type 0) : Type 0 where
  pub answer : O → A
  pub text : O → List ℕ

-- An expected output is returned if its text was written, and `Write` if a prefix of it was.
abbrev pub Reports : {O A D : Type 0} → Report O A → (Result O Fault → Type 0) → (D → Option (List ℕ)) → Tracked D
    → Tracked D → Result A Fault → Type 0
Reports {O} report Expected taken old new (Ok answer) = (output : O) × Expected (Ok output)
    × (report.answer output ≡ answer) × Sends taken old new (report.text output)
Reports report Expected taken old new (Err fault.Memory) = ⊤
Reports report Expected taken old new (Err fault.Read) = ⊥
Reports {O} report Expected taken old new (Err fault.Write) = (output : O) × Expected (Ok output)
    × SendsBeginning taken old new (report.text output)
Reports report Expected taken old new (Err f) = Expected (Err f)

-- The bytes that a source has left are those that are judged; what is expected comes of them, and is reported. `Read`
-- is returned only if nothing comes before them.
abbrev pub Answers : {O A D : Type 0} → Report O A → (List ℕ → Result O Fault → Type 0) → Causes → Option (List ℕ)
    → (D → Option (List ℕ)) → Tracked D → Tracked D → Result A Fault → Type 0
Answers report Expected before left taken old new (Err fault.Memory) = ⊤
Answers report Expected before left taken old new (Err fault.Read) = MayGoOn before
Answers report Expected before left taken old new answer = (bytes : List ℕ) × IsLeft left bytes
    × Reports report (Expected bytes) taken old new answer
