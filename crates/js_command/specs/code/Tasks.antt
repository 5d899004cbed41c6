-- Tasks, as the requests that they are, and why there is none.
use Rattle.std.specs.Prelude.{◌≡◌, Bool, true, Option, None, Result, Ok, Err, ⊤}
use Rattle.clap.specs.Words.{Text}
use Rattle.js_output.specs.Device.{Tracked}
use Rattle.js_output.specs.declared.fault.Fault.{Fault}
use Rattle.js_output.specs.declared.fault.Fault.TheVariants as fault
use Rattle.js_command.specs.Words.{DocumentPairs, Request, pair, check, suite, places, pairs_seen}
use Rattle.js_command.specs.declared.words.Judgement.{Judgement}
use Rattle.js_command.specs.declared.words.Misuse.{Misuse}
use Rattle.js_command.specs.declared.words.Misuse.TheVariants as misuse
use Rattle.js_command.specs.declared.words.Subject.{Subject}
use Rattle.js_command.specs.declared.words.Subject.TheVariants as subject
use Rattle.js_command.specs.declared.words.Task.{Task}
use Rattle.js_command.specs.declared.words.Task.TheVariants as task

abbrev pub request_by : Subject → Text → DocumentPairs → Request
request_by (subject.Instance format entry) file pairs = check format file entry.now pairs
request_by subject.Suite file pairs = suite file pairs

abbrev pub judging_seen : Judgement → Request
judging_seen j = request_by j.subject j.file.now (pairs_seen j.documents.items)

abbrev pub request_seen : Task → Request
request_seen task.Pair = pair
request_seen (task.Judge j) = judging_seen j
request_seen (task.Places ds) = places (pairs_seen ds.items)

-- why the words ask for nothing; lack of memory can come at any time
abbrev pub IsMisuse : Result Request Misuse → Misuse → Type 0
IsMisuse asked misuse.Memory = ⊤
IsMisuse asked m = asked ≡ Err m

-- why they have no pairs
abbrev pub IsNoPairs : Option DocumentPairs → Misuse → Type 0
IsNoPairs found misuse.Memory = ⊤
IsNoPairs found misuse.OddPairs = found ≡ None
IsNoPairs found misuse.OtherForm = ⊥

-- the first fault of an answer and of what comes after it
abbrev pub answer_after_flush : {A B : Type 0} → Result A Fault → Result B Fault → Result A Fault
answer_after_flush (Err f) after = Err f
answer_after_flush (Ok a) (Err f) = Err f
answer_after_flush (Ok a) (Ok b) = Ok a

-- what a task answers if the input has failed
abbrev pub IsReadOrMemory : Result Bool Fault → Type 0
IsReadOrMemory (Err fault.Memory) = ⊤
IsReadOrMemory (Err fault.Read) = ⊤
IsReadOrMemory _ = ⊥

-- the input is read for a pair alone
abbrev pub ReadsInput : {D : Type 0} → Request → Tracked D → Tracked D → Result Bool Fault → Type 0
ReadsInput pair old new answer = new.failed ≡ true → IsReadOrMemory answer
ReadsInput request old new answer = new ≡ old
