-- What the program's words ask for.
use Rattle.std.specs.Prelude.{ℕ, List, [], ◌∷◌, ◌++◌, Option, Some, None, Result, Ok, Err, Bool, false}
use Rattle.std.specs.Prelude.{codes, ◌==◌, if◌then◌else◌}
use Rattle.std.specs.Str.{bytes_eq}
use Rattle.js_command.specs.Words.{DocumentPairs, pairs_usage_line}
use Rattle.js_upgrade.specs.Dialect.{dialect_named}
use Rattle.js_upgrade.specs.declared.dialect.Dialect.{Dialect}
use Rattle.js_upgrade.specs.declared.dialect.Dialect.TheVariants.{Draft03, Draft04, Draft06}
use Rattle.js_upgrade.specs.declared.dialect.Dialect.TheVariants.{Draft07, Draft2019, Draft2020}
use Rattle.js_upgrade_cli.specs.Names.{are_apart}
use Rattle.js_doc.specs.Value.{Text}
use Rattle.js_upgrade_cli.specs.declared.numbers.Numbers.{Numbers}
use Rattle.js_upgrade_cli.specs.declared.numbers.Numbers.TheVariants.{Whole, Exact}
use Rattle.js_upgrade_cli.specs.declared.words.UpgradeMisuse.{UpgradeMisuse}
use Rattle.js_upgrade_cli.specs.declared.words.UpgradeMisuse.TheVariants as misuse
use Rattle.js_upgrade_cli.specs.declared.words.Waiting.{Waiting}
use Rattle.js_upgrade_cli.specs.declared.words.Waiting.TheVariants.{ForAny, ForDialect, ForNumbers, ForFolder}
use Rattle.js_upgrade_cli.specs.declared.words.Waiting.TheVariants.{ForPairs}

-- documents to be upgraded, each with its file; the dialect of those that name none; which numbers they may have; a
-- folder for the results, or none
pub record UpgradeRequest : Type 0 where
  pub assumed : Dialect
  pub numbers : Numbers
  pub into : Option Text
  pub documents : DocumentPairs

-- ---- words, one after another

-- what the words so far say; `uri` is one whose file is to come
pub record SaidSoFar : Type 0 where
  pub waiting : Waiting
  pub assumed : Dialect
  pub numbers : Numbers
  pub into : Option Text
  pub uri : Option Text
  pub documents : DocumentPairs

-- the dialect that a word names, as the drafts are called, or as `$schema` names them
abbrev pub dialect_of : Text → Option Dialect
dialect_of word =
    if bytes_eq word (codes "draft-03") then Some Draft03
    else (if bytes_eq word (codes "draft-04") then Some Draft04
    else (if bytes_eq word (codes "draft-06") then Some Draft06
    else (if bytes_eq word (codes "draft-07") then Some Draft07
    else (if bytes_eq word (codes "2019-09") then Some Draft2019
    else (if bytes_eq word (codes "2020-12") then Some Draft2020
    else dialect_named word)))))

abbrev pub dialect_said : SaidSoFar → Option Dialect → Result SaidSoFar UpgradeMisuse
dialect_said s None = Err misuse.NoDialect
dialect_said s (Some d) = Ok (record s { waiting = ForAny; assumed = d })

-- which numbers a word says are taken
abbrev pub numbers_of : Text → Option Numbers
numbers_of word =
    if bytes_eq word (codes "exact") then Some Exact
    else (if bytes_eq word (codes "whole") then Some Whole else None)

abbrev pub numbers_said : SaidSoFar → Option Numbers → Result SaidSoFar UpgradeMisuse
numbers_said s None = Err misuse.NoNumbers
numbers_said s (Some numbers) = Ok (record s { waiting = ForAny; numbers = numbers })

-- a word of a pair
abbrev pub plain_after : SaidSoFar → Option Text → Text → SaidSoFar
plain_after s None word = record s { uri = Some word }
plain_after s (Some uri) word = record s { uri = None; documents = s.documents ++ (uri, word) ∷ [] }

abbrev pub plain_said : SaidSoFar → Text → SaidSoFar
plain_said s word = plain_after s s.uri word

-- a word that begins with `-` (45) and has more
abbrev pub is_option : Text → Bool
is_option [] = false
is_option (b ∷ []) = false
is_option (b ∷ c ∷ bs) = b == 45

abbrev pub option_said : SaidSoFar → Text → Result SaidSoFar UpgradeMisuse
option_said s word =
    if bytes_eq word (codes "--default-dialect") then Ok (record s { waiting = ForDialect })
    else (if bytes_eq word (codes "--numbers") then Ok (record s { waiting = ForNumbers })
    else (if bytes_eq word (codes "--into") then Ok (record s { waiting = ForFolder })
    else (if bytes_eq word (codes "--") then Ok (record s { waiting = ForPairs })
    else (if is_option word then Err misuse.OtherForm else Ok (plain_said s word)))))

abbrev pub said_by : Waiting → SaidSoFar → Text → Result SaidSoFar UpgradeMisuse
said_by ForAny s word = option_said s word
said_by ForDialect s word = dialect_said s (dialect_of word)
said_by ForNumbers s word = numbers_said s (numbers_of word)
said_by ForFolder s word = Ok (record s { waiting = ForAny; into = Some word })
said_by ForPairs s word = Ok (plain_said s word)

-- what a word says after those before it
abbrev pub word_said : SaidSoFar → Text → Result SaidSoFar UpgradeMisuse
word_said s word = said_by s.waiting s word

abbrev pub and_then : {A B E : Type 0} → Result A E → (A → Result B E) → Result B E
and_then (Ok a) next = next a
and_then (Err e) next = Err e

abbrev pub words_said : SaidSoFar → List Text → Result SaidSoFar UpgradeMisuse
words_said s [] = Ok s
words_said s (word ∷ words) = and_then (word_said s word) (λ t. words_said t words)

-- ---- what all of them ask for

-- why no documents can be written so: several go into a folder, where no two have one name
abbrev pub misplaced : Option Text → DocumentPairs → Option UpgradeMisuse
misplaced into [] = Some misuse.OtherForm
misplaced None (p ∷ []) = None
misplaced None (p ∷ q ∷ ps) = Some misuse.NoFolder
misplaced (Some folder) (p ∷ ps) = if are_apart (p ∷ ps) then None else Some misuse.OneName

abbrev pub unpaired : Option Text → Option UpgradeMisuse → Option UpgradeMisuse
unpaired None m = m
unpaired (Some uri) m = Some misuse.OddPairs

-- an option has its word, and a URI its file
abbrev pub unfinished : Waiting → Option UpgradeMisuse → Option UpgradeMisuse
unfinished ForDialect m = Some misuse.OtherForm
unfinished ForNumbers m = Some misuse.OtherForm
unfinished ForFolder m = Some misuse.OtherForm
unfinished _ m = m

-- why what was said is no request
abbrev pub misuse_in : SaidSoFar → Option UpgradeMisuse
misuse_in s = unfinished s.waiting (unpaired s.uri (misplaced s.into s.documents))

abbrev pub request_unless : Option UpgradeMisuse → SaidSoFar → Result UpgradeRequest UpgradeMisuse
request_unless None s =
    Ok (record { assumed = s.assumed; numbers = s.numbers; into = s.into; documents = s.documents })
request_unless (Some m) s = Err m

abbrev pub request_from : SaidSoFar → Result UpgradeRequest UpgradeMisuse
request_from s = request_unless (misuse_in s) s

abbrev pub nothing_said : SaidSoFar
nothing_said =
    record { waiting = ForAny; assumed = Draft2020; numbers = Whole; into = None; uri = None; documents = [] }

-- what the words, without the program's name, ask for
abbrev pub upgrade_request_of : List Text → Result UpgradeRequest UpgradeMisuse
upgrade_request_of words = and_then (words_said nothing_said words) request_from

-- what is reported of misused words
abbrev pub upgrade_usage_line : UpgradeMisuse → List ℕ
upgrade_usage_line misuse.OddPairs = pairs_usage_line
upgrade_usage_line misuse.NoDialect =
    codes "usage: DIALECT is draft-03, draft-04, draft-06, draft-07, 2019-09, 2020-12 or its URI" ++ 10 ∷ []
upgrade_usage_line misuse.NoNumbers = codes "usage: RANGE is exact or whole" ++ 10 ∷ []
upgrade_usage_line misuse.NoFolder = codes "usage: several documents need --into FOLDER" ++ 10 ∷ []
upgrade_usage_line misuse.OneName = codes "usage: with --into each FILE needs a name of its own" ++ 10 ∷ []
upgrade_usage_line _ =
    codes "usage: jschema-upgrade [--default-dialect DIALECT] [--numbers RANGE] [--into FOLDER] URI FILE [URI FILE]..."
    ++ 10 ∷ []
