-- What is read from what `clap` finds in the words.
use Rattle.std.specs.Prelude.{List, [], ◌∷◌, Option, Some, None, Result, Err, codes, unwrap_or, if◌then◌else◌}
use Rattle.std.specs.Str.{bytes_eq}
use Rattle.clap.specs.Words.{Row, Text, first_of, all_of, fault_of, subcommand_of}
use Rattle.clap.specs.declared.error.kind.ErrorKind.{ErrorKind}
use Rattle.clap.specs.declared.error.kind.ErrorKind.TheVariants as kind
use Rattle.js_tree.specs.Form.{format_named}
use Rattle.js_command.specs.Grammar.{grammar}
use Rattle.js_command.specs.Words.{DocumentPairs, Request, pairs_in, check_by, suite_by, places_by}
use Rattle.js_command.specs.declared.words.Misuse.{Misuse}
use Rattle.js_command.specs.declared.words.Misuse.TheVariants as misuse

abbrev pub check_in : Option Text → Option Text → Option Text → Option DocumentPairs → Result Request Misuse
check_in (Some format) (Some instance) (Some entry) ps = check_by (format_named format) instance entry ps
check_in _ _ _ _ = Err misuse.OtherForm

abbrev pub suite_in : Option Text → Option DocumentPairs → Result Request Misuse
suite_in None ps = Err misuse.OtherForm
suite_in (Some file) ps = suite_by file ps

abbrev pub pairs_of : List Row → Option DocumentPairs
pairs_of rows = pairs_in (unwrap_or (all_of (codes "PAIRS") rows) [])

abbrev pub request_in : Text → List Row → Result Request Misuse
request_in name rows =
    if bytes_eq name (codes "check") then check_in (first_of (codes "FORMAT") rows) (first_of (codes "INSTANCE") rows)
    (first_of (codes "ENTRY") rows) (pairs_of rows)
    else (if bytes_eq name (codes "suite") then suite_in (first_of (codes "SUITE") rows) (pairs_of rows)
    else places_by (pairs_of rows))

abbrev pub entered : Option (Text × List Row) → Result Request Misuse
entered None = Err misuse.OtherForm
entered (Some e) = request_in e.0 e.1

abbrev pub read_by : List ErrorKind → Option (Text × List Row) → Result Request Misuse
read_by [] found = entered found
read_by (k ∷ ks) found = Err misuse.OtherForm

abbrev pub read_of : List Text → Result Request Misuse
read_of words = read_by (fault_of grammar words) (subcommand_of grammar words)

-- what an error of `clap` means
abbrev pub misuse_of : ErrorKind → Misuse
misuse_of kind.OutOfMemory = misuse.Memory
misuse_of _ = misuse.OtherForm
