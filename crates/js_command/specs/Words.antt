-- What the program's words ask for.
use Rattle.std.specs.Prelude.{ℕ, List, [], ◌∷◌, ◌++◌, Option, Some, None, Result, Ok, Err, codes, map, if◌then◌else◌}
use Rattle.std.specs.Str.{bytes_eq}
use Rattle.std.specs.Borrow.{Bor}
use Rattle.clap.specs.Words.{Text}
use Rattle.js_command.specs.Plain.{plain_of}
use Rattle.js_tree.specs.Form.{format_named}
use Rattle.js_tree.specs.declared.formats.Format.{Format}
use Rattle.js_command.specs.declared.words.DocumentFile.{DocumentFile}
use Rattle.js_command.specs.declared.words.Misuse.{Misuse}
use Rattle.js_command.specs.declared.words.Misuse.TheVariants as misuse

-- URIs, each with the file of its document
abbrev pub DocumentPairs : Type 0
DocumentPairs = List (Text × Text)

-- of documents that the words name
abbrev pub pairs_seen : List DocumentFile → DocumentPairs
pairs_seen ds = map (λ d. (d.uri.now, d.file.now)) ds

-- the files of the documents
abbrev pub files_of : DocumentPairs → List Text
files_of pairs = map (λ p. p.1) pairs

pub data Request : Type 0 where
  pair : Request
  check : Format → Text → Text → DocumentPairs → Request
  suite : Text → DocumentPairs → Request
  places : DocumentPairs → Request

-- words two by two
abbrev pub pairs_after : Text × Text → Option DocumentPairs → Option DocumentPairs
pairs_after p None = None
pairs_after p (Some ps) = Some (p ∷ ps)

abbrev pub pairs_in : List Text → Option DocumentPairs
pairs_in [] = Some []
pairs_in (uri ∷ []) = None
pairs_in (uri ∷ file ∷ words) = pairs_after (uri, file) (pairs_in words)

-- `FORMAT INSTANCE ENTRY [URI FILE]...`; a wrong format comes before an odd number of words
abbrev pub check_by : Option Format → Text → Text → Option DocumentPairs → Result Request Misuse
check_by None instance entry ps = Err misuse.OtherForm
check_by (Some format) instance entry None = Err misuse.OddPairs
check_by (Some format) instance entry (Some ps) = Ok (check format instance entry ps)

abbrev pub check_asked : List Text → Result Request Misuse
check_asked (format ∷ instance ∷ entry ∷ words) = check_by (format_named format) instance entry (pairs_in words)
check_asked _ = Err misuse.OtherForm

-- `SUITE [URI FILE]...`
abbrev pub suite_by : Text → Option DocumentPairs → Result Request Misuse
suite_by file None = Err misuse.OddPairs
suite_by file (Some ps) = Ok (suite file ps)

abbrev pub suite_asked : List Text → Result Request Misuse
suite_asked (file ∷ words) = suite_by file (pairs_in words)
suite_asked [] = Err misuse.OtherForm

-- `[URI FILE]...`
abbrev pub places_by : Option DocumentPairs → Result Request Misuse
places_by None = Err misuse.OddPairs
places_by (Some ps) = Ok (places ps)

abbrev pub places_asked : List Text → Result Request Misuse
places_asked words = places_by (pairs_in words)

abbrev pub asked_by : (List Text → Result Request Misuse) → Option (List Text) → Result Request Misuse
asked_by form None = Err misuse.OtherForm
asked_by form (Some words) = form words

-- what the words, without the program's name, ask for
abbrev pub request_of : List Text → Result Request Misuse
request_of [] = Ok pair
request_of (name ∷ words) =
    if bytes_eq (codes "check") name then asked_by check_asked (plain_of words)
    else (if bytes_eq (codes "suite") name then asked_by suite_asked (plain_of words)
    else (if bytes_eq (codes "places") name then asked_by places_asked (plain_of words)
    else Err misuse.OtherForm))

-- of words that are lent
abbrev pub words_of : List (Bor Text) → List Text
words_of words = map (λ w. w.now) words

-- what is reported of a URI without a file
abbrev pub pairs_usage_line : List ℕ
pairs_usage_line = codes "usage: URI and FILE come in pairs" ++ 10 ∷ []

-- what is reported of misused words
abbrev pub usage_line : Misuse → List ℕ
usage_line misuse.OddPairs = pairs_usage_line
usage_line _ = codes "usage: jschema (check FORMAT INSTANCE ENTRY | suite SUITE | places) [URI FILE]..." ++ 10 ∷ []
