-- What is written: upgraded documents, each as its compact text and a line feed.
use Rattle.std.specs.Prelude.{◌≡◌, ℕ, List, [], ◌∷◌, ◌++◌, Option, Some, None, option_map, Bool, true, false, length}
use Rattle.std.specs.Prelude.{flat_map}
use Rattle.std.specs.Io.KnownBytes.{Appends, Keeps}
use Rattle.js_doc.specs.Value.{Values, Text}
use Rattle.js_command.specs.Words.{DocumentPairs}
use Rattle.js_output.specs.Device.{AppendsBeginning, FlushedOnce, Tracked}
use Rattle.js_output.specs.Values.{value_line}
use Rattle.js_upgrade_cli.specs.Names.{path_in}

-- files with their paths
abbrev pub Written : Type 0
Written = List (Text × List ℕ)

-- these were written, one after another, where that is known
abbrev pub HasPut : Option Written → Option Written → Written → Type 0
HasPut old new files = new ≡ option_map (λ before. before ++ files) old

abbrev pub value_lines : Values → List ℕ
value_lines vs = flat_map value_line vs

-- each document under its file's name
abbrev pub files_in : Text → DocumentPairs → Values → Written
files_in folder (p ∷ ps) (v ∷ vs) = (path_in folder p.1, value_line v) ∷ files_in folder ps vs
files_in folder _ _ = []

-- ---- what came of writing them, by what the output and the folder held before and hold now, where that is known

-- all of them were written
abbrev pub IsWritten : Option Text → DocumentPairs → Values → Option (List ℕ) → Option (List ℕ) → Option Written
    → Option Written → Type 0
IsWritten None pairs values old new before after = Appends old new (value_lines values) × (after ≡ before)
IsWritten (Some folder) pairs values old new before after =
    Keeps old new × HasPut before after (files_in folder pairs values)

-- the output was flushed once, as its last call, and hasn't failed; where a folder was named it wasn't called
abbrev pub Flushes : {D : Type 0} → Option Text → Tracked D → Tracked D → Type 0
Flushes None old new = FlushedOnce old new × (new.failed ≡ false)
Flushes (Some folder) old new = new ≡ old

-- a prefix of these files was written, and the next one, with this number, isn't
abbrev pub IsPartlyPut : Option Written → Option Written → Written → Option ℕ → Type 0
IsPartlyPut before after files number =
    (done : Written) × (rest : Written) × (files ≡ done ++ rest) × HasPut before after done
    × (number ≡ Some (length done))

-- a prefix of them was: the output has failed, or the file of the document with this number isn't written
abbrev pub IsPartlyWritten : Option Text → DocumentPairs → Values → Option (List ℕ) → Option (List ℕ) → Bool
    → Option Written → Option Written → Option ℕ → Type 0
IsPartlyWritten None pairs values old new failed before after document =
    (document ≡ None) × AppendsBeginning old new (value_lines values) × (failed ≡ true) × (after ≡ before)
IsPartlyWritten (Some folder) pairs values old new failed before after document =
    Keeps old new × IsPartlyPut before after (files_in folder pairs values) document
