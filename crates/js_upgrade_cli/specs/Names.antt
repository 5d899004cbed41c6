-- Where a document is written to.
use Rattle.std.specs.Prelude.{ℕ, [], ◌∷◌, ◌++◌, Bool, true, ◌==◌, ◌&&◌, not, if◌then◌else◌}
use Rattle.std.specs.List.{list_any}
use Rattle.std.specs.Str.{bytes_eq}
use Rattle.js_command.specs.Words.{DocumentPairs}
use Rattle.js_doc.specs.Value.{Text}

abbrev pub is_slash : ℕ → Bool
is_slash b = b == 47

-- what stands behind the last slash, or what is kept
abbrev pub name_after : Text → Text → Text
name_after kept [] = kept
name_after kept (b ∷ bs) = if is_slash b then name_after bs bs else name_after kept bs

-- a file's name, without its folder
abbrev pub file_name_of : Text → Text
file_name_of path = name_after path path

-- the same file in another folder
abbrev pub path_in : Text → Text → Text
path_in folder file = folder ++ (47 ∷ file_name_of file)

abbrev pub has_file_name : Text → DocumentPairs → Bool
has_file_name name pairs = list_any (λ p. bytes_eq (file_name_of p.1) name) pairs

-- no two files have one name
abbrev pub are_apart : DocumentPairs → Bool
are_apart [] = true
are_apart (p ∷ ps) = not (has_file_name (file_name_of p.1) ps) && are_apart ps
