use Rattle.std.proofs.Common.{◌≡◌, length}
use denote.Shadow.{shadow}
use denote.Text.{Utf8}
use Rattle.js_upgrade_cli.specs.Names.{file_name_of}
use Rattle.js_upgrade_cli.proofs.names.file_name_of.Given as goal

-- what is left has the same name
abbrev pub invariant-folders : goal.invariant-folders
invariant-folders l = shadow (Utf8 l.name) × (file_name_of l.name ≡ file_name_of l.path)

abbrev pub decreases-folders : goal.decreases-folders
decreases-folders l = length l.name
