use Rattle.std.proofs.Common.{◌≡◌, ◌++◌, drop, string_bytes}
use Rattle.js_bundle.specs.Resource.{sites}
use Rattle.js_output.specs.Places.{lines_of}
use Rattle.js_output.proofs.places.report_of_places.Given as goal

-- what was written and what is left to write are the whole
abbrev pub invariant-loop-place : goal.invariant-loop-place
invariant-loop-place l =
    string_bytes l.text ++ lines_of (drop l.place-index (sites l.schemas)) ≡ lines_of (sites l.schemas)
