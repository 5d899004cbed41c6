use Rattle.std.proofs.Common.{◌≡◌, map, drop}
use Rattle.js_bundle.specs.code.Edges.{held_of}
use Rattle.js_bundle.specs.code.PlaceBelow.{numbers_of_keyword}
use Rattle.js_bundle.proofs.finished.place_below.numbers_of_keyword.Given as goal

abbrev pub invariant-loop-held : goal.invariant-loop-held
invariant-loop-held l = numbers_of_keyword l.keyword (map held_of l.keywords)
    ≡ numbers_of_keyword l.keyword (map held_of (drop l.held-index l.keywords))
