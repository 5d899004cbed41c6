use Rattle.std.proofs.Common.{◌≡◌, true, map}
use Rattle.std.specs.List.{list_all}
use Rattle.js_doc.specs.Seen.{pair_of}
use Rattle.js_eval.specs.Applications.{among_names}
use Rattle.js_eval.specs.Seen.{texts_of}
use Rattle.js_eval.proofs.keywords.nothing_left.are_all_evaluated.Given as goal

abbrev pub invariant-loop-name : goal.invariant-loop-name
invariant-loop-name l = list_all (λ m. among_names m.0 (texts_of l.evaluated)) (map pair_of l.name-iterator) ≡ true
    → list_all (λ m. among_names m.0 (texts_of l.evaluated)) l.members ≡ true
