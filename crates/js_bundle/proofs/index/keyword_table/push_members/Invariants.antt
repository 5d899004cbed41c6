use Rattle.std.proofs.Common.{◌≡◌, ◌++◌, map}
use Rattle.js_doc.specs.Seen.{pair_of}
use Rattle.js_doc.specs.Value.{Value}
use Rattle.js_bundle.specs.Keyword.{Text}
use Rattle.js_keyword.specs.Keyword.{which_keyword}
use Rattle.js_bundle.proofs.index.keyword_table.push_members.Given as goal

abbrev pub invariant-loop-name : goal.invariant-loop-name
invariant-loop-name l =
    let f = λ (m : Text × Value). which_keyword m.0 in
    l.names.items ++ map f (map pair_of l.name-iterator) ≡ l.initial.names.items ++ map f l.members
