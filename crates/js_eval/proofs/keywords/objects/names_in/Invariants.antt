use Rattle.std.proofs.Common.{◌≡◌, ◌++◌, filter, map}
use Rattle.js_doc.specs.Seen.{pair_of}
use Rattle.js_eval.specs.code.Cursors.{is_among_keys}
use Rattle.js_eval.specs.Seen.{texts_of}
use Rattle.js_eval.proofs.keywords.objects.names_in.Given as goal

abbrev pub invariant-loop-name : goal.invariant-loop-name
invariant-loop-name l =
    texts_of l.names.items
    ++ filter (λ name. is_among_keys l.set.keys name) (map (λ m. m.0) (map pair_of l.name-iterator))
    ≡ filter (λ name. is_among_keys l.set.keys name) (map (λ m. m.0) l.members)
