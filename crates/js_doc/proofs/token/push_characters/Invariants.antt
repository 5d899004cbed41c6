use Rattle.std.proofs.Common.{◌≡◌, ◌++◌, string_bytes}
use Rattle.js_doc.specs.Pointer.{escape}
use Rattle.js_doc.specs.code.Extends.{Extends}
use Rattle.js_doc.proofs.token.push_characters.Given as goal

abbrev pub invariant-loop-c : goal.invariant-loop-c
invariant-loop-c l =
    (string_bytes l.out ++ escape l.c-iterator.rest.now ≡ string_bytes l.initial.out ++ escape l.token)
    × Extends (string_bytes l.initial.out) (string_bytes l.out)
