use Rattle.std.proofs.Common.{◌≡◌, ◌++◌, string_bytes}
use Rattle.percent_encoding.specs.Iter.{encoded_text}
use Rattle.percent_encoding.specs.Percent.{percent_encode}
use Rattle.js_doc.specs.declared.fragment.TheConstants.{ESCAPED}
use Rattle.js_doc.specs.Pointer.{escape}
use Rattle.js_doc.specs.code.Extends.{Extends}
use Rattle.js_doc.proofs.token.push_encoded.Given as goal

abbrev pub invariant-loop-piece : goal.invariant-loop-piece
invariant-loop-piece l =
    (string_bytes l.out ++ escape (encoded_text l.piece-iterator)
    ≡ string_bytes l.initial.out ++ escape (percent_encode ESCAPED l.token))
    × Extends (string_bytes l.initial.out) (string_bytes l.out)
