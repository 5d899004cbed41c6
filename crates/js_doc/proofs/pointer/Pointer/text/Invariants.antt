use Rattle.std.proofs.Common.{◌≡◌, ◌++◌, drop, string_bytes}
use Rattle.js_doc.specs.Pointer.{pointer_text}
use Rattle.js_doc.proofs.pointer.Pointer.text.Given as goal

abbrev pub invariant-loop-token : goal.invariant-loop-token
invariant-loop-token l =
    string_bytes l.text ++ pointer_text (drop l.token-index l.token-items) ≡ pointer_text l.token-items
