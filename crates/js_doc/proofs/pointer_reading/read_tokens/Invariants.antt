use Rattle.std.proofs.Common.{◌≡◌, ◌++◌, option_map, string_bytes}
use Rattle.js_doc.specs.PointerReading.{tokens_read, pointer_of}
use Rattle.js_doc.proofs.pointer_reading.read_tokens.Given as goal

abbrev pub invariant-loop-c : goal.invariant-loop-c
invariant-loop-c l =
    pointer_of l.text ≡ option_map (λ q. l.pointer ++ q)
    (tokens_read l.tilde (string_bytes l.token) l.c-iterator.rest.now)
