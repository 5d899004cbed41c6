use Rattle.std.proofs.Common.{◌≡◌, ◌++◌, drop, map}
use Rattle.js_doc.specs.Seen.{value_of}
use Rattle.jschema_c.specs.Tracing.{origins_told}
use Rattle.jschema_c.proofs.tracing.origins.Given as goal

-- those that were found and those left make the whole
abbrev pub invariant-loop-pointer : goal.invariant-loop-pointer
invariant-loop-pointer l =
    map value_of l.origins.items ++ origins_told l.assumed (value_of l.root) (drop l.pointer-index l.pointers)
    ≡ origins_told l.assumed (value_of l.root) l.pointers
