use Rattle.std.proofs.Common.{◌≡◌, ◌==◌, length, ap, ◌∙◌, arith}
use Rattle.std.specs.List.{prefix_len}
use Rattle.js_doc.specs.Escapes.{stands}
use Rattle.js_doc.proofs.QuotedRuns.{all_stand}
use Rattle.js_doc.proofs.runs.stand_as_they_are.Goals as goal

pub returns : goal.returns
returns c =
    let bytes = c.args.bytes.now in
    let end : c.run_end.result ≡ prefix_len stands bytes = omega (arith, c.run_end.ensures.value) in
    ap (λ n. n == length bytes) end ∙ all_stand bytes
