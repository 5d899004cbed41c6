use Rattle.std.proofs.Common.{◌∙◌}
use Rattle.json.specs.Reads.{token_of}
use Rattle.js_numbers.proofs.Tokens.{exact_more, printable_more}
use Rattle.js_numbers.proofs.instance.put_all.Goals as goal

pub put-requires : goal.put-requires
put-requires g c =
    let next = c.in-Some.ensures.value in
    (printable_more _ _ (token_of c.in-Some.token) next c.loop-token.invariant.printable).0

pub loop-token-preserved : goal.loop-token-preserved
loop-token-preserved g c =
    let token = token_of c.in-Some.token in
    let next = c.in-Some.ensures.value in
    record {
      printable = (printable_more _ _ token next c.loop-token.invariant.printable).1;
      before = c.in_ok-put.ensures.room.0 ∙ c.loop-token.invariant.before;
      tokens = exact_more _ _ _ _ token c.in_ok-put.ensures.ok next ∙ c.loop-token.invariant.tokens;
    }
