use Rattle.std.proofs.Common.{string_bytes, arith}
use Rattle.js_bundle.proofs.Indexing.TokensWritten.{written_next}
use Rattle.js_bundle.proofs.index.text_prefix.push_tokens.Goals as goal

pub loop-i-preserved : goal.loop-i-preserved
loop-i-preserved c =
    let l = c.loop-i in
    written_next c.args.notation c.args.tokens.now l.i c.index-tokens-i.result c.as_str.result.now (string_bytes l.text)
    (string_bytes c.push_token_in.new.out) _ (omega arith) c.index-tokens-i.is c.as_str.ensures
    c.in_ok-push_token_in.ensures.ok l.invariant
