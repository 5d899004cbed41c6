use Rattle.std.proofs.Common.{string_bytes, ◌∙◌, arith}
use Rattle.std.proofs.lemmas.Result.{IfOk-weaker}
use Rattle.js_bundle.proofs.Indexing.SharedTokens.{extended_begins, extended_whole}
use Rattle.js_bundle.proofs.index.keys.next_key.Goals as goal

pub returns-clause-begins : goal.returns-clause-begins
returns-clause-begins c =
    IfOk-weaker c.extend.result _ _ (λ t e. extended_begins _ _ _ _ c.saturating_sub-count.result c.begin_key.new.prefix
    c.extend.new.self (string_bytes t) (c.tokens-tokens.ensures ∙ c.deref.ensures) c.in_ok-begin_key.ensures.begins
    (omega (arith, c.in_ok-begin_key.ensures.within, c.min.ensures)) e) c.extend.ensures

pub returns-clause-key : goal.returns-clause-key
returns-clause-key c =
    IfOk-weaker c.extend.result _ _ (λ t e. extended_whole _ _ _ _ c.saturating_sub-count.result c.begin_key.new.prefix
    c.extend.new.self (string_bytes t) (c.tokens-tokens.ensures ∙ c.deref.ensures) c.in_ok-begin_key.ensures.begins
    (omega (arith, c.in_ok-begin_key.ensures.within, c.min.ensures)) e) c.extend.ensures
