use Rattle.std.proofs.Common.{◌++◌, drop, ap, ◌∙◌}
use Rattle.js_bundle.specs.code.TextPrefix.{text_of_tokens}
use Rattle.js_bundle.proofs.index.text_prefix.TextPrefix.extend.Goals as goal

pub returns : goal.returns
returns c = record {
  reached = c.in_ok-continue_to.ensures.tokens;
  prefix = c.in_ok-continue_to.ensures.text;
  text = c.in_ok-push_tokens.ensures
      ∙ ap (λ t. t ++ text_of_tokens c.args.notation (drop c.args.count c.args.tokens.now)) c.in_ok-text.ensures;
}
