use Rattle.std.proofs.Common.{◌++◌, ◌∙◌, ap}
use Rattle.js_doc.specs.Fragment.{fragment_token}
use Rattle.js_eval.proofs.Paths.{keyword_location_is}
use Rattle.js_eval.proofs.reporters.absolute.absolute_keyword.Goals as goal

pub returns : goal.returns
returns c =
    let lent = c.location_of.result in
    let whole = lent.0.now ++ lent.1.now in
    let schemas = c.args.schemas.now in
    let text = c.in_ok-push_fragment_token.ensures.ok
    ∙ ap (λ t. t ++ fragment_token c.args.keyword.now) c.in_ok-text.ensures in
    c.new.ensures ∙ keyword_location_is schemas c.args.place c.args.keyword.now whole _ c.location_of.ensures text
