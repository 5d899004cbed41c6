use Rattle.std.proofs.Common.{sym, ap, ◌∙◌}
use Rattle.js_keyword.specs.Keyword.{subschemas, applicators, others}
use Rattle.js_keyword.proofs.KeywordNames.{is_listed, holds_nothing}
use Rattle.js_keyword.proofs.keyword.Keyword.subschemas_of.Goals as goal

pub returns-in-Some : goal.returns-in-Some
returns-in-Some c = c.subschemas.ensures ∙ ap subschemas (is_listed applicators c.args.name.now c.in-Some.keyword
    (sym c.applicator_named.ensures ∙ c.in-Some.is))

pub returns-in-Some-other_named : goal.returns-in-Some-other_named
returns-in-Some-other_named c = c.subschemas-in-Some-other_named.ensures
    ∙ ap subschemas (is_listed others c.args.name.now c.in-Some-other_named.keyword
    (sym c.other_named.ensures ∙ c.in-Some-other_named.is))

pub returns-in-None : goal.returns-in-None
returns-in-None c = holds_nothing c.args.name.now (sym c.applicator_named.ensures ∙ c.in_default.is)
    (sym c.other_named.ensures ∙ c.in-None.is)
