use Rattle.std.proofs.Common.{sym, ap, ◌∙◌, unwrap_or}
use Rattle.js_keyword.specs.Keyword.{applicators, others}
use Rattle.js_keyword.specs.declared.keyword.Keyword.TheVariants.{Other}
use Rattle.js_keyword.specs.declared.other_keyword.OtherKeyword.TheVariants.{Unknown}
use Rattle.js_keyword.proofs.KeywordNames.{is_listed, assertion_which, is_other}
use Rattle.js_keyword.proofs.keyword.Keyword.of.Goals as goal

pub returns-in-Some : goal.returns-in-Some
returns-in-Some c = is_listed applicators c.args.name.now c.in-Some.keyword
    (sym c.applicator_named.ensures ∙ c.in-Some.is)

pub returns-in-Some-named : goal.returns-in-Some-named
returns-in-Some-named c = sym (assertion_which c.args.name.now c.in-Some-named.keyword
    (sym c.named.ensures ∙ c.in-Some-named.is))

pub returns-in-Some-other_named : goal.returns-in-Some-other_named
returns-in-Some-other_named c = is_listed others c.args.name.now c.in-Some-other_named.keyword
    (sym c.other_named.ensures ∙ c.in-Some-other_named.is)

pub returns-in-None : goal.returns-in-None
returns-in-None c =
    ap (λ o. unwrap_or o (Other Unknown)) (sym c.in-None.is ∙ c.other_named.ensures)
    ∙ is_other c.args.name.now (sym c.applicator_named.ensures ∙ c.in_default.is)
    (sym c.named.ensures ∙ c.in_default-named.is)
