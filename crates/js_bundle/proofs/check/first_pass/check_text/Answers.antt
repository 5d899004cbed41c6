use Rattle.std.proofs.Common.{◌≡◌, Some, sym, ap, ◌∙◌, subst, refl}
use Rattle.js_doc.specs.Seen.{value_of}
use Rattle.js_doc.specs.Value.{text}
use Rattle.js_keyword.proofs.KeywordNames.{known_by_name}
use Rattle.js_keyword.specs.declared.keyword.Keyword.TheVariants.{Other}
use Rattle.js_keyword.specs.declared.other_keyword.OtherKeyword.TheVariants.{Id}
use Rattle.js_bundle.specs.Keyword.{argument}
use Rattle.js_bundle.proofs.check.first_pass.check_text.Goals as goal

pub check_id-requires-clause-id : goal.check_id-requires-clause-id
check_id-requires-clause-id c =
    let is = sym c.requires.which ∙ (c.in-Other.is ∙ ap Other c.in-Id.is) in
    subst (λ k. argument k (value_of c.args.at.site.now.schema.now) ≡ Some (text c.args.text.now))
    (known_by_name c.args.at.keyword.now (Other Id) is refl) c.requires.argument
