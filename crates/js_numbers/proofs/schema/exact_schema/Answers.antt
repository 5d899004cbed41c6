use Rattle.std.proofs.Common.{Some, ap, sym, ◌∙◌}
use Rattle.std.specs.Prelude.{option_and_then}
use Rattle.json.specs.Json.{document}
use Rattle.js_numbers.specs.Instance.{exact_instance}
use Rattle.js_numbers.proofs.NamesOnce.{exact_made, exact_unmade}
use Rattle.js_numbers.proofs.schema.exact_schema.Goals as goal

pub returns-in-Ok-clause-ok : goal.returns-in-Ok-clause-ok
returns-in-Ok-clause-ok c =
    let integers = c.in-Ok.integers.now in
    let same = ap (option_and_then document) (c.in_ok-bytes.ensures.ok
    ∙ sym (ap Some (c.in-Ok.ensures.cases.0 ∙ c.deref.ensures.value))) in
    exact_made c.args.assumed (document integers) (option_and_then document (exact_instance c.args.text.now)) same
    (λ v. v.items) c.rewritten.result c.rewritten.ensures.ok c.rewritten.ensures.unique

pub returns-in-Ok-clause-err : goal.returns-in-Ok-clause-err
returns-in-Ok-clause-err c =
    let integers = c.in-Ok.integers.now in
    let same = ap (option_and_then document) (c.in_ok-bytes.ensures.ok
    ∙ sym (ap Some (c.in-Ok.ensures.cases.0 ∙ c.deref.ensures.value))) in
    exact_unmade (document integers) (option_and_then document (exact_instance c.args.text.now)) same
    c.rewritten.result c.rewritten.ensures.err
