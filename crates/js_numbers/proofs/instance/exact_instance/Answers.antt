use Rattle.std.proofs.Common.{sym, subst, rules}
use Rattle.std.specs.Prelude.{IsTrue}
use Rattle.json.specs.Print.{ArePrintable}
use Rattle.js_numbers.proofs.Tokens.{json_printable}
use Rattle.js_numbers.proofs.instance.exact_instance.Goals as goal

pub put_all-requires : goal.put_all-requires
put_all-requires g c =
    let valid : IsTrue c.in_ok-is_valid.field-0 = search rules in
    subst ArePrintable (sym c.in_ok-reader.ensures.ok)
    (json_printable c.args.text.now (c.in_ok-is_valid.ensures.ok.0 valid))
