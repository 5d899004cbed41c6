use Rattle.js_upgrade_cli.proofs.Reading.{text_exact, text_stays}
use Rattle.js_upgrade_cli.proofs.numbers.exact_text.Goals as goal

pub returns-in-Ok-exact_schema : goal.returns-in-Ok-exact_schema
returns-in-Ok-exact_schema c =
    text_exact c.args.assumed c.args.text.now c.in-Ok.json.now c.in-Ok-exact_schema.exact.items c.in-Ok.ensures.cases.0
    c.in-Ok.ensures.cases.1 c.in-Ok-exact_schema.ensures.ok

pub returns-in-Err : goal.returns-in-Err
returns-in-Err c = text_stays c.args.assumed c.args.text.now c.in-Err.ensures.cases.0
