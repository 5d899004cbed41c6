-- Documents whose numbers are as people write them.
use Rattle.std.specs.Prelude.{ℕ, List, unwrap_or, if◌then◌else◌}
use Rattle.std.specs.Str.{is_utf8}
use Rattle.js_numbers.specs.Schema.{exact_schema}
use Rattle.js_upgrade.specs.declared.dialect.Dialect.{Dialect}
use Rattle.js_upgrade_cli.specs.declared.numbers.Numbers.{Numbers}
use Rattle.js_upgrade_cli.specs.declared.numbers.Numbers.TheVariants.{Whole, Exact}

-- with integers where they say the same; what is no JSON stays, and is refused when it is read
abbrev pub exact_text : Dialect → List ℕ → List ℕ
exact_text assumed text = if is_utf8 text then unwrap_or (exact_schema assumed text) text else text

-- as it is read
abbrev pub text_read : Numbers → Dialect → List ℕ → List ℕ
text_read Whole assumed text = text
text_read Exact assumed text = exact_text assumed text
