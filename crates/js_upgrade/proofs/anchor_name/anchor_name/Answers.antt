use Rattle.std.proofs.Common.{◌∙◌, sym}
use Rattle.js_upgrade.proofs.AsciiNames.{settled_ascii}
use Rattle.js_upgrade.proofs.anchor_name.anchor_name.Goals as goal

pub ascii_str-requires : goal.ascii_str-requires
ascii_str-requires c = settled_ascii c.args.name.now (sym c.is_settled.ensures ∙ c.if-is_settled.true)
