use Rattle.std.proofs.Common.{◌∙◌, sym, subst}
use Rattle.std.specs.Str.{IsAscii}
use Rattle.js_upgrade.proofs.AsciiNames.{spelled_ascii}
use Rattle.js_upgrade.proofs.anchor_name.spelled_text.Goals as goal

pub ascii_str-requires : goal.ascii_str-requires
ascii_str-requires c =
    subst IsAscii (sym (c.as_slice.ensures.value ∙ c.in_ok-spelled.ensures)) (spelled_ascii c.args.name.now)
