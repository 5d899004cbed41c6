use Rattle.std.proofs.Common.{sym}
use Rattle.js_upgrade.specs.Seen.{source_of}
use Rattle.js_upgrade.specs.Source.{source_dialect}
use Rattle.js_upgrade.specs.code.Table.{all_of}
use Rattle.js_upgrade.proofs.FreeValues.{free_source}
use Rattle.js_upgrade.proofs.copies.copy_for_source.Goals as goal

pub returns-then-is_reference_free : goal.returns-then-is_reference_free
returns-then-is_reference_free c =
    let s = source_of c.args.source.now in
    sym (free_source (all_of c.args.roots.now) s (source_dialect s) c.args.copies.now.items
    (c.is_reference_free.ensures c.if-is_reference_free.true))
