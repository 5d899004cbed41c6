use Rattle.std.proofs.Common.{sym, ◌∙◌}
use Rattle.js_doc.proofs.QuotedRuns.{nothing_escaped}
use Rattle.js_tree.proofs.rows.relative_rows.some_in_arena.Goals as goal

pub returns-then-stand_as_they_are : goal.returns-then-stand_as_they_are
returns-then-stand_as_they_are c = c.in_ok-kept.ensures
    ∙ sym (nothing_escaped c.args.bytes.now (sym c.if-stand_as_they_are.ensures))
