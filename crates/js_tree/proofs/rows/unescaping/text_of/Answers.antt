use Rattle.std.proofs.Common.{◌++◌, ap, sym, ◌∙◌}
use Rattle.js_tree.specs.Rows.RelativeState.{part}
use Rattle.js_tree.proofs.RowsOfTrees.UndoneEscapes.{without_escapes}
use Rattle.js_tree.proofs.rows.unescaping.text_of.Goals as goal

pub returns : goal.returns
returns c =
    λ text e.
    let plain = c.args.plain.now in
    let escaped = c.args.escaped.now in
    c.new.ensures
    ∙ (c.in_ok-put_part.ensures.0
    ∙ (ap (λ l. l ++ part c.args.slash escaped)
    (c.in_ok-push_str.ensures.bytes ∙ ap (λ l. l ++ plain) c.in_ok-text.ensures.bytes)
    ∙ without_escapes plain c.args.slash escaped text
    (sym c.stand_as_they_are.ensures ∙ c.if-not-stand_as_they_are.false) e))
