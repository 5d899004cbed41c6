use Rattle.std.proofs.Common.{ap, sym, subst, ◌∙◌}
use Rattle.js_doc.specs.BytesOut.{Puts}
use Rattle.js_doc.specs.Compact.{compact}
use Rattle.js_tree.specs.Form.{flag}
use Rattle.js_tree.proofs.FlagText.{valid_text, invalid_text}
use Rattle.js_tree.proofs.formats.flag.put_flag.Goals as goal

pub returns-then-valid : goal.returns-then-valid
returns-then-valid g c =
    subst (λ bytes. Puts (g.O.Out.progress c.args.out.now) (g.O.Out.progress c.put.new.self) bytes c.put.result)
    (valid_text ∙ ap (λ valid. compact (flag valid)) (sym c.if-valid.true)) c.put.ensures

pub returns-else-valid : goal.returns-else-valid
returns-else-valid g c =
    subst (λ bytes. Puts (g.O.Out.progress c.args.out.now) (g.O.Out.progress c.put-else-valid.new.self) bytes
    c.put-else-valid.result) (invalid_text ∙ ap (λ valid. compact (flag valid)) (sym c.if-valid.false))
    c.put-else-valid.ensures
