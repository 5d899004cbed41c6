use Rattle.std.proofs.Common.{◌∙◌}
use Rattle.js_doc.proofs.PointerTexts.{pointer_of-sound, only, never}
use Rattle.js_doc.proofs.pointer.Pointer.parse.Goals as goal

pub returns-in-Ok-Some-clause-reads : goal.returns-in-Ok-Some-clause-reads
returns-in-Ok-Some-clause-reads c =
    pointer_of-sound c.args.text.now c.in-Ok-Some.pointer (c.in-Ok-Some.ensures ∙ c.in-Ok-Some.field-0-is)

pub returns-in-Ok-Some-clause-back : goal.returns-in-Ok-Some-clause-back
returns-in-Ok-Some-clause-back c = λ p is.
    only c.args.text.now p c.in-Ok-Some.pointer is (c.in-Ok-Some.ensures ∙ c.in-Ok-Some.field-0-is)

pub returns-in-Ok-None-clause-bad : goal.returns-in-Ok-None-clause-bad
returns-in-Ok-None-clause-bad c = λ _ p. never c.args.text.now p (c.in-Ok-None.ensures ∙ c.in-Ok-None.field-0-is)
