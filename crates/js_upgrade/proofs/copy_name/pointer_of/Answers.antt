use Rattle.std.proofs.Common.{◌∙◌, Err, ap}
use Rattle.js_upgrade.proofs.Fragments.{no_pointer_text, pointer_text_read}
use Rattle.js_upgrade.proofs.copy_name.pointer_of.Goals as goal

pub returns-in-Ok : goal.returns-in-Ok
returns-in-Ok c = pointer_text_read c.args.text.now c.in-Ok.pointer c.in-Ok.ensures.reads

pub returns-in-Err-BadPointer : goal.returns-in-Err-BadPointer
returns-in-Err-BadPointer c =
    no_pointer_text c.args.text.now
    (c.parse.ensures.bad (c.in-Err-BadPointer.is ∙ ap Err c.in-Err-BadPointer.field-0-is))
