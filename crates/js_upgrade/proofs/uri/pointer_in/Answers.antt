use Rattle.std.proofs.Common.{ap, ◌∙◌, Err}
use Rattle.percent_encoding.specs.Percent.{percent_decode}
use Rattle.js_upgrade.proofs.Fragments.{no_pointer, pointer_read}
use Rattle.js_upgrade.proofs.uri.pointer_in.Goals as goal

pub returns-in-Ok : goal.returns-in-Ok
returns-in-Ok c = pointer_read (percent_decode c.args.fragment.now) c.in-Ok.pointer c.in-Ok.ensures.reads
    c.in-Ok.ensures.utf8

pub returns-in-Err-BadPointer : goal.returns-in-Err-BadPointer
returns-in-Err-BadPointer c = no_pointer (percent_decode c.args.fragment.now)
    (c.from_fragment.ensures.bad (c.in-Err-BadPointer.is ∙ ap Err c.in-Err-BadPointer.field-0-is))
