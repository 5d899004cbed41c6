use Rattle.js_doc.proofs.PointerTexts.{pointer_of-text, pointer_of-sound}
use Rattle.js_doc.proofs.laws.pointers_are_read.Goals as goal

pub returns-clause-back : goal.returns-clause-back
returns-clause-back c = pointer_of-text

pub returns-clause-no_more : goal.returns-clause-no_more
returns-clause-no_more c = pointer_of-sound
