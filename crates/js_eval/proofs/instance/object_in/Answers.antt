use Rattle.js_assert.proofs.ListedValues.{named_members}
use Rattle.js_eval.proofs.instance.object_in.Goals as goal

pub returns-in-Members : goal.returns-in-Members
returns-in-Members c = rw (c.in-Members.is, named_members c.in-Members.members)
