use Rattle.js_doc.proofs.PartLists.{member_list-members}
use Rattle.js_assert.proofs.argument_shape.dependences.Goals as goal

pub returns-in-Members-clause-shape : goal.returns-in-Members-clause-shape
returns-in-Members-clause-shape c =
    rw (c.in-Members.is, member_list-members c.in-Members.members) c.dependences_of.ensures.shape

pub returns-in-Members-clause-refused : goal.returns-in-Members-clause-refused
returns-in-Members-clause-refused c =
    rw (c.in-Members.is, member_list-members c.in-Members.members) c.dependences_of.ensures.refused
