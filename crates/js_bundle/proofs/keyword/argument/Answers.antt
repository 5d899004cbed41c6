use Rattle.js_doc.proofs.PartLists.{member_list-members}
use Rattle.js_bundle.proofs.keyword.argument.Goals as goal

pub returns-in-Members : goal.returns-in-Members
returns-in-Members c = rw c.in-Members.is (rw (member_list-members c.in-Members.members) c.get.ensures)
