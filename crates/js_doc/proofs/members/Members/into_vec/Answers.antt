use Rattle.std.proofs.Common.{map}
use Rattle.js_doc.specs.Seen.{pair_of}
use Rattle.js_doc.proofs.Ascending.{members_ascend-list}
use Rattle.js_doc.proofs.members.Members.into_vec.Goals as goal

pub returns-clause-ascending : goal.returns-clause-ascending
returns-clause-ascending c =
    rw (← c.self.view_is) (members_ascend-list (map pair_of c.self.inside.entries.items) c.self.invariant.0)
