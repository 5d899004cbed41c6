use Rattle.std.proofs.Common.{◌≡◌, ◌++◌, ◌∙◌, OnOk, ap, map, subst, sym}
use Rattle.js_doc.specs.Seen.{value_of}
use Rattle.js_doc.specs.Value.{members, object}
use Rattle.js_doc.proofs.PartLists.{member_list-members}
use Rattle.js_upgrade.specs.Resource.{own_resources, root_resources}
use Rattle.js_upgrade.specs.Seen.{copies_seen, resource_seen}
use Rattle.js_upgrade.proofs.resources.push_root_resources.Goals as goal

pub returns-in-Members : goal.returns-in-Members
returns-in-Members c =
    let copies = copies_seen c.args.copies in
    let d = c.args.dialect in
    let base = c.args.base.now in
    let siblings = c.in-Members.siblings in
    let is = ap value_of c.in-Members.is in
    let same = ap (own_resources copies d base siblings) is
    ∙ ap (λ ns. own_resources copies d base ns (object (members siblings))) (sym (member_list-members siblings))
    ∙ sym (ap (root_resources copies d base) is) in
    let call = c.push_own_resources in
    subst (λ rs. OnOk call.result
    (map resource_seen call.new.out.items ≡ map resource_seen c.args.out.now.items ++ rs)) same call.ensures
