use Rattle.std.proofs.Common.{◌≡◌, map, sym, ap, ◌∙◌, subst}
use Rattle.js_doc.specs.Members.{put}
use Rattle.js_doc.specs.Seen.{value_of, pair_of}
use Rattle.js_doc.specs.code.Places.{IsAboveAll}
use Rattle.js_doc.proofs.Placing.{put_end, lawful_put}
use Rattle.js_doc.proofs.members.Members.push.Goals as goal

pub invariant_of-self-2 : goal.invariant_of-self-2
invariant_of-self-2 c =
    let es = c.self.inside.entries.items in
    let above = subst (IsAboveAll c.args.name) (sym c.self.view_is) c.requires in
    let is : map pair_of c.push.new.self.items
    ≡ put c.args.name (value_of c.args.value) (map pair_of es) =
    ap (map pair_of) c.in_ok-push.ensures.items ∙ put_end c.args.name c.args.value es above in
    lawful_put c.args.name c.args.value es c.push.new.self.items is c.self.invariant c.lawful.ensures

pub returns-clause-ok : goal.returns-clause-ok
returns-clause-ok c =
    let es = c.self.inside.entries.items in
    let above = subst (IsAboveAll c.args.name) (sym c.self.view_is) c.requires in
    rw (← c.self.view_is) (ap (map pair_of) c.in_ok-push.ensures.items ∙ put_end c.args.name c.args.value es above)
