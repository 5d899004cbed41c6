use Rattle.std.proofs.Common.{◌≡◌, OnOk, subst}
use Rattle.js_upgrade.specs.code.Table.{all_of}
use Rattle.js_upgrade.proofs.LocalFragments.{local_copied}
use Rattle.js_upgrade.proofs.copying.copy_for_part.Goals as goal

pub returns-in_ok-pointer-in-Some : goal.returns-in_ok-pointer-in-Some
returns-in_ok-pointer-in-Some c =
    let scope = c.args.scope.now in
    let same = local_copied (all_of scope.resources.now) scope.base.now c.args.reference.now c.in-Some.fragment.now
    c.in_ok-pointer-in-Some.pointer scope.here c.args.copies.now.items c.in-Some.ensures
    c.in_ok-pointer-in-Some.ensures scope.local in
    subst (λ cs. OnOk c.copy_at.result (c.copy_at.new.copies.items ≡ cs)) same c.copy_at.ensures
