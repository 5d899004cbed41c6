use Rattle.std.specs.Prelude.{◌≡◌, Some, None, MatchOption}
use Rattle.std.proofs.Common.{◌∙◌, ap, sym, subst}
use Rattle.jschema_c.specs.Exports.{IsSharedBy}
use Rattle.jschema_c.specs.Session.{finished_in}
use Rattle.jschema_c.proofs.Sharing.{failed_stays, put_is_shared, unfinished_is_misused}
use Rattle.jschema_c.proofs.jschema_share.Goals.{in-Ok-Some, in-Ok-None, in-Err}
use Rattle.jschema_c.proofs.jschema_share.Goals as goal

pub returns-clause-shares : goal.returns-clause-shares
returns-clause-shares c =
    let s = c.deref.result.now in
    let giver = c.args.handle.now.value in
    let before = c.args.other.now.value in
    let after = c.match-made.other.value in
    let x = c.match-made.status in
    let e : giver ≡ Some s = c.in-Some.ensures.taken ∙ ap Some (sym c.deref.ensures) in
    let none = finished_in s.phase ≡ None in (
      x,
      c.code-2.ensures,
      elim c.match-made.branch [
        | in-Ok-Some w ↦
            let is = subst (λ o. MatchOption o none (IsSharedBy s)) w.in-Ok-Some.field-0-is w.in-Ok-Some.ensures.shared
            in
            put_is_shared giver before after w.put_shared-status.new.other.value s w.in-Ok-Some.shared x
            w.put_shared-status.result e is w.put_shared-status.ensures w.status-is (ap (λ h. h.value) w.other-is)
        | in-Ok-None w ↦
            let is = subst (λ o. MatchOption o none (IsSharedBy s)) w.in-Ok-None.field-0-is w.in-Ok-None.ensures.shared
            in
            unfinished_is_misused giver before after s x e is w.status-is (ap (λ h. h.value) w.other-is)
        | in-Err w ↦
            failed_stays giver before after s x e w.in-Err.ensures.finished w.status-is (ap (λ h. h.value) w.other-is)
      ],
    )
