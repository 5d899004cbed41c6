-- What the other handle holds after a session was shared, or was not.
use Rattle.std.specs.Prelude.{◌≡◌, Option, Some, None, unwrap_or}
use Rattle.std.proofs.Common.{◌∙◌, ap, refl, sym, subst}
use Rattle.jschema_c.specs.declared.session.Session.{Session}
use Rattle.jschema_c.specs.declared.status.Status.{Status}
use Rattle.jschema_c.specs.declared.status.Status.TheVariants as status
use Rattle.jschema_c.specs.Exports.{IsPut, IsSharedBy, Shares}
use Rattle.jschema_c.specs.Session.{finished_in, IsFinished}

put : (giver before after : Option Session) (s shared : Session) (x : Status) → giver ≡ Some s → IsSharedBy s shared
    → IsPut shared before after x → Shares giver before after x
put giver before after s shared status.Done e is done = (s, shared, e, is, done)
put giver before after s shared status.Failed e is stays = (stays, (s, e, is.finished))
put giver before after s shared status.Invalid e is none = absurd none
put giver before after s shared status.Misused e is none = absurd none
put giver before after s shared status.Refused e is none = absurd none

as_it_is : (giver before after now : Option Session) (x y : Status) → x ≡ y → after ≡ now → Shares giver before now y
    → Shares giver before after x
as_it_is giver before after now x y same there shares =
    subst (λ z. Shares giver before after z) (sym same) (subst (λ z. Shares giver before z y) (sym there) shares)

pub put_is_shared : (giver before after now : Option Session) (s shared : Session) (x y : Status) → giver ≡ Some s
    → IsSharedBy s shared → IsPut shared before now y → x ≡ y → after ≡ now → Shares giver before after x
put_is_shared giver before after now s shared x y e is done same there =
    as_it_is giver before after now x y same there (put giver before now s shared y e is done)

pub unfinished_is_misused : (giver before after : Option Session) (s : Session) (x : Status) → giver ≡ Some s
    → finished_in s.phase ≡ None → x ≡ status.Misused → after ≡ before → Shares giver before after x
unfinished_is_misused giver before after s x e none same there =
    as_it_is giver before after before x status.Misused same there (
      refl,
      λ t f. subst (λ z. finished_in z.phase ≡ None) (ap (λ o. unwrap_or o s) (sym e ∙ f)) none,
    )

pub failed_stays : (giver before after : Option Session) (s : Session) (x : Status) → giver ≡ Some s
    → IsFinished s.phase → x ≡ status.Failed → after ≡ before → Shares giver before after x
failed_stays giver before after s x e finished same there =
    as_it_is giver before after before x status.Failed same there (refl, (s, e, finished))
