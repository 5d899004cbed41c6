use Rattle.std.proofs.Common.{◌≡◌, ◌==◌, false, ◌++◌, string_bytes, sym, ap, ◌∙◌, append_assoc, rules}
use lib.Utf8.{encode}
use Rattle.js_doc.specs.Pointer.{escape}
use Rattle.js_doc.proofs.Extending.{grown_to}
use Rattle.js_doc.proofs.Escapes.{escape_encode}
use Rattle.js_doc.proofs.token.push_characters.Goals as goal

pub loop-c-preserved : goal.loop-c-preserved
loop-c-preserved c =
    let l = c.loop-c in
    let left = c.next.new.self.rest.now in
    let first : l.c-iterator.rest.now ≡ encode c.in-Some.c ++ left = c.in-Some.ensures.steps.0 in
    let tilde : c.in-Some.c == 126 ≡ false = search rules in
    let slash : c.in-Some.c == 47 ≡ false = search rules in
    let pushed = c.in_ok-push-in_default.ensures.bytes in (
      ap (λ s. s ++ escape left) pushed ∙ append_assoc (string_bytes l.out) (encode c.in-Some.c) (escape left)
          ∙ ap (λ s. string_bytes l.out ++ s)
          (sym (ap escape first ∙ escape_encode c.in-Some.c left tilde slash)) ∙ l.invariant.0,
      grown_to (string_bytes c.args.out.now) (string_bytes l.out) (string_bytes c.push.new.self)
          (encode c.in-Some.c) l.invariant.1 pushed,
    )
