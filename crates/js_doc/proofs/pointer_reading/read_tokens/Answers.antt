use Rattle.std.proofs.Common.{◌≡◌, ◌++◌, ◌==◌, false, option_map, string_bytes, ap, ◌∙◌, rules}
use Rattle.js_doc.proofs.PointerTexts.{arm_first, arm_begin, arm_zero, arm_one, arm_bad, arm_tilde, arm_slash, arm_more}
use Rattle.js_doc.proofs.pointer_reading.read_tokens.Goals as goal

pub returns-then-first-ne47 : goal.returns-then-first-ne47
returns-then-first-ne47 c =
    arm_first c.in-Some.first c.args.text.now c.next.new.self.rest.now (search rules) (search rules)

pub loop-c-init : goal.loop-c-init
loop-c-init c = arm_begin c.in-Some.first c.args.text.now (string_bytes c.new-token.result) c.next.new.self.rest.now
    c.into_iter-c-iterator.result.rest.now c.new-pointer.result c.if-first-ne47.false (search rules)
    c.new-token.ensures.bytes c.new-pointer.ensures
    (ap (λ i. i.rest.now) c.into_iter-c-iterator.ensures.into_iter_gives)

pub loop-c-preserved-in-Continue-1 : goal.loop-c-preserved-in-Continue-1
loop-c-preserved-in-Continue-1 c =
    let l = c.loop-c in
    l.invariant ∙ ap (option_map (λ q. l.pointer ++ q)) (arm_zero l.tilde c.in-Some-c.c (string_bytes l.token)
    (string_bytes c.push.new.self) l.c-iterator.rest.now c.next-in-loop-c.new.self.rest.now c.if-tilde.true
    c.in-0.is c.in-Some-c.ensures.steps.0 c.in_ok-push-in-0.ensures.bytes)

pub loop-c-preserved-in-Continue-branch-2 : goal.loop-c-preserved-in-Continue-branch-2
loop-c-preserved-in-Continue-branch-2 c =
    let l = c.loop-c in
    l.invariant ∙ ap (option_map (λ q. l.pointer ++ q)) (arm_one l.tilde c.in-Some-c.c (string_bytes l.token)
    (string_bytes c.push-in-1.new.self) l.c-iterator.rest.now c.next-in-loop-c.new.self.rest.now c.if-tilde.true
    c.in-1.is c.in-Some-c.ensures.steps.0 c.in_ok-push-in-1.ensures.bytes)

pub returns-in_default-c : goal.returns-in_default-c
returns-in_default-c c =
    let l = c.loop-c in let zero : c.in-Some-c.c == 48 ≡ false = search rules in
    let one : c.in-Some-c.c == 49 ≡ false = search rules in
    l.invariant ∙ ap (option_map (λ q. l.pointer ++ q)) (arm_bad l.tilde c.in-Some-c.c (string_bytes l.token)
    l.c-iterator.rest.now c.next-in-loop-c.new.self.rest.now c.if-tilde.true zero one c.in-Some-c.ensures.steps.0)

pub loop-c-preserved-in-126 : goal.loop-c-preserved-in-126
loop-c-preserved-in-126 c =
    let l = c.loop-c in
    l.invariant ∙ ap (option_map (λ q. l.pointer ++ q))
    (arm_tilde l.tilde c.in-Some-c.c (string_bytes l.token) l.c-iterator.rest.now c.next-in-loop-c.new.self.rest.now
    c.if-tilde.false c.in-126.is c.in-Some-c.ensures.steps.0)

pub loop-c-preserved-in-47 : goal.loop-c-preserved-in-47
loop-c-preserved-in-47 c =
    let l = c.loop-c in
    l.invariant ∙ arm_slash l.tilde c.in-Some-c.c (string_bytes l.token) l.c-iterator.rest.now
    c.next-in-loop-c.new.self.rest.now (string_bytes c.new-token-in-47.result) c.new.result l.pointer
    c.push_text.new.self c.if-tilde.false c.in-47.is c.in-Some-c.ensures.steps.0 c.new-token-in-47.ensures.bytes
    c.new.ensures c.in_ok-push_text-in-47.ensures.ok

pub loop-c-preserved : goal.loop-c-preserved
loop-c-preserved c =
    let l = c.loop-c in let tilde : c.in-Some-c.c == 126 ≡ false = search rules in
    let slash : c.in-Some-c.c == 47 ≡ false = search rules in
    l.invariant ∙ ap (option_map (λ q. l.pointer ++ q)) (arm_more l.tilde c.in-Some-c.c (string_bytes l.token)
    (string_bytes c.push-in_default-c-2.new.self) l.c-iterator.rest.now c.next-in-loop-c.new.self.rest.now
    c.if-tilde.false tilde slash c.in-Some-c.ensures.steps.0 c.in_ok-push-in_default-c-2.ensures.bytes)
