use Rattle.std.proofs.Common.{◌≡◌, true, false, refl}
use Rattle.std.proofs.lemmas.Result.{IfOk-weaker}
use Rattle.js_assert.specs.Pattern.{is_pattern, nests_too_deep}
use Rattle.js_assert.proofs.Compiled.{refused_is, pattern_is, built_is, shallow_is}
use Rattle.js_assert.proofs.pattern.Pattern.new.Goals as goal

pub returns-in-Ok-clause-read : goal.returns-in-Ok-clause-read
returns-in-Ok-clause-read c =
    let text = c.args.text.now in
    let is = built_is text c.in-Ok.regex c.in-Ok.ensures.source
    (record { config = c.in-Ok.ensures.config; read = c.in-Ok.ensures.read }) in
    IfOk-weaker c.boxed.result _ (λ _. is_pattern text ≡ true) (λ _ _. is) c.boxed.ensures.ok

pub returns-in-Ok-clause-shallow : goal.returns-in-Ok-clause-shallow
returns-in-Ok-clause-shallow c =
    let text = c.args.text.now in
    let is = built_is text c.in-Ok.regex c.in-Ok.ensures.source
    (record { config = c.in-Ok.ensures.config; read = c.in-Ok.ensures.read }) in
    IfOk-weaker c.boxed.result _ (λ _. nests_too_deep text ≡ false) (λ _ _. shallow_is text is) c.boxed.ensures.ok

pub returns-in-Err-Syntax-clause-refused : goal.returns-in-Err-Syntax-clause-refused
returns-in-Err-Syntax-clause-refused c =
    let g = rw c.in-Err-Syntax.field-0-is at c.in-Err-Syntax.ensures.by_grammar in
    let k = rw c.in-Err-Syntax.field-0-is at c.in-Err-Syntax.ensures.kind in
    refused_is c.args.text.now c.in-Err-Syntax.field-0-0.kind (g c.in-Err-Syntax.field-0-0 refl) k

pub returns-in-Err-CompiledTooBig-clause-refused : goal.returns-in-Err-CompiledTooBig-clause-refused
returns-in-Err-CompiledTooBig-clause-refused c =
    pattern_is c.args.text.now (rw c.in-Err-CompiledTooBig.field-0-is at c.in-Err-CompiledTooBig.ensures.kind)
