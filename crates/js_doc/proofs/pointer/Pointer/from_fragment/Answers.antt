use Rattle.std.proofs.Common.{◌≡◌, ◌∙◌, sym, subst, ap}
use Rattle.std.specs.Str.{IsUtf8}
use Rattle.percent_encoding.specs.declared.DecodeError.TheVariants.{OutOfMemory}
use Rattle.js_doc.specs.Pointer.{pointer_text}
use Rattle.percent_encoding.specs.Percent.{percent_decode}
use Rattle.js_doc.proofs.TextBytes.{fragment_back}
use Rattle.js_doc.proofs.pointer.Pointer.from_fragment.Goals as goal

pub returns-in-Ok-clause-back : goal.returns-in-Ok-clause-back
returns-in-Ok-clause-back c = λ p u is.
    let text : pointer_text p ≡ c.as_str.result.now =
    sym (c.as_str.ensures.value ∙ c.in-Ok.ensures.value ∙ c.percent_decode.ensures.bytes
    ∙ ap percent_decode c.as_bytes.ensures.value ∙ fragment_back p c.args.fragment.now u is) in
    (c.parse.ensures.back p text, λ e. c.parse.ensures.bad e p text)

pub returns-in-Err-Utf8-clause-back : goal.returns-in-Err-Utf8-clause-back
returns-in-Err-Utf8-clause-back c = λ p u is.
    let path = c.percent_decode.ensures.bytes ∙ ap percent_decode c.as_bytes.ensures.value
    ∙ fragment_back p c.args.fragment.now u is in
    let memory : c.in-Err-Utf8.field-0 ≡ OutOfMemory = c.in-Err-Utf8.ensures.utf8 (subst IsUtf8 (sym path) u) in
    absurd (cc (memory, c.in-Err-Utf8.field-0-is))
