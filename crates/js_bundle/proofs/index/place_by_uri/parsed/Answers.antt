use Rattle.std.proofs.Common.{ap, ◌∙◌, Err}
use Rattle.js_bundle.proofs.Indexing.FoundByText.{tokens_read, no_tokens_read}
use Rattle.js_bundle.proofs.index.place_by_uri.parsed.Goals as goal

pub returns-in-Ok : goal.returns-in-Ok
returns-in-Ok c = tokens_read c.args.text.now c.in-Ok.pointer c.in-Ok.ensures.reads

pub returns-in-Err-BadPointer : goal.returns-in-Err-BadPointer
returns-in-Err-BadPointer c = no_tokens_read c.args.text.now
    (c.parse.ensures.bad (c.in-Err-BadPointer.is ∙ ap Err c.in-Err-BadPointer.field-0-is))
