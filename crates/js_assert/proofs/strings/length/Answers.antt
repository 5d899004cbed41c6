use Rattle.std.proofs.Common.{rules, ◌≡◌, ◌∙◌, [], ap, length, sym}
use Rattle.std.proofs.lemmas.Str.{chars-nil}
use Rattle.js_doc.specs.Seen.{value_of}
use Rattle.js_assert.specs.Argument.{string}
use Rattle.js_assert.specs.Strings.{characters}
use Rattle.js_assert.proofs.strings.length.Goals as goal

pub returns-in_default : goal.returns-in_default
returns-in_default c =
    let e : string (value_of c.args.value.now) ≡ [] = search rules in
    sym (ap characters e ∙ ap length chars-nil)
