use Rattle.std.proofs.Common.{Some, None, sym, ap, ◌∙◌}
use Rattle.js_doc.specs.Seen.{value_of}
use Rattle.js_doc.specs.Lookup.{part_named}
use Rattle.js_doc.proofs.LastToken.{at_split}
use Rattle.js_doc.proofs.doc.Doc.at_with_hint.Goals as goal

pub returns-in-Some-at_tokens : goal.returns-in-Some-at_tokens
returns-in-Some-at_tokens c =
    let found = value_of c.in-Some-at_tokens.doc.now in
    c.part_named_with_hint.ensures ∙ ap (λ token. part_named token found) c.as_str.ensures
    ∙ at_split c.args.pointer.now c.in-Some.above.now c.in-Some.last.now (value_of c.args.self.now) (Some found)
    (sym c.tokens.ensures ∙ c.in-Some.ensures.cases.0) c.in-Some-at_tokens.ensures

pub returns-in-None-at_tokens : goal.returns-in-None-at_tokens
returns-in-None-at_tokens c =
    at_split c.args.pointer.now c.in-Some.above.now c.in-Some.last.now (value_of c.args.self.now) None
    (sym c.tokens.ensures ∙ c.in-Some.ensures.cases.0) c.in-None-at_tokens.ensures
