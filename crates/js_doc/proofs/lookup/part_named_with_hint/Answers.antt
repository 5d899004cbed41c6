use Rattle.std.proofs.Common.{ap, sym, ◌∙◌}
use Rattle.js_doc.specs.Seen.{value_of}
use Rattle.js_doc.specs.Lookup.{part_named}
use Rattle.js_doc.proofs.TokenLookup.{member_is}
use Rattle.js_doc.proofs.lookup.part_named_with_hint.Goals as goal

pub returns-in-Members : goal.returns-in-Members
returns-in-Members c = c.get_with_hint.ensures ∙ sym (ap (λ d. part_named c.args.token.now (value_of d)) c.in-Members.is
    ∙ member_is c.args.token.now c.in-Members.members)
