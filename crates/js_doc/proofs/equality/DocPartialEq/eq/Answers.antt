use Rattle.std.proofs.Common.{sym, ◌∙◌}
use Rattle.js_doc.specs.Equality.{same-sound, same-complete}
use Rattle.js_doc.specs.Seen.{value_of}
use Rattle.js_doc.proofs.equality.DocPartialEq.eq.Goals as goal

pub returns-clause-exact : goal.returns-clause-exact
returns-clause-exact c =
    let v = value_of c.args.self.now in
    let w = value_of c.args.other.now in
    (λ t. same-sound v w (sym c.equal.ensures ∙ t), λ e. c.equal.ensures ∙ same-complete v w e)
