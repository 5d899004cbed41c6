use Rattle.std.proofs.Common.{codes, subst}
use Rattle.js_doc.specs.Members.{get}
use Rattle.js_upgrade.specs.code.Clear.{CopiesNothing}
use Rattle.js_upgrade.specs.code.Table.{all_of}
use Rattle.js_upgrade.proofs.clear_documents.is_clear_inside.Goals as goal

pub returns-then-copies_nothing : goal.returns-then-copies_nothing
returns-then-copies_nothing c = λ is. (
  subst (λ base. CopiesNothing (all_of c.args.scopes.now.roots.resources.now) base
      (get (codes "$ref") c.args.siblings.now))
      c.args.scopes.now.based
      (subst (CopiesNothing (all_of c.args.scopes.now.roots.resources.now) c.args.scopes.now.roots.base.now)
      c.found.ensures
      (c.copies_nothing.ensures c.if-copies_nothing.true)),
  c.are_clear_keywords.ensures is,
)
