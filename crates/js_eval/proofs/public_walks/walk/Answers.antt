use Rattle.std.proofs.Common.{◌∙◌, sym, subst}
use Rattle.js_doc.specs.Seen.{value_of}
use Rattle.js_tree.proofs.WholeTreeCollected.{boxed_held}
use Rattle.js_eval.specs.Result.{standard_limits}
use Rattle.js_eval.specs.Walked.{IsResultWithin}
use Rattle.js_eval.proofs.Options.{some_there, same_there}
use Rattle.js_eval.proofs.public_walks.walk.Goals as goal

pub unwrap-requires : goal.unwrap-requires
unwrap-requires c =
    let h = c.in-Ok.ensures.ok in
    some_there c.tree.result h.result
    (c.tree.ensures ∙ boxed_held h.result c.new.result c.in-Ok.boxed c.new.ensures h.passes)

pub returns-in-Ok-clause-ok : goal.returns-in-Ok-clause-ok
returns-in-Ok-clause-ok c =
    let h = c.in-Ok.ensures.ok in
    let e = same_there c.tree.result c.unwrap.result h.result c.unwrap.ensures
    (c.tree.ensures ∙ boxed_held h.result c.new.result c.in-Ok.boxed c.new.ensures h.passes) in
    subst (λ t. IsResultWithin standard_limits c.args.schemas.now c.args.place (value_of c.args.value.now) t) (sym e)
    h.within
