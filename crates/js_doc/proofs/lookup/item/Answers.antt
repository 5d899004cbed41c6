use Rattle.std.proofs.Common.{◌≡◌, ◌+◌, decimal, sym, ap, ◌∙◌, arith, Some, refl}
use Rattle.std.proofs.lemmas.Fmt.{decimal_injective}
use Rattle.js_doc.specs.Seen.{value_of}
use Rattle.js_doc.proofs.TokenLookup.{named_at, named_none}
use Rattle.js_doc.proofs.lookup.item.Goals as goal

pub returns-in_default : goal.returns-in_default
returns-in_default c = sym
    (named_none c.args.token.now c.args.docs.now 0 (λ n l is. c.in_default.ensures.none refl n (omega arith) is))

pub returns-then-n-docs : goal.returns-then-n-docs
returns-then-n-docs c =
    let zero : c.in-Some.n ≡ 0 + c.in-Some.n = omega arith in
    ap (λ d. Some (value_of d)) c.index-docs-n.is ∙ sym (named_at c.args.token.now c.args.docs.now 0 c.in-Some.n
    c.index-docs-n.result (c.in-Some.ensures.some ∙ ap decimal zero) c.if-n-docs.true (omega arith))

pub returns-else-n-docs : goal.returns-else-n-docs
returns-else-n-docs c = sym (named_none c.args.token.now c.args.docs.now 0 (λ n l is. let same : c.in-Some.n
    ≡ n = decimal_injective c.in-Some.n n (omega arith) (omega arith) (sym c.in-Some.ensures.some ∙ is) in omega arith))
