use Rattle.std.proofs.Common.{◌≡◌, [], drop, append-nil, sym, subst, arith}
use Rattle.std.proofs.lemmas.List.{drop_all}
use Rattle.jschema_c.specs.Locating.{ArePointers}
use Rattle.jschema_c.proofs.position.parse_all.Goals as goal

pub returns-clause-some : goal.returns-clause-some
returns-clause-some c =
    let bytes = c.args.bytes.now in let ends = c.args.ends.now in let l = c.loop-end.invariant in
    let over : drop c.loop-end.end-index ends ≡ [] = drop_all c.loop-end.end-index ends (omega arith) in
    let none_left = subst (λ es. ArePointers bytes c.loop-end.start es []) (sym over) tt in
    (subst (ArePointers bytes 0 ends) (append-nil c.loop-end.all.items) (l.are [] none_left), omega (arith, l.count))
