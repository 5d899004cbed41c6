use Rattle.std.proofs.Common.{arith}
use Rattle.std.proofs.lemmas.Nat.Gcd.{IsGcd-from_mod, IsGcd-from_zero}
use Rattle.js_numbers.proofs.Divisors.{gcd_from}
use Rattle.js_numbers.proofs.numerator.gcd.Goals as goal

pub loop-next-preserved : goal.loop-next-preserved
loop-next-preserved c = record {
  some = omega arith;
  keeps = λ g h. c.loop-next.invariant.keeps g (IsGcd-from_mod c.loop-next.last c.loop-next.next g h);
}

pub returns-clause-same : goal.returns-clause-same
returns-clause-same c =
    gcd_from c.args.a c.args.b c.loop-next.last
    (c.loop-next.invariant.keeps c.loop-next.last (IsGcd-from_zero c.loop-next.last c.loop-next.next (omega arith)))
