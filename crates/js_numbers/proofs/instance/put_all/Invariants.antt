use Rattle.std.proofs.Common.{◌≡◌, ◌++◌, length, map}
use Rattle.json.specs.Print.{ArePrintable}
use Rattle.js_numbers.specs.Instance.{exact_token}
use Rattle.js_numbers.proofs.instance.put_all.Given as goal

abbrev pub invariant-loop-token : goal.invariant-loop-token
invariant-loop-token g l = record {
  printable : ArePrintable l.reader;
  before : l.writer.before ≡ l.initial.writer.before;
  tokens : l.writer.tokens ++ map exact_token l.reader ≡ l.initial.writer.tokens ++ map exact_token l.initial.reader;
}

abbrev pub decreases-loop-token : goal.decreases-loop-token
decreases-loop-token g l = length l.reader
