use Rattle.js_assert.proofs.Counting.{alike_whatever_matches}
use Rattle.js_assert.proofs.laws.only_counting_asks.Goals as goal

pub returns : goal.returns
returns c = alike_whatever_matches
