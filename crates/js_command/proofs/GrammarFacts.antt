-- `clap` says of this grammar which words it takes, and what it gives.
use Rattle.std.proofs.Common.{◌≡◌, true, refl}
use Rattle.clap.specs.Words.{is_simple, is_simple_and_free}
use Rattle.clap.proofs.OnLiterals.{clap_on_literals}
use Rattle.js_command.specs.Grammar.{grammar}

pub simple : is_simple grammar ≡ true
unfolding clap_on_literals
simple = refl

pub free : is_simple_and_free grammar ≡ true
unfolding clap_on_literals
free = refl
