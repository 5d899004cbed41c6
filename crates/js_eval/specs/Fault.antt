-- What a fault of a walk says.
use Rattle.js_eval.specs.declared.evaluation.fault.WalkFault.{WalkFault}
use Rattle.js_eval.specs.declared.evaluation.fault.WalkFault.TheVariants.{Memory, TooLarge}

-- nothing is claimed about `Memory`
abbrev pub OnTooLarge : WalkFault → Type 0 → Type 0
OnTooLarge Memory P = Unit {0}
OnTooLarge TooLarge P = P
