use Rattle.std.proofs.Common.{◌≡◌, drop}
use Rattle.js_doc.specs.Seen.{value_of}
use Rattle.js_upgrade.specs.Apart.{apart}
use Rattle.js_upgrade.specs.declared.holding.SchemaHolding.TheVariants.{One}
use Rattle.js_upgrade.proofs.apart.apart.Given as goal

-- the tokens left decide
abbrev pub invariant-loop-i : goal.invariant-loop-i
invariant-loop-i l =
    apart l.held.holding l.held.dialect (value_of l.here) (drop l.i l.tokens)
    ≡ apart One l.fn.dialect (value_of l.root) l.tokens
