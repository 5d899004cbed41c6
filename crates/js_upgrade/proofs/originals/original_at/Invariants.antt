use Rattle.std.proofs.Common.{◌≡◌, drop}
use Rattle.js_doc.specs.Seen.{value_of}
use Rattle.js_upgrade.specs.Originals.{joined_tokens, original}
use Rattle.js_upgrade.specs.declared.holding.SchemaHolding.TheVariants.{One}
use Rattle.js_upgrade.specs.declared.originals.Way.TheVariants.{Held}
use Rattle.js_upgrade.proofs.originals.original_at.Given as goal

-- what was added and what the rest comes from make the whole
abbrev pub invariant-loop-i : goal.invariant-loop-i
invariant-loop-i l =
    joined_tokens l.out (original l.at.way l.at.dialect (value_of l.at.value.now) (drop l.i l.tokens))
    ≡ joined_tokens l.initial.out (original (Held One) l.fn.dialect (value_of l.schema) l.tokens)
