use Rattle.std.proofs.Common.{◌≡◌, ◌<◌, true, false, length, bytes_eq, refl, sym, ap₂, ◌∙◌, arith, rules}
use Rattle.js_doc.specs.Equality.{same}
use Rattle.js_doc.specs.Seen.{value_of}
use Rattle.js_doc.proofs.Alike.{same_text, items_apart, entries_apart, entries_step}
use Rattle.js_doc.proofs.equality.+equal.Goals as goal

pub equal_items-returns-then-a-b : goal.equal_items-returns-then-a-b
equal_items-returns-then-a-b t c = items_apart c.args.a.now c.args.b.now (search rules)

pub equal-returns-in-Text-Text : goal.equal-returns-in-Text-Text
equal-returns-in-Text-Text t c =
    let both = c.in-Text-Text in
    let texts : bytes_eq c.as_str.result.now c.as_str-in-Text-Text.result.now
    ≡ bytes_eq both.x both.y = ap₂ bytes_eq c.as_str.ensures c.as_str-in-Text-Text.ensures in
    c.eq.ensures ∙ texts ∙ sym (same_text both.x both.y)
    ∙ ap₂ (λ a b. same (value_of a) (value_of b)) (sym both.is-0) (sym both.is-1)

pub equal_entries-returns-then-a-b : goal.equal_entries-returns-then-a-b
equal_entries-returns-then-a-b t c = entries_apart c.args.a.now c.args.b.now (search rules)

pub equal_entries-returns-then-ne : goal.equal_entries-returns-then-ne
equal_entries-returns-then-ne t c =
    let low : c.loop-i.i < length c.args.b.now = omega (arith, c.loop-i-test.true, c.if-a-b.false) in
    sym (c.loop-i.invariant ∙ entries_step c.args.a.now c.args.b.now c.loop-i.i c.index-a-i.result c.index-b-i.result
    false _ c.loop-i-test.true low (search rules) refl)

pub equal_entries-loop-i-preserved : goal.equal_entries-loop-i-preserved
equal_entries-loop-i-preserved t c =
    let low : c.loop-i.i < length c.args.b.now = omega (arith, c.loop-i-test.true, c.if-a-b.false) in
    let equal = ap₂ (λ d e. same (value_of d.1) (value_of e.1)) (sym c.index-a-i.is) (sym c.index-b-i.is)
    ∙ (sym c.equal.ensures ∙ c.if-not-equal.false) in
    c.loop-i.invariant ∙ entries_step c.args.a.now c.args.b.now c.loop-i.i c.index-a-i.result c.index-b-i.result true
    true c.loop-i-test.true low (search rules) equal
