use Rattle.std.proofs.Common.{◌≡◌, ◌<◌, ◌+◌, ◌-◌, Bool, true, false, not, drop, length}
use Rattle.std.proofs.Common.{string_bytes, refl, sym, ap, ◌∙◌, arith}
use Rattle.js_doc.specs.Compact.{compact}
use Rattle.js_doc.specs.Seen.{value_of}
use Rattle.js_assert.proofs.Repeated.{is_key, is_text, texts_more, skipped}
use Rattle.js_assert.proofs.unique.first_repeated.Goals as goal

new_from : (a b : Bool) → a ≡ not b → a ≡ true → b ≡ false
new_from a true e h = absurd (cc)
new_from a false e h = refl

pub loop-i-preserved-then-branch : goal.loop-i-preserved-then-branch
loop-i-preserved-then-branch c =
    let l = c.loop-i in
    let ds = c.args.docs.now in
    let next : (l.i - 1) + 1 ≡ l.i = omega arith in
    let low : l.i - 1 < length ds = omega arith in
    let absent : is_key l.later.keys (string_bytes c.in_ok-text.field-0) ≡ false =
    new_from c.in_ok-insert.field-0 (is_key l.later.keys (string_bytes c.in_ok-text.field-0))
    c.in_ok-insert.ensures.added c.if-branch.true in
    let new : is_text (drop l.i ds) (compact (value_of c.index-docs-i.result)) ≡ false =
    ap (is_text (drop l.i ds)) (sym c.in_ok-text.ensures) ∙ sym (l.invariant.texts c.in_ok-text.field-0) ∙ absent in
    record {
      within = l.invariant.within;
      skipped = skipped ds (l.i - 1) l.i c.index-docs-i.result next low c.index-docs-i.is new ∙ l.invariant.skipped;
      texts = texts_more l.later.keys c.insert.new.self.keys ds (l.i - 1) l.i c.index-docs-i.result c.in_ok-text.field-0
          next low c.index-docs-i.is l.invariant.texts c.in_ok-text.ensures c.in_ok-insert.ensures.updates.0;
    }

pub loop-i-preserved : goal.loop-i-preserved
loop-i-preserved c =
    let l = c.loop-i in
    let ds = c.args.docs.now in
    let next : (l.i - 1) + 1 ≡ l.i = omega arith in
    let low : l.i - 1 < length ds = omega arith in
    record {
      within = omega arith;
      skipped = refl;
      texts = texts_more l.later.keys c.insert.new.self.keys ds (l.i - 1) l.i c.index-docs-i.result c.in_ok-text.field-0
          next low c.index-docs-i.is l.invariant.texts c.in_ok-text.ensures c.in_ok-insert.ensures.updates.0;
    }
