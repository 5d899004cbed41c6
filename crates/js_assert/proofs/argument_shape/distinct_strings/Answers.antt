use Rattle.std.proofs.Common.{◌≡◌, ◌+◌, ◌++◌, [], ◌∷◌, Bool, true, false, not, map, drop}
use Rattle.std.proofs.Common.{length, refl, sym, ap, ◌∙◌, subst, arith}
use Rattle.std.proofs.lemmas.List.{length_push}
use Rattle.std.specs.List.{list_any}
use Rattle.std.specs.Str.{bytes_eq}
use Rattle.js_doc.specs.Seen.{value_of}
use Rattle.js_doc.specs.Value.{text}
use Rattle.js_assert.specs.ArgumentShape.{are_new_names}
use Rattle.js_assert.proofs.Names.{HasSeen, is_key, seen_more, names_more, read_more}
use Rattle.js_assert.proofs.argument_shape.distinct_strings.Goals as goal

new_from : (a b : Bool) → a ≡ not b → a ≡ true → b ≡ false
new_from a true e h = absurd (cc)
new_from a false e h = refl

pub loop-doc-preserved : goal.loop-doc-preserved
loop-doc-preserved c =
    let l = c.loop-doc in
    let name = c.in-Text.name in
    let ds = c.args.docs.now in
    let old = l.seen.keys in
    let new = c.insert.new.self.keys in
    let lent : c.as_str.result.now ≡ name = c.as_str.ensures in
    let pushed : c.push_reserved.new.self.items ≡ l.names.items ++ name ∷ [] = c.push_reserved.ensures.items
    ∙ ap (λ n. l.names.items ++ n ∷ []) c.in_ok-copy.ensures in
    let absent : is_key old c.as_str.result.now ≡ false = new_from c.in_ok-insert.field-0
    (is_key old c.as_str.result.now) c.in_ok-insert.ensures.added c.if-not-branch.false in
    let fresh : list_any (bytes_eq name) l.names.items ≡ false =
    ap (λ n. list_any (bytes_eq n) l.names.items) (sym lent) ∙ sym (l.invariant.seen c.as_str.result) ∙ absent in
    let more : HasSeen new (l.names.items ++ c.as_str.result.now ∷ []) =
    seen_more old new l.names.items c.as_str.result l.invariant.seen c.in_ok-insert.ensures.updates.0 in
    record {
      read = read_more l.names.items ds l.doc-index c.doc-item.result name c.loop-doc-test.true c.doc-item.is
          (ap value_of c.in-Text.is) l.invariant.read ∙ ap (map text) (sym pushed);
      rest = l.invariant.rest ∙ names_more l.names.items ds l.doc-index c.doc-item.result name c.loop-doc-test.true
          c.doc-item.is (ap value_of c.in-Text.is) fresh
          ∙ ap (λ ns. are_new_names ns (map value_of (drop (l.doc-index + 1) ds))) (sym pushed);
      seen = subst (HasSeen new) (ap (λ n. l.names.items ++ n ∷ []) lent ∙ sym pushed) more;
      count = ap length pushed ∙ length_push l.names.items name ∙ ap (λ n. n + 1) l.invariant.count;
      room = omega (arith, l.invariant.room, c.push_reserved.ensures.capacity);
    }
