use Rattle.std.proofs.Common.{◌≡◌, ◌+◌, ◌++◌, ◌∷◌, [], if◌then◌else◌, drop, get_or, sym, ap, ◌∙◌, subst, arith}
use Rattle.std.proofs.lemmas.List.{drop_more}
use Rattle.js_doc.specs.Positions.{begins, spot_at}
use Rattle.js_doc.specs.Spots.{spot_seen}
use Rattle.js_doc.specs.code.Modes.{mode_of}
use Rattle.js_doc.specs.code.SpotTable.{AreBegun}
use Rattle.js_doc.proofs.SpotTable.{RestBegins, RestCounts, all_begun, begun_past, counted_here, counts_past}
use Rattle.js_doc.proofs.SpotTable.{rest_past}
use Rattle.js_doc.proofs.positions.spots.spots.Goals as goal

pub loop-byte-preserved : goal.loop-byte-preserved
loop-byte-preserved c =
    let text = c.args.text.now in let i = c.loop-byte.byte-index in let l = c.loop-byte.invariant in
    let table = c.loop-byte.spots.items in let s = c.loop-byte.here in let m = mode_of c.loop-byte.within in
    let x = get_or text i 0 in let rest = drop (i + 1) text in let b = c.begins.result in
    let first : drop i text ≡ x ∷ rest = drop_more text i 0 (omega arith) in
    let e : begins m x ≡ b = sym c.begins.ensures in
    let h = subst (RestBegins text table i m) first l.begins in
    let counted = subst (RestCounts text i s.line s.column) first l.counts in
    let here : spot_seen s ≡ spot_at text i = ap (λ o. (o, (s.line, s.column))) l.offset
    ∙ counted_here text i s.line s.column (x ∷ rest) counted in
    let now = if b then table ++ s ∷ [] else table in
    let pushed : c.push_if.new.spots.items ≡ now = c.in_ok-push_if.ensures in
    record {
      offset = c.spot_past-here.ensures.offset ∙ ap (λ k. k + 1) l.offset;
      line = omega (arith, c.spot_past-here.ensures.small.0, l.line);
      column = omega (arith, c.spot_past-here.ensures.small.1, l.column);
      begun = subst (AreBegun text) (sym pushed) (begun_past text table s i m x rest b e h here l.begun);
      begins = subst (λ t. RestBegins text t (i + 1) (mode_of c.past-within.result) rest) (sym pushed)
          (subst (λ k. RestBegins text now (i + 1) k rest) (sym c.past-within.ensures)
          (rest_past text table s i m x rest b e h));
      counts = subst (λ p. RestCounts text (i + 1) p.0 p.1 rest) (sym c.spot_past-here.ensures.is)
          (counts_past text i s.line s.column x rest counted);
    }

pub returns : goal.returns
returns c =
    all_begun c.args.text.now c.loop-byte.spots.items c.loop-byte.byte-index (mode_of c.loop-byte.within) (omega arith)
    (omega arith) c.loop-byte.invariant.begins c.loop-byte.invariant.begun
