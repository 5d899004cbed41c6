use Rattle.std.proofs.Common.{◌≡◌, ◌∷◌, ap, ◌∙◌, arith, refl, sym, Some}
use Rattle.js_doc.specs.Value.{text}
use Rattle.js_upgrade.specs.Url.{uri_printed}
use Rattle.js_upgrade.proofs.EachOnce.{text_seen}
use Rattle.js_upgrade.proofs.RepeatedUris.{uri_next, uri_stops}
use Rattle.js_upgrade.proofs.checking.repeated_fault.Goals as goal

pub loop-i-preserved : goal.loop-i-preserved
loop-i-preserved c =
    let l = c.loop-i in
    let uris = l.invariant.0 in
    let x = c.index-sources-i.result in
    let uri = uri_printed x.uri in
    let lent : c.uri_printed.result.now ≡ uri = c.uri_printed.ensures
    ∙ ap (λ s. uri_printed s.uri) (sym c.index-sources-i.is) in
    let known = text_seen l.seen.keys c.insert.new.self.keys uris c.uri_printed.result uri (text uri)
    c.in_ok-insert.field-0 refl lent c.in_ok-insert.ensures.added c.in_ok-insert.ensures.updates.0 l.invariant.1 in (
      uri ∷ uris,
      known.1,
      uri_next uris c.args.sources.now l.i x c.in_ok-insert.field-0 _ (omega arith) c.index-sources-i.is known.0
          l.invariant.2 c.if-not-branch.false,
    )

pub returns-then-not-branch : goal.returns-then-not-branch
returns-then-not-branch c =
    let l = c.loop-i in
    let uris = l.invariant.0 in
    let x = c.index-sources-i.result in
    let uri = uri_printed x.uri in
    let lent : c.uri_printed.result.now ≡ uri = c.uri_printed.ensures
    ∙ ap (λ s. uri_printed s.uri) (sym c.index-sources-i.is) in
    let known = text_seen l.seen.keys c.insert.new.self.keys uris c.uri_printed.result uri (text uri)
    c.in_ok-insert.field-0 refl lent c.in_ok-insert.ensures.added c.in_ok-insert.ensures.updates.0 l.invariant.1 in
    ap Some c.of_document.ensures
    ∙ uri_stops uris c.args.sources.now l.i x c.in_ok-insert.field-0 _ (omega arith) c.index-sources-i.is known.0
    l.invariant.2 c.if-not-branch.true
