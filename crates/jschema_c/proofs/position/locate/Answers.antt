use Rattle.std.proofs.Common.{◌≡◌, ◌≢◌, None, IfSome, IsUtf8, length, map, sym, ap, ◌∙◌, subst}
use Rattle.json.specs.Json.{document}
use Rattle.js_doc.specs.Positions.{spots}
use Rattle.js_doc.specs.Spots.{spots_seen}
use Rattle.jschema_c.specs.Locating.{ArePointers, spots_told}
use Rattle.jschema_c.proofs.PointerTexts.{map_twice}
use Rattle.jschema_c.proofs.position.locate.Goals as goal

pub returns-in-Ok-Some-positions_of : goal.returns-in-Ok-Some-positions_of
returns-in-Ok-Some-positions_of c =
    let text = c.args.text.now in let bytes = c.args.pointers.now in let ends = c.args.ends.now in
    let ps = c.in-Ok-Some.parsed.items in let all = c.in-Ok-Some-positions_of.found.items in
    let lent = c.deref.result.now in
    let read = subst (λ o. IfSome o (λ v. ArePointers bytes 0 ends v.items × (length v.items ≡ length ends)))
    c.in-Ok-Some.field-0-is c.in-Ok-Some.ensures.some in
    let found = subst (λ o. IfSome o (λ v. IsUtf8 text × (document text ≢ None)
    × (map spots_seen v.items ≡ map (spots text) lent)))
    c.in-Ok-Some-positions_of.field-0-is c.in-Ok-Some-positions_of.ensures.found in (
      ps,
      read.0,
      found.0,
      found.1,
      c.put_all.ensures
          ∙ ap (map (λ s. spots_told (spots_seen s))) c.deref-in-Ok-Some-positions_of.ensures.value
          ∙ map_twice spots_seen spots_told all
          ∙ ap (map spots_told) (found.2 ∙ ap (map (spots text)) c.deref.ensures.value)
          ∙ sym (map_twice (spots text) spots_told ps),
    )
