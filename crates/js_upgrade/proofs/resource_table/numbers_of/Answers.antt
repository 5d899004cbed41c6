use Rattle.std.proofs.Common.{◌-◌, Some, arith, ap, ◌∙◌, string_bytes, sym}
use Rattle.std.proofs.lemmas.Map.Text.{btree_map_updates_text}
use Rattle.js_upgrade.proofs.Tables.{filled_next}
use Rattle.js_upgrade.proofs.resource_table.numbers_of.Goals as goal

pub loop-i-preserved : goal.loop-i-preserved
loop-i-preserved c =
    let l = c.loop-i in
    let uri = c.in_ok-uri.uri in
    filled_next l.numbers c.insert.new.self uri (l.i - 1)
    (btree_map_updates_text (string_bytes uri) l.numbers c.insert.new.self (Some (l.i - 1))
    c.in_ok-insert.ensures.updates) l.i c.args.resources.now c.index-resources-i.result (omega arith) (omega arith)
    c.index-resources-i.is
    (c.in_ok-uri.ensures.cases ∙ ap (λ r. string_bytes r.uri) (sym c.index-resources-i.is)) l.invariant
