use Rattle.std.proofs.Common.{◌-◌, length, get_or, Greater}
use Rattle.js_doc.proofs.Placing.{last_place, compared, goes_last}
use Rattle.js_doc.proofs.places.place.Goals as goal

pub returns-in-Greater-clause-err : goal.returns-in-Greater-clause-err
returns-in-Greater-clause-err c =
    let es = c.args.entries.now in
    let is = compared c.args.name.now _ (get_or es (length es - 1) c.index-entries-len.result) Greater _
    c.name_order.ensures c.as_str.ensures c.in-Greater.is in
    goes_last c.args.name.now es _ _ c.requires (last_place (length es) c.if-len-eq0.false).1 is
