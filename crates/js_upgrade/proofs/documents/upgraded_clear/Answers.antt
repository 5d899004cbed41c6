use Rattle.std.proofs.Common.{◌≡◌, Some, map}
use Rattle.std.proofs.lemmas.Result.{IfOk-weaker}
use Rattle.js_doc.specs.Seen.{value_of}
use Rattle.js_upgrade.specs.Documents.{upgraded_among, upgraded_with}
use Rattle.js_upgrade.specs.Seen.{source_of}
use Rattle.js_upgrade.specs.code.Table.{all_of}
use Rattle.js_upgrade.proofs.KnownDialects.{upgraded_whole}
use Rattle.js_upgrade.proofs.documents.upgraded_clear.Goals as goal

pub returns : goal.returns
returns c =
    let all = all_of c.args.resources.now in
    let sources = map source_of c.args.sources.now in
    let copies = c.args.copies.now in
    IfOk-weaker c.each_upgraded.result (λ v. map value_of v.items ≡ map (upgraded_among all) sources)
    (λ v. upgraded_with copies sources ≡ Some (map value_of v.items))
    (λ v made. upgraded_whole copies all sources (map value_of v.items) c.requires.resources c.requires.clear made)
    c.each_upgraded.ensures
