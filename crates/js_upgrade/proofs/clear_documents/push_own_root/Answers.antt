use Rattle.std.proofs.Common.{◌++◌, ◌∙◌, ap, map, sym}
use Rattle.std.proofs.lemmas.List.{append-nil}
use Rattle.js_doc.specs.Seen.{value_of}
use Rattle.js_upgrade.specs.Seen.{resource_seen}
use Rattle.js_upgrade.proofs.ClearDocuments.{no_own_root}
use Rattle.js_upgrade.proofs.clear_documents.push_own_root.Goals as goal

pub returns-in-None : goal.returns-in-None
returns-in-None c =
    let found = map resource_seen c.args.out.now.items in
    sym (ap (λ rs. found ++ rs) (no_own_root c.args.dialect c.own_dialect.result c.args.uri.now c.in-Members.siblings
    (value_of c.args.root.now) (ap value_of c.in-Members.is) c.own_dialect.ensures
    (sym c.in-None.is ∙ c.in_ok-base-in-Members.ensures)) ∙ append-nil found)
