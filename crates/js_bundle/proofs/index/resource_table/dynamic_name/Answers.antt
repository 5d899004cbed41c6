use Rattle.js_bundle.specs.code.Scan.{site_of}
use Rattle.js_bundle.proofs.Indexing.NoKeyword.{no_dynamic_anchor}
use Rattle.js_bundle.proofs.index.resource_table.dynamic_name.Goals as goal

pub returns : goal.returns
returns c = no_dynamic_anchor (site_of c.args.site.now) c.args.names.now c.contains.result c.requires
    c.contains.ensures.value c.if-contains.false
