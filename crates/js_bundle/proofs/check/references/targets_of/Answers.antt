use Rattle.std.proofs.Common.{codes, map}
use Rattle.js_bundle.specs.code.Scan.{site_of}
use Rattle.js_bundle.proofs.Checking.NoReference.{no_ref, no_dynamic_ref, no_target, no_dynamic, clear_without}
use Rattle.js_bundle.proofs.check.references.targets_of.Goals as goal

pub returns-clause-clear : goal.returns-clause-clear
returns-clause-clear c =
    let place = site_of c.args.site.now in
    clear_without (map site_of c.args.known.sites.now) place (no_dynamic_ref place c.args.names.now c.contains-2.result
    c.requires.names c.contains-2.ensures.value c.if-contains-2.false)
    (no_ref place c.args.names.now c.contains.result c.requires.names c.contains.ensures.value c.if-contains.false)

pub returns-clause-dynamic : goal.returns-clause-dynamic
returns-clause-dynamic c =
    let place = site_of c.args.site.now in
    no_dynamic (map site_of c.args.known.sites.now) place (no_dynamic_ref place c.args.names.now c.contains-2.result
    c.requires.names c.contains-2.ensures.value c.if-contains-2.false)

pub returns-clause-plain : goal.returns-clause-plain
returns-clause-plain c =
    let place = site_of c.args.site.now in
    no_target (map site_of c.args.known.sites.now) (codes "$ref") place
    (no_ref place c.args.names.now c.contains.result c.requires.names c.contains.ensures.value c.if-contains.false)
