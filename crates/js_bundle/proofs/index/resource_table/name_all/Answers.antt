use Rattle.std.proofs.Common.{get_or, arith}
use Rattle.js_bundle.proofs.Indexing.ResourceTableMade.{number_under, resource_there, named_next}
use Rattle.js_bundle.proofs.Indexing.KeywordsOfPlace.{names_are}
use Rattle.js_bundle.proofs.index.resource_table.name_all.Goals as goal

pub name-requires-clause-resource : goal.name-requires-clause-resource
name-requires-clause-resource c =
    let l = c.loop-i in
    let ss = c.args.sites.now in
    let x = c.index-sites-i.result in
    resource_there ss l.i (get_or c.args.numbers.now l.i 0) x l.anchors.items
    (number_under ss c.args.numbers.now l.i x c.requires.numbers (omega arith) c.index-sites-i.is) l.invariant.many

pub name-requires-clause-names : goal.name-requires-clause-names
name-requires-clause-names c =
    names_are c.args.sites.now c.loop-i.i c.index-sites-i.result c.args.keywords.now c.part_of_place-names.result.now
    c.as_slice.result.now c.as_slice-in-loop-i.result.now c.requires.keywords (omega arith)
    c.index-sites-i.is c.as_slice.ensures.value c.as_slice-in-loop-i.ensures.value c.part_of_place-names.ensures

pub loop-i-preserved : goal.loop-i-preserved
loop-i-preserved c =
    let l = c.loop-i in
    named_next c.args.sites.now c.args.numbers.now l.i c.index-sites-i.result l.anchors.items c.name.new.anchors.items
    c.requires.rooted c.requires.numbers (omega arith) c.index-sites-i.is c.in_ok-name.ensures
    l.invariant
