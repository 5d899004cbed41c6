use Rattle.std.proofs.Common.{map, Some, ap, ◌∙◌}
use Rattle.js_bundle.specs.code.Scan.{site_of}
use Rattle.js_bundle.specs.ResourceTable.{count_begun}
use Rattle.js_bundle.proofs.Indexing.ResourceTableMade.{begun_are_roots, ranks_are_numbers}
use Rattle.js_bundle.proofs.index.resource_table.resources_of.Goals as goal

pub name_all-requires-clause-numbers : goal.name_all-requires-clause-numbers
name_all-requires-clause-numbers c = ap (map Some) (c.as_slice-2.ensures.value ∙ c.in_ok-numbers.ensures)
    ∙ ranks_are_numbers (map site_of c.args.sites.now) c.requires.rooted

pub name_all-requires-clause-many : goal.name_all-requires-clause-many
name_all-requires-clause-many c =
    let all = map site_of c.args.sites.now in
    c.in_ok-ranks.ensures.many
    ∙ ap count_begun (c.as_slice-begins.ensures.value ∙ c.requires.positions.roots) ∙ begun_are_roots all

pub returns : goal.returns
returns c = record {
  numbers = ap (map Some) c.in_ok-numbers.ensures ∙ ranks_are_numbers (map site_of c.args.sites.now) c.requires.rooted;
  anchors = c.in_ok-name_all.ensures;
}
