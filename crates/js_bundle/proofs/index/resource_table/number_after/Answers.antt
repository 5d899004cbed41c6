use Rattle.std.proofs.Common.{◌≡◌, map, MatchOption, sym, subst, ◌∙◌}
use Rattle.js_bundle.specs.ResourceTable.{rank_of_root}
use Rattle.js_bundle.specs.code.Scan.{site_of}
use Rattle.js_bundle.proofs.Indexing.ResourceTableMade.{root_rank, root_marked, same_rank}
use Rattle.js_bundle.proofs.index.resource_table.number_after.Goals as goal

pub returns-then-mark_at : goal.returns-then-mark_at
returns-then-mark_at c =
    let all = map site_of c.args.sites.now in
    let site = site_of c.args.site.now in
    let n = c.args.number in
    root_rank all n site c.args.roots.ranks.now c.rank_under.result c.requires.apart c.requires.ranks c.requires.site
    (root_marked all n site c.args.roots.begins.now c.mark_at.result c.requires.begins c.requires.site c.mark_at.ensures
    c.if-mark_at.true) c.rank_under.ensures

pub returns-in-Some : goal.returns-in-Some
returns-in-Some c =
    let all = map site_of c.args.sites.now in
    subst (λ o. MatchOption o (Unit {0}) (λ b. b.resource ≡ rank_of_root all (site_of b.site.now)))
    c.in-Some.is c.requires.before
    ∙ same_rank all (site_of c.in-Some.before.site.now) (site_of c.args.site.now)
    (sym c.is_of_one.ensures ∙ c.if-is_of_one.true)
