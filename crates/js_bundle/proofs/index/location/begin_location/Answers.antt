use Rattle.std.proofs.Common.{◌-◌, ◌≤◌, length, option_map, MatchOption, subst, sym, ◌∙◌}
use Rattle.js_bundle.specs.code.TextPrefix.{BeginsLocation, shared_with}
use Rattle.js_bundle.specs.code.Scan.{site_of}
use Rattle.js_bundle.proofs.Indexing.SharedTokens.{location_goes_on}
use Rattle.js_bundle.proofs.index.location.begin_location.Goals as goal

pub returns-in-Some-clause-begins : goal.returns-in-Some-clause-begins
returns-in-Some-clause-begins c =
    let b = c.args.prefix.now in let site = site_of c.args.pair.site.now in
    location_goes_on b (site_of c.in-Some.before.now) site c.args.most
    (subst (λ o. MatchOption o (Unit {0}) (λ x. BeginsLocation b (site_of x.now))) c.in-Some.is c.requires.before)
    (sym c.begins_as.ensures ∙ c.if-begins_as.true) c.if-prefix-most.true
    (subst (λ o. c.args.most ≤ shared_with (option_map (λ x. site_of x.now) o) site - length site.own.resource)
    c.in-Some.is c.requires.most)
