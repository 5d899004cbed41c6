use Rattle.std.proofs.Common.{◌≡◌, ◌++◌, map}
use Rattle.std.specs.List.{flat_map}
use Rattle.js_doc.specs.Seen.{pair_of}
use Rattle.js_bundle.specs.AssertionsAndPatterns.{assertion_at, patterns_of}
use Rattle.js_bundle.specs.code.Leads.{Leads}
use Rattle.js_bundle.specs.Refusals.{at_member}
use Rattle.js_bundle.specs.code.Scan.{site_of}
use Rattle.js_bundle.proofs.Checking.MembersByName.{StandIn}
use Rattle.js_bundle.proofs.check.first_pass.check_keywords.Given as goal

abbrev pub invariant-loop-keyword : goal.invariant-loop-keyword
invariant-loop-keyword l =
    let rules = at_member (map site_of l.known.sites.now) (site_of l.site) in
    let left = map pair_of l.keyword-iterator in
    record {
      stand : StandIn l.members left;
      leads : Leads (flat_map rules l.members) (flat_map rules left);
      assertions : l.built.assertions.items ++ flat_map (assertion_at l.members) left
          ≡ l.initial.built.assertions.items ++ flat_map (assertion_at l.members) l.members;
      patterns : l.built.patterns.items ++ flat_map patterns_of left
          ≡ l.initial.built.patterns.items ++ flat_map patterns_of l.members;
    }
