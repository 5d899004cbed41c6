use Rattle.std.proofs.Common.{[], map, take, drop, option_map, MatchOption}
use Rattle.js_bundle.specs.AssertionsAndPatterns.{assertions_at, patterns_at}
use Rattle.js_bundle.specs.code.Positions.{BeginTexts, IsLast}
use Rattle.js_bundle.specs.code.Leads.{Leads}
use Rattle.js_bundle.specs.MemberKeywords.{member_keywords}
use Rattle.js_bundle.specs.Refusals.{first_pass}
use Rattle.js_bundle.specs.code.Scan.{site_of}
use Rattle.js_bundle.proofs.Indexing.PartsOfPlaces.{ArePartsSoFar}
use Rattle.js_bundle.proofs.Indexing.PositionsNext.{ArePositionsSoFar}
use Rattle.js_bundle.proofs.check.first_pass.first_pass.Given as goal

abbrev pub invariant-loop-i : goal.invariant-loop-i
invariant-loop-i l =
    let all = map site_of l.sites in
    let left = map site_of (drop l.i l.sites) in
    record {
      leads : Leads (first_pass [] all) (first_pass (map site_of (take l.i l.sites)) left);
      assertions : ArePartsSoFar assertions_at l.sites l.i l.passed.built.all.assertions.items
          l.passed.built.assertion_ends.items;
      patterns : ArePartsSoFar patterns_at l.sites l.i l.passed.built.all.patterns.items
          l.passed.built.pattern_ends.items;
      keywords : ArePartsSoFar member_keywords l.sites l.i l.passed.keywords.names.items l.passed.keywords.ends.items;
      positions : ArePositionsSoFar l.sites l.i l.passed.positions;
      before : IsLast (map site_of (take l.i l.sites)) (option_map (λ b. site_of b.now) l.before);
      begin : MatchOption l.before (Unit {0}) (λ b. BeginTexts l.prefixes (site_of b.now));
    }
