use Rattle.std.proofs.Common.{◌≡◌, [], ◌∷◌, ◌++◌, map}
use Rattle.std.specs.List.{flat_map}
use Rattle.js_doc.specs.Seen.{pair_of}
use Rattle.js_doc.specs.Value.{Value}
use Rattle.js_bundle.specs.AssertionsAndPatterns.{pattern_at}
use Rattle.js_bundle.specs.Keyword.{Text}
use Rattle.js_bundle.specs.code.Leads.{Leads}
use Rattle.js_bundle.specs.Refusals.{at_pattern}
use Rattle.js_bundle.specs.code.Scan.{site_of}
use Rattle.js_bundle.proofs.check.assertions_and_patterns.read_patterns.Given as goal

abbrev pub invariant-loop-name : goal.invariant-loop-name
invariant-loop-name l =
    let f = λ (n : Text × Value). at_pattern (site_of l.at.site.now) (l.at.keyword.now ∷ n.0 ∷ []) n.0 in
    record {
      leads : Leads (flat_map f l.members) (flat_map f (map pair_of l.name-iterator));
      built : l.out.items ++ map pattern_at (map pair_of l.name-iterator)
          ≡ l.initial.out.items ++ map pattern_at l.members;
    }
