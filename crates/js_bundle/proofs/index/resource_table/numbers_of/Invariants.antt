use Rattle.std.proofs.Common.{◌≡◌, ◌≤◌, ◌++◌, map, drop, length, vec_capacity, MatchOption}
use Rattle.js_bundle.specs.ResourceTable.{rank_of_root}
use Rattle.js_bundle.specs.code.Scan.{site_of}
use Rattle.js_bundle.proofs.index.resource_table.numbers_of.Given as goal

abbrev pub invariant-loop-i : goal.invariant-loop-i
invariant-loop-i l =
    let all = map site_of l.sites in
    record {
      written : l.numbers.items ++ map (rank_of_root all) (map site_of (drop l.i l.sites)) ≡ map (rank_of_root all) all;
      count : length l.numbers.items ≡ l.i;
      room : length l.sites ≤ vec_capacity l.numbers;
      before : MatchOption l.before (Unit {0}) (λ b. b.resource ≡ rank_of_root all (site_of b.site.now));
    }
