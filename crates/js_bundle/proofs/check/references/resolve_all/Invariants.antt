use Rattle.std.proofs.Common.{◌≤◌, codes, map, take, drop, length, nat_eq}
use Rattle.std.specs.List.{flat_map}
use Rattle.indexmap.specs.IndexMap.{get}
use Rattle.js_bundle.specs.Finding.{number_of_target, dynamic_at}
use Rattle.js_bundle.specs.code.PlaceNumbers.{under_number}
use Rattle.js_bundle.specs.code.SparseList.{IsSparseList}
use Rattle.js_bundle.specs.code.Leads.{Leads}
use Rattle.js_bundle.specs.Refusals.{at_references, second_pass}
use Rattle.js_bundle.specs.code.Scan.{site_of}
use Rattle.js_bundle.proofs.check.references.resolve_all.Given as goal

abbrev pub invariant-loop-i : goal.invariant-loop-i
invariant-loop-i l =
    let all = map site_of l.known.sites.now in
    record {
      leads : Leads (second_pass all) (flat_map (at_references all) (map site_of (drop l.i l.known.sites.now)));
      dynamic : IsSparseList (get nat_eq l.dynamic) (dynamic_at all) (map site_of (take l.i l.known.sites.now));
      plain : IsSparseList (under_number l.plain.items) (number_of_target all (codes "$ref"))
          (map site_of (take l.i l.known.sites.now));
      plain_long : length l.plain.items ≤ l.i;
    }
