use Rattle.std.proofs.Common.{◌≡◌, ◌≤◌, ◌+◌, ◌++◌, map, length, vec_capacity}
use Rattle.js_bundle.specs.code.Scan.{site_of}
use Rattle.js_bundle.specs.code.CheckedSite.{checked_site, checked_site_of}
use Rattle.js_bundle.proofs.check.checked_site.checked_sites_of.Given as goal

abbrev pub invariant-loop-site : goal.invariant-loop-site
invariant-loop-site l =
    record {
      written : map checked_site_of l.checked.items ++ map checked_site (map site_of l.site-iterator.rest.items)
          ≡ map checked_site (map site_of l.fn.sites.items);
      room : length l.checked.items + length l.site-iterator.rest.items ≤ vec_capacity l.checked;
    }
