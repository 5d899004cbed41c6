-- In documents that are accepted, what the schema of a place holds and names is found.
use Rattle.std.proofs.Common.{◌≡◌, ℕ, List, true, Option, Some, None, is_some, option_map, codes, refl, ap}
use Rattle.js_bundle.specs.FindingLaws.{EachIsFound}
use Rattle.js_bundle.specs.Finding.{number_of_target}
use Rattle.js_bundle.specs.Keyword.{Text}
use Rattle.js_bundle.specs.Resource.{Site, sites}
use Rattle.js_bundle.specs.Target.{reference, first_target, dynamic_of}
use Rattle.js_bundle.proofs.Finding.HeldIsFound.{held}
use Rattle.js_bundle.proofs.Checking.TargetsFound.{target_there, first_target_there, number_is_target}

first_by : (all : List Site) (k : Text) (s : Site) (o : Option ℕ) → number_of_target all k s ≡ o → is_some o ≡ true
    → (t : Site) × (first_target all k s ≡ Some t)
first_by all k s None is e = absurd (cc)
first_by all k s (Some n) is e = let t = number_is_target all k s n is in (t.place, t.target)

pub each_is_found : EachIsFound
each_is_found documents read clear n s e = record {
  below = λ k step u h. let m = held documents read.ordered read.short n s e k step u h in (m.place, m.found, m.schema);
  target = λ h. first_by (sites documents) (codes "$ref") s (number_of_target (sites documents) (codes "$ref") s) refl
      (target_there documents clear n s e h);
  dynamic_target = λ path h.
      let all = sites documents in
      let t = first_by all (codes "$dynamicRef") s (number_of_target all (codes "$dynamicRef") s) refl
      (first_target_there documents clear n s e h) in (
        dynamic_of all path (reference (codes "$dynamicRef") s) t.0,
        ap
            (option_map (dynamic_of all path (reference (codes "$dynamicRef") s))) t.1,
      );
}
