use Rattle.std.specs.Prelude.{◌≤◌}
use Rattle.std.proofs.Common.{subst, sym}
use Rattle.js_eval.proofs.Results.{grown}
use Rattle.js_eval.proofs.DepthAndSize.{settled_from_depth, depth_from_settled, size_from_settled}
use Rattle.js_eval.proofs.laws.limits.Goals as goal

pub returns : goal.returns
returns g c = record {
  depth = λ S above place v at t r n. (
    λ h. depth_from_settled S r.bound n above place at v t r.settled r.node h,
    λ le.
        settled_from_depth S r.bound n above place at v t r.settled r.node le,
  );
  size = λ S above place v at t r n h. size_from_settled S r.bound n above place at v t r.settled r.node h;
  exact = λ S above place v at deepest most. (
    λ x.
        let r = x.1 in
        let h = settled_from_depth S r.bound deepest above place at v x.0 r.settled r.node x.2.deep in (
          h,
          subst (λ n. n ≤ most)
              (size_from_settled S r.bound deepest above place at v x.0 r.settled r.node h) x.2.many,
        ),
    λ x.
        let t = grown S deepest above place at v x.0 in (
          t.0,
          record { bound = deepest; settled = x.0; node = t.1 },
          record {
            deep = depth_from_settled S deepest deepest above place at v t.0 x.0 t.1 x.0;
            many = subst (λ n. n ≤ most)
                (sym (size_from_settled S deepest deepest above place at v t.0 x.0 t.1 x.0)) x.1;
          },
        ),
  );
}
