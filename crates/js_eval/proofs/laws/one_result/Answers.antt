use Rattle.js_eval.proofs.Results.{one_result, grown}
use Rattle.js_eval.proofs.laws.one_result.Goals as goal

pub returns : goal.returns
returns g c = record {
  most = λ S above place v. one_result S above place v;
  exactly = λ S above place v at. (
    λ r. (r.1.bound, r.1.settled),
    λ s. let t = grown S s.0 above place at v s.1 in
        (t.0, record { bound = s.0; settled = s.1; node = t.1 }),
  );
}
