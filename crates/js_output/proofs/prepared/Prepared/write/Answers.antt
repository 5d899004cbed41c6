use Rattle.std.proofs.Common.{◌≤◌, ◌+◌, ◌++◌, ◌∷◌, [], length, ap, refl, subst, sym, ◌∙◌}
use Rattle.std.proofs.lemmas.Result.{err_from_is_err_and}
use Rattle.std.specs.Io.KnownBytes.{Appends}
use Rattle.js_doc.specs.Compact.{compact}
use Rattle.js_output.proofs.Sending.{sent-none}
use Rattle.js_output.proofs.prepared.Prepared.write.Goals as goal

pub returns-then-failed-clause-sent : goal.returns-then-failed-clause-sent
returns-then-failed-clause-sent g c = λ valid value is. (
  refl,
  sent-none g.W.Write.contents c.args.out.now (compact value ++ 10 ∷ [])
      (sym c.failed.ensures ∙ c.if-failed.true),
)

pub returns-in_err-put_line-clause-sent : goal.returns-in_err-put_line-clause-sent
returns-in_err-put_line-clause-sent g c = λ valid value is.
    let taken = g.W.Write.contents in
    let stops = c.in_err-put_line.ensures valid value is in
    let p = err_from_is_err_and c.from_residual.result c.from_residual.ensures.1 in
    let new = c.put_line.new.out in
    let text = compact value ++ 10 ∷ [] in
    let sent = subst (λ d. Appends d (taken new.device) stops.0) (ap (λ s. taken s.device) c.out.view_is) stops.3 in
    let calls = subst (λ n. new.calls ≤ n + length text) (ap (λ s. s.calls) c.out.view_is) stops.4.1 in
    rw (p.1, p.2) (refl, ((stops.0, stops.1, sym stops.2, sent), stops.5, calls))
