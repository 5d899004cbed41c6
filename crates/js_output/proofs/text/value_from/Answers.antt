use Rattle.std.proofs.Common.{Result, Ok, Err, IfOk, IfErr}
use Rattle.js_doc.specs.Seen.{value_of}
use Rattle.js_output.specs.Reading.{reading-ok, reading-err}
use Rattle.js_output.proofs.text.value_from.Goals as goal

on_ok : {A E : Type 0} (r : Result A E) (P Q : A → Type 0) → ((a : A) → P a → Q a) → IfOk r P → IfOk r Q
on_ok (Ok a) P Q f h = f a h
on_ok (Err e) P Q f h = tt

on_err : {A E : Type 0} (r : Result A E) (P Q : E → Type 0) → ((e : E) → P e → Q e) → IfErr r P → IfErr r Q
on_err (Ok a) P Q f h = tt
on_err (Err e) P Q f h = f e h

pub returns-clause-ok : goal.returns-clause-ok
returns-clause-ok c = on_ok _ _ _ (λ d h. reading-ok c.args.bytes.now (value_of d) h) c.read.ensures.ok

pub returns-clause-err : goal.returns-clause-err
returns-clause-err c = on_err _ _ _ (λ e h. reading-err c.args.bytes.now e h) c.read.ensures.err
