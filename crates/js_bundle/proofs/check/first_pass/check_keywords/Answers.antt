use Rattle.std.proofs.Common.{◌≡◌, ◌++◌, Some, map, string_bytes, subst, sym, ap, ◌∙◌}
use Rattle.std.specs.List.{flat_map}
use Rattle.std.proofs.lemmas.Result.{err_from_is_err_and}
use Rattle.js_doc.specs.Seen.{pair_of, value_of}
use Rattle.js_bundle.specs.AssertionsAndPatterns.{assertion_at, patterns_of}
use Rattle.js_bundle.specs.Candidate.{IsClear, IsStopped}
use Rattle.js_bundle.specs.code.Leads.{Leads}
use Rattle.js_bundle.specs.Keyword.{argument}
use Rattle.js_bundle.specs.Refusals.{at_member}
use Rattle.js_bundle.specs.code.Scan.{site_of}
use Rattle.js_bundle.proofs.Checking.MembersByName.{StandIn, each_stands, argument_stands}
use Rattle.js_bundle.proofs.Indexing.PlaceNext.{piece_next}
use Rattle.js_bundle.proofs.Checking.CheckStops.{leads_itself, leads_past, leads_stop}
use Rattle.js_bundle.proofs.check.first_pass.check_keywords.Goals as goal

pub returns-in_err-check_keyword-clause-err : goal.returns-in_err-check_keyword-clause-err
returns-in_err-check_keyword-clause-err c =
    let p = err_from_is_err_and c.from_residual.result c.from_residual.ensures.1 in
    let f = at_member (map site_of c.args.known.sites.now) (site_of c.args.site.now) in
    let e = c.in_err-check_keyword.field-0.0 in
    let v = value_of c.in-Some.argument.now in
    let all = c.args.members.now in
    rw (p.1, p.2) (leads_stop (flat_map f all) (f (c.in-Some.keyword.now, v))
    (flat_map f (map pair_of c.next.new.self)) e
    (subst (λ es. Leads (flat_map f all) (flat_map f (map pair_of es))) c.in-Some.ensures.steps
    c.loop-keyword.invariant.leads)
    (subst (λ k. IsStopped (f (k, v)) e) c.as_str.ensures c.in_err-check_keyword.ensures.err))

pub loop-keyword-preserved : goal.loop-keyword-preserved
loop-keyword-preserved c =
    let l = c.loop-keyword in
    let all = c.args.members.now in
    let f = at_member (map site_of c.args.known.sites.now) (site_of c.args.site.now) in
    let g = assertion_at all in
    let h = patterns_of in
    let key = c.in-Some.keyword.now in
    let v = value_of c.in-Some.argument.now in
    let rest = map pair_of c.next.new.self in
    let old = l.built in
    let new = c.check_keyword.new.built in
    record {
      stand = (subst (λ es. StandIn all (map pair_of es)) c.in-Some.ensures.steps l.invariant.stand).1;
      leads = leads_past (flat_map f all) (f (key, v)) (flat_map f rest)
          (subst (λ es. Leads (flat_map f all) (flat_map f (map pair_of es))) c.in-Some.ensures.steps l.invariant.leads)
          (subst (λ k. IsClear (f (k, v))) c.as_str.ensures c.in_ok-check_keyword.ensures.clear);
      assertions = piece_next old.assertions.items new.assertions.items (g (key, v)) (flat_map g rest)
          (c.args.built.now.assertions.items ++ flat_map g all)
          (subst (λ k. new.assertions.items ≡ old.assertions.items ++ g (k, v)) c.as_str.ensures
          c.in_ok-check_keyword.ensures.assertions) (subst (λ es. old.assertions.items ++ flat_map g (map pair_of es)
          ≡ c.args.built.now.assertions.items ++ flat_map g all) c.in-Some.ensures.steps l.invariant.assertions);
      patterns = piece_next old.patterns.items new.patterns.items (h (key, v)) (flat_map h rest)
          (c.args.built.now.patterns.items ++ flat_map h all)
          (subst (λ k. new.patterns.items ≡ old.patterns.items ++ h (k, v)) c.as_str.ensures
          c.in_ok-check_keyword.ensures.patterns) (subst (λ es. old.patterns.items ++ flat_map h (map pair_of es)
          ≡ c.args.built.now.patterns.items ++ flat_map h all) c.in-Some.ensures.steps l.invariant.patterns);
    }

pub check_keyword-requires-clause-argument : goal.check_keyword-requires-clause-argument
check_keyword-requires-clause-argument c =
    let v = value_of c.in-Some.argument.now in
    let all = c.args.members.now in
    let schema = value_of c.args.site.now.schema.now in
    subst (λ k. argument k schema ≡ Some v) (sym c.as_str.ensures)
    (argument_stands schema v all (c.in-Some.keyword.now) c.requires.members
    (subst (λ es. StandIn all (map pair_of es)) c.in-Some.ensures.steps c.loop-keyword.invariant.stand).0)

pub loop-keyword-init : goal.loop-keyword-init
loop-keyword-init c =
    let all = c.args.members.now in
    let f = at_member (map site_of c.args.known.sites.now) (site_of c.args.site.now) in
    let recorded : map pair_of c.into_iter-keyword-iterator.result ≡ all =
    ap (map pair_of) c.into_iter-keyword-iterator.ensures.into_iter_gives ∙ c.pairs-keyword-items.ensures.pairs in
    record {
      stand = subst (StandIn all) (sym recorded) (each_stands all c.pairs-keyword-items.ensures.ascending);
      leads = subst (λ ms. Leads (flat_map f all) (flat_map f ms)) (sym recorded) (leads_itself (flat_map f all));
      assertions = ap (λ ms. c.args.built.now.assertions.items ++ flat_map (assertion_at all) ms) recorded;
      patterns = ap (λ ms. c.args.built.now.patterns.items ++ flat_map patterns_of ms) recorded;
    }
