use Rattle.std.proofs.Common.{◌+◌, [], map, take, drop, arith}
use Rattle.std.proofs.lemmas.Result.{err_from_is_err_and}
use Rattle.js_bundle.specs.AssertionsAndPatterns.{assertions_at, patterns_at}
use Rattle.js_bundle.specs.MemberKeywords.{member_keywords}
use Rattle.js_bundle.specs.Refusals.{at_site, first_pass}
use Rattle.js_bundle.specs.code.Scan.{site_of}
use Rattle.js_bundle.proofs.Indexing.PartsOfPlaces.{grouped_next}
use Rattle.js_bundle.proofs.Indexing.PositionsNext.{positions_next, positions_whole}
use Rattle.js_bundle.proofs.Checking.LastPlace.{last_more}
use Rattle.js_bundle.proofs.Checking.PassNext.{site_next}
use Rattle.js_bundle.proofs.Checking.CheckStops.{leads_past, leads_stop}
use Rattle.js_bundle.proofs.check.first_pass.first_pass.Goals as goal

pub returns-in_err-pass-clause-err : goal.returns-in_err-pass-clause-err
returns-in_err-pass-clause-err c =
    let l = c.loop-i in
    let ss = c.args.sites.now in
    let x = c.index-sites-i.result in
    let whole = first_pass [] (map site_of ss) in
    let p = err_from_is_err_and c.from_residual-in_err-pass.result c.from_residual-in_err-pass.ensures.1 in
    rw (p.1, p.2) (leads_stop whole (at_site (map site_of (take l.i ss)) (site_of x))
    (first_pass (map site_of (take (l.i + 1) ss)) (map site_of (drop (l.i + 1) ss))) c.in_err-pass.field-0.0
    (site_next ss l.i x whole (omega arith) c.index-sites-i.is l.invariant.leads) c.in_err-pass.ensures.err)

pub loop-i-preserved : goal.loop-i-preserved
loop-i-preserved c =
    let l = c.loop-i in
    let ss = c.args.sites.now in
    let x = c.index-sites-i.result in
    let whole = first_pass [] (map site_of ss) in
    let old = l.passed in
    let new = c.pass.new.self in
    let e = c.in_ok-pass.ensures in
    record {
      leads = leads_past whole (at_site (map site_of (take l.i ss)) (site_of x))
          (first_pass (map site_of (take (l.i + 1) ss)) (map site_of (drop (l.i + 1) ss)))
          (site_next ss l.i x whole (omega arith) c.index-sites-i.is l.invariant.leads) e.clear;
      assertions = grouped_next assertions_at ss l.i x old.built.all.assertions.items new.built.all.assertions.items
          old.built.assertion_ends.items new.built.assertion_ends.items (omega arith) c.index-sites-i.is
          e.assertions e.assertion_ends l.invariant.assertions;
      patterns = grouped_next patterns_at ss l.i x old.built.all.patterns.items new.built.all.patterns.items
          old.built.pattern_ends.items new.built.pattern_ends.items (omega arith) c.index-sites-i.is
          e.patterns e.pattern_ends l.invariant.patterns;
      keywords = grouped_next member_keywords ss l.i x old.keywords.names.items new.keywords.names.items
          old.keywords.ends.items new.keywords.ends.items (omega arith) c.index-sites-i.is
          e.names e.ends l.invariant.keywords;
      positions = positions_next ss l.i x old.positions new.positions (omega arith) c.index-sites-i.is
          e.positions l.invariant.positions;
      before = last_more ss l.i x (omega arith) c.index-sites-i.is;
      begin = e.begin;
    }

pub returns-clause-positions : goal.returns-clause-positions
returns-clause-positions c =
    positions_whole c.args.sites.now c.loop-i.i c.loop-i.passed.positions (omega arith) c.loop-i.invariant.positions
