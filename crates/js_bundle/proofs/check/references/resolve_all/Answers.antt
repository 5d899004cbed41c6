use Rattle.std.proofs.Common.{◌≡◌, ◌+◌, codes, map, drop, get_or, nat_eq, ap, arith}
use Rattle.std.specs.List.{flat_map}
use Rattle.std.proofs.lemmas.Result.{err_from_is_err_and}
use Rattle.indexmap.specs.IndexMap.{get}
use Rattle.js_bundle.specs.Finding.{number_of_target, dynamic_at}
use Rattle.js_bundle.specs.code.PlaceNumbers.{under_number}
use Rattle.js_bundle.specs.Refusals.{at_references, second_pass}
use Rattle.js_bundle.specs.code.Scan.{site_of}
use Rattle.js_bundle.proofs.Indexing.SparseLists.{sparse_next, sparse_added, sparse_whole}
use Rattle.js_bundle.proofs.Indexing.KeywordsOfPlace.{names_are}
use Rattle.js_bundle.proofs.Checking.CheckStops.{leads_past, leads_stop}
use Rattle.js_bundle.proofs.Checking.PassNext.{leads_next}
use Rattle.js_bundle.proofs.check.references.resolve_all.Goals as goal

pub returns-in_err-targets-clause-err : goal.returns-in_err-targets-clause-err
returns-in_err-targets-clause-err c =
    let l = c.loop-i in
    let ss = c.args.known.sites.now in
    let all = map site_of ss in
    let x = get_or ss l.i c.index-known-i.result in
    let p = err_from_is_err_and c.from_residual.result c.from_residual.ensures.1 in
    rw (p.1, p.2) (leads_stop (second_pass all) (at_references all (site_of x))
    (flat_map (at_references all) (map site_of (drop (l.i + 1) ss))) c.in_err-targets.field-0.0
    (leads_next (at_references all) ss l.i x (second_pass all) (omega arith) (ap (get_or ss l.i) c.index-known-i.is)
    l.invariant.leads) c.in_err-targets.ensures.err)

pub targets_of-requires-clause-names : goal.targets_of-requires-clause-names
targets_of-requires-clause-names c =
    let ss = c.args.known.sites.now in
    let i = c.loop-i.i in
    names_are ss i (get_or ss i c.index-known-i.result) c.args.keywords.now c.part_of_place-names.result.now
    c.as_slice.result.now c.as_slice-in-loop-i.result.now c.requires.keywords (omega arith)
    (ap (get_or ss i) c.index-known-i.is) c.as_slice.ensures.value c.as_slice-in-loop-i.ensures.value
    c.part_of_place-names.ensures

pub keep_dynamic-requires : goal.keep_dynamic-requires
keep_dynamic-requires c =
    let l = c.loop-i in
    sparse_next (dynamic_at (map site_of c.args.known.sites.now)) c.args.known.sites.now l.i
    (get nat_eq l.dynamic) l.invariant.dynamic

pub loop-i-preserved : goal.loop-i-preserved
loop-i-preserved c =
    let l = c.loop-i in
    let ss = c.args.known.sites.now in
    let all = map site_of ss in
    let x = get_or ss l.i c.index-known-i.result in
    let at : x ≡ get_or ss l.i x = ap (get_or ss l.i) c.index-known-i.is in
    record {
      leads = leads_past (second_pass all) (at_references all (site_of x))
          (flat_map (at_references all) (map site_of (drop (l.i + 1) ss)))
          (leads_next (at_references all) ss l.i x (second_pass all) (omega arith) at l.invariant.leads)
          c.in_ok-targets.ensures.clear;
      dynamic = sparse_added (dynamic_at all) ss l.i x (get nat_eq l.dynamic) (get nat_eq c.keep_dynamic.new.dynamic)
          c.in_ok-targets.targets.dynamic (omega arith) at c.in_ok-keep_dynamic.ensures
          c.in_ok-targets.ensures.dynamic l.invariant.dynamic;
      plain = sparse_added (number_of_target all (codes "$ref")) ss l.i x (under_number l.plain.items)
          (under_number c.add_entry.new.entries.items) c.in_ok-targets.targets.plain (omega arith) at
          c.in_ok-add_entry.ensures.recorded
          c.in_ok-targets.ensures.plain l.invariant.plain;
      plain_long = c.in_ok-add_entry.ensures.long;
    }

pub returns-clause-dynamic : goal.returns-clause-dynamic
returns-clause-dynamic c = sparse_whole (dynamic_at (map site_of c.args.known.sites.now)) c.args.known.sites.now
    c.loop-i.i (get nat_eq c.loop-i.dynamic) (omega arith) c.loop-i.invariant.dynamic

pub returns-clause-plain : goal.returns-clause-plain
returns-clause-plain c = sparse_whole (number_of_target (map site_of c.args.known.sites.now) (codes "$ref"))
    c.args.known.sites.now c.loop-i.i (under_number c.loop-i.plain.items) (omega arith) c.loop-i.invariant.plain
