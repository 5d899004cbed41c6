use Rattle.std.proofs.Common.{◌≡◌, ℕ, List, ◌-◌, ◌≤◌, ◌∷◌, [], ◌&&◌, ◌∙◌, ap, sym}
use Rattle.std.proofs.Common.{subst, refl, rules, arith, map, drop, length}
use Rattle.std.proofs.lemmas.Result.{err_from_is_err_and}
use Rattle.std.specs.Prelude.{MatchOption}
use Rattle.std.proofs.lemmas.List.{length-append, length-map, map-append}
use Rattle.std.proofs.lemmas.List.Folds.{list_all-append}
use Rattle.std.specs.List.{dedup, list_all}
use Rattle.std.specs.Prelude.{true, false, nat_eq}
use Rattle.js_eval.specs.Walk.DynamicScope.{HasGrown}
use Rattle.js_eval.proofs.Lists.{and_true}
use Rattle.js_eval.specs.Walk.Steps.{KeywordDone, NodeDone}
use Rattle.js_eval.proofs.Recursion.Before.{is_keyword_at}
use Rattle.js_eval.proofs.Recursion.Counted.{counts_later}
use Rattle.js_eval.specs.Walk.Progress.{SomeHasNone, KeywordHasNone, HasNone}
use Rattle.js_eval.proofs.Recursion.Each.{each_start}
use Rattle.js_eval.proofs.Recursion.Stepping.{each_step, step_back, at_most_one, on_too_large, keyword_step, asked_same}
use Rattle.js_eval.proofs.Recursion.Stepping.{node_start, node_more, loop_as, node_failed, node_too_large, node_end}
use Rattle.js_eval.proofs.Recursion.Stepping.{map_with_last}
use Rattle.js_eval.proofs.Recursion.Splits.{split_at_name, split_at_step}
use Rattle.js_eval.proofs.Recursion.Visited.{given_back}
use Rattle.js_eval.proofs.Recursion.AllKeywords.{none_at_zero, none_left, one_less}
use Rattle.js_eval.proofs.Recursion.KeywordByKeyword.{at_next}
use Rattle.js_eval.proofs.Recursion.KeywordNode.{keyword_none}
use Rattle.js_eval.specs.Walk.Progress.{asked_by}
use Rattle.js_eval.specs.Walk.Visited.{IsListed}
use Rattle.js_eval.proofs.evaluation.recursion.+walk.Goals as goal

pub applications-each-init : goal.applications-each-init
applications-each-init g t c =
    record {
      so = each_start (g.W.World.schemas c.args.world.now) c.args.depth (map (g.W.World.site c.args.world.now)
          c.args.state.now.path) c.args.kind g.R.Reporter.takes (g.W.World.asked c.args.world.now c.args.asking.now)
          (map g.W.World.text_of c.args.state.now.names.items) c.args.state.now.indexes.items c.args.state.now.left
          c.args.state.now.keyword c.args.state.now.instance c.args.into.now;
      back = record { path = refl; scope = refl; keyword = refl; instance = refl };
      asking = c.requires.asking;
      few = omega arith;
      succeeded = omega arith;
    }

pub applications-come_back-requires-clause-keyword : goal.applications-come_back-requires-clause-keyword
applications-come_back-requires-clause-keyword g t c =
    split_at_step c.each.state.keyword c.applied_node.new.state.keyword (g.W.World.application_of c.args.world.now
    c.in-Some.application).step (g.H.PointerText.length_at c.current_marks-here.result.keyword)
    c.current_marks-here.ensures.keyword (c.in_ok-holds.ensures.back.keyword ∙ c.in_ok-go_down.ensures.keyword)

pub applications-come_back-requires-clause-instance : goal.applications-come_back-requires-clause-instance
applications-come_back-requires-clause-instance g t c =
    split_at_step c.each.state.instance c.applied_node.new.state.instance (g.W.World.application_of c.args.world.now
    c.in-Some.application).at (g.H.PointerText.length_at c.current_marks-here.result.instance)
    c.current_marks-here.ensures.instance (c.in_ok-holds.ensures.back.instance ∙ c.in_ok-go_down.ensures.instance)

pub applications-with_application-tally-requires-clause-few :
    goal.applications-with_application-tally-requires-clause-few
applications-with_application-tally-requires-clause-few g t c =
    let f = c.in_ok-holds.ensures.falls in let l = c.in_ok-go_down.ensures.left in
    let i = c.each.invariant.few in omega (arith, f, l, i)

pub applications-each-preserved : goal.applications-each-preserved
applications-each-preserved g t c =
    let S = g.W.World.schemas c.args.world.now in
    let path = map (g.W.World.site c.args.world.now) c.args.state.now.path in
    let a = g.W.World.application_of c.args.world.now c.in-Some.application in
    let rest = g.W.World.asked c.args.world.now c.next.new.asking in
    let x : g.W.World.asked c.args.world.now c.each.asking ≡ a ∷ rest =
    subst (λ o. MatchOption o (g.W.World.asked c.args.world.now c.each.asking ≡ [])
    (λ b. g.W.World.asked c.args.world.now c.each.asking ≡ g.W.World.application_of c.args.world.now b ∷ rest))
    c.in-Some.is c.in_ok-application.ensures.next in
    let so = rw x at c.each.invariant.so in let down = c.in_ok-go_down.ensures in let done = c.in_ok-holds.ensures in
    let back = c.in_ok-come_back.ensures in
    let same : c.go_down.new.state.path ≡ c.args.state.now.path = down.path ∙ c.each.invariant.back.path in
    record {
      so = rw (c.with_application-tally.ensures.asked, c.with_application-tally.ensures.succeeded)
          (each_step S g.W.World.text_of g.R.Reporter.takes c.args.depth path c.args.kind (g.W.World.asked
          c.args.world.now c.args.asking.now) rest a (map g.W.World.text_of c.args.state.now.names.items)
          c.args.state.now.indexes.items c.args.state.now.left c.args.state.now.keyword c.args.state.now.instance
          g.H.PointerText.length_at c.each.tally c.each.state c.go_down.new.state c.applied_node.new.state
          c.come_back.new.state c.current_marks-here.result (g.W.World.site c.args.world.now c.place.result)
          (map (g.W.World.site c.args.world.now) c.go_down.new.state.path) (g.W.World.value_of c.value.result)
          c.in_ok-holds.holds c.args.into.now c.each.into c.applied_node.new.into
          so c.each.invariant.back.keyword c.each.invariant.back.instance c.current_marks-here.ensures down
          (ap (map (g.W.World.site c.args.world.now)) same) c.place.ensures.site c.value.ensures done back);
      back = record {
        path = back.path ∙ (done.back.path ∙ same);
        scope = back.scope ∙ (done.back.scope ∙ (down.scope ∙ c.each.invariant.back.scope));
        keyword = back.keyword ∙ (step_back c.each.state.keyword c.applied_node.new.state.keyword a.step
            (g.H.PointerText.length_at c.current_marks-here.result.keyword) c.current_marks-here.ensures.keyword
            (done.back.keyword ∙ down.keyword) ∙ c.each.invariant.back.keyword);
        instance = back.instance ∙ (step_back c.each.state.instance c.applied_node.new.state.instance a.at
            (g.H.PointerText.length_at c.current_marks-here.result.instance) c.current_marks-here.ensures.instance
            (done.back.instance ∙ down.instance) ∙ c.each.invariant.back.instance);
      };
      asking = c.in_ok-application.ensures.asking;
      few = let e = c.with_application-tally.ensures.asked in let f = done.falls in let l = down.left in
          let m = back.left in let i = c.each.invariant.few in omega (arith, e, f, l, m, i);
      succeeded = let e = c.with_application-tally.ensures.asked in
          let f = c.with_application-tally.ensures.succeeded in
          let i = c.each.invariant.succeeded in omega (arith, e, f, i, at_most_one c.in_ok-holds.holds);
    }

pub keyword_node-returns-then-not-asks-clause-done : goal.keyword_node-returns-then-not-asks-clause-done
keyword_node-returns-then-not-asks-clause-done g t c =
    let S = g.W.World.schemas c.args.world.now in let k = g.W.World.keyword_of c.args.case.keyword in
    let path = map (g.W.World.site c.args.world.now) c.args.state.now.path in
    let place = g.W.World.site c.args.world.now c.args.case.place in let v = g.W.World.value_of c.args.case.value in
    let names = map g.W.World.text_of (drop c.args.start.names c.args.state.now.names.items) in
    let indexes = drop c.args.start.indexes c.args.state.now.indexes.items in
    let none : asked_by S c.args.depth path place v k c.args.known.condition names indexes
    ≡ [] = c.asks.ensures c.args.depth path place v c.args.known.condition names indexes c.if-not-asks.true in
    subst (λ apps. KeywordDone S g.W.World.text_of g.R.Reporter.takes c.args.depth path place v k c.args.known.matching
    apps c.in_ok-judged.judged c.args.state.now c.leaf_node.new.state c.args.into.now c.leaf_node.new.into)
    (sym none) (c.in_ok-judged.ensures.done c.args.depth path)

pub applicator_node-returns-in_err-tally : goal.applicator_node-returns-in_err-tally
applicator_node-returns-in_err-tally g t c =
    let S = g.W.World.schemas c.args.world.now in let k = g.W.World.keyword_of c.args.case.keyword in
    let path = map (g.W.World.site c.args.world.now) c.args.state.now.path in
    let place = g.W.World.site c.args.world.now c.args.case.place in let v = g.W.World.value_of c.args.case.value in
    let apps = asked_by S c.args.depth path place v k c.args.known.condition (map g.W.World.text_of (drop
    c.args.start.names c.args.state.now.names.items)) (drop c.args.start.indexes c.args.state.now.indexes.items) in
    let p = err_from_is_err_and c.from_residual-in_err-tally.result c.from_residual-in_err-tally.ensures.1 in
    let q : g.W.World.asked c.args.world.now c.in_ok-asking.asking ≡ apps = c.in_ok-asking.ensures.asked
    ∙ asked_same S c.args.depth path place v k c.args.known.condition (map g.W.World.text_of (drop
    c.args.start.names c.args.state.now.names.items)) (drop c.args.start.indexes c.args.state.now.indexes.items) in
    let same : map (g.W.World.site c.args.world.now) c.open_keyword.new.state.path
    ≡ path = ap (map (g.W.World.site c.args.world.now)) c.in_ok-open_keyword.ensures.path in
    rw (p.1, p.2) (on_too_large
    (SomeHasNone S c.args.depth (map (g.W.World.site c.args.world.now) c.open_keyword.new.state.path)
    (g.W.World.asked c.args.world.now c.in_ok-asking.asking) c.open_keyword.new.state.left)
    (KeywordHasNone S c.args.depth path place v k apps c.args.state.now.left) c.in_err-tally.field-0.0
    (λ none. keyword_none S c.args.depth path place v k c.args.known.matching apps c.args.state.now.left
    c.open_keyword.new.state.left c.in_ok-open_keyword.ensures.left (rw (same, q) at none)) c.in_err-tally.ensures)

pub applicator_node-close_keyword-requires-clause-names : goal.applicator_node-close_keyword-requires-clause-names
applicator_node-close_keyword-requires-clause-names g t c =
    let w = c.in_ok-tally.ensures.walked.of_names in let o = ap length c.in_ok-open_keyword.ensures.names in
    let l = ap length w ∙ length-append (map g.W.World.text_of c.open_keyword.new.state.names.items) _ in
    let e1 = length-map c.applications.new.state.names.items g.W.World.text_of in
    let e2 = length-map c.open_keyword.new.state.names.items g.W.World.text_of in
    let m = c.current_marks-here.ensures.names in
    omega (arith, l, e1, e2, o, m)

pub applicator_node-close_keyword-requires-clause-trail : goal.applicator_node-close_keyword-requires-clause-trail
applicator_node-close_keyword-requires-clause-trail g t c =
    split_at_name c.args.state.now.keyword c.applications.new.state.keyword (g.W.World.keyword_of c.args.case.keyword)
    (g.H.PointerText.length_at c.current_marks-here.result.keyword) c.current_marks-here.ensures.keyword
    (c.in_ok-tally.ensures.back.keyword ∙ c.in_ok-open_keyword.ensures.keyword)

pub applicator_node-returns : goal.applicator_node-returns
applicator_node-returns g t c =
    let S = g.W.World.schemas c.args.world.now in let k = g.W.World.keyword_of c.args.case.keyword in
    let path = map (g.W.World.site c.args.world.now) c.args.state.now.path in
    let place = g.W.World.site c.args.world.now c.args.case.place in let v = g.W.World.value_of c.args.case.value in
    let apps = asked_by S c.args.depth path place v k c.args.known.condition (map g.W.World.text_of (drop
    c.args.start.names c.args.state.now.names.items)) (drop c.args.start.indexes c.args.state.now.indexes.items) in
    let q : g.W.World.asked c.args.world.now c.in_ok-asking.asking ≡ apps = c.in_ok-asking.ensures.asked
    ∙ asked_same S c.args.depth path place v k c.args.known.condition (map g.W.World.text_of (drop
    c.args.start.names c.args.state.now.names.items)) (drop c.args.start.indexes c.args.state.now.indexes.items) in
    keyword_step S g.W.World.text_of g.R.Reporter.takes c.args.depth path place v k c.args.known.matching apps
    g.H.PointerText.length_at c.args.state.now c.open_keyword.new.state c.applications.new.state
    c.close_keyword.new.state c.current_marks-here.result c.in_ok-tally.tally c.in_ok-passes.passes
    (map (g.W.World.site c.args.world.now) c.open_keyword.new.state.path) c.kind.result
    (g.W.World.asked c.args.world.now c.in_ok-asking.asking)
    c.args.into.now c.open_keyword.new.into c.applications.new.into c.close_keyword.new.into
    c.current_marks-here.ensures c.in_ok-open_keyword.ensures (ap (map (g.W.World.site c.args.world.now))
    c.in_ok-open_keyword.ensures.path) c.kind.ensures q c.in_ok-tally.ensures c.in_ok-passes.ensures

pub node-returns-then-depth-eq0 : goal.node-returns-then-depth-eq0
node-returns-then-depth-eq0 g t c =
    none_at_zero (g.W.World.schemas c.args.world.now) 0 (map (g.W.World.site c.args.world.now) c.args.state.now.path)
    (g.W.World.site c.args.world.now c.args.place) (g.W.World.value_of c.args.value) c.args.depth
    c.args.state.now.left c.if-depth-eq0.true

pub node-returns-then-state-eq0 : goal.node-returns-then-state-eq0
node-returns-then-state-eq0 g t c =
    none_left (g.W.World.schemas c.args.world.now) 0 (map (g.W.World.site c.args.world.now) c.args.state.now.path)
    (g.W.World.site c.args.world.now c.args.place) (g.W.World.value_of c.args.value) c.args.depth
    c.args.state.now.left c.if-depth-eq0.false c.if-state-eq0.true

pub node-keywords-init : goal.node-keywords-init
node-keywords-init g t c =
    record {
      loop = node_start (g.W.World.schemas c.args.world.now) g.W.World.text_of g.R.Reporter.takes (c.args.depth - 1)
          (map (g.W.World.site c.args.world.now) c.args.state.now.path) (g.W.World.site c.args.world.now c.args.place)
          (g.W.World.value_of c.args.value) c.is_quiet-quiet.result
          c.args.state.now c.open_schema.new.state c.args.place (g.W.World.resource c.args.world.now c.args.place)
          c.args.into.now c.open_schema.new.into c.accepts.result (g.W.World.listed c.keywords-keywords.result)
          c.in_ok-open_schema.ensures c.accepts.ensures c.keywords-keywords.ensures.listed;
      path = c.in_ok-open_schema.ensures.path;
      scope = c.in_ok-open_schema.ensures.scope;
      keyword = c.in_ok-open_schema.ensures.keyword;
      instance = c.in_ok-open_schema.ensures.instance;
      falls = let l = c.in_ok-open_schema.ensures.left in omega (arith, l);
      together = λ e. absurd (let z : false ≡ true = sym c.unknown-together.ensures ∙ e in cc);
    }

pub node-keyword_node-requires : goal.node-keyword_node-requires
node-keyword_node-requires g t c κs within =
    let site = g.W.World.site c.args.world.now in
    let places : list_all (g.W.World.is_place c.args.world.now) c.keywords.state.path ≡ true =
    ap (list_all (g.W.World.is_place c.args.world.now)) c.keywords.invariant.path
    ∙ (list_all-append (g.W.World.is_place c.args.world.now) c.args.state.now.path (c.args.place ∷ [])
    ∙ and_true c.requires.path (and_true c.requires.place refl)) in
    let resource = g.W.World.resource c.args.world.now in
    let scope : c.keywords.state.scope ≡ dedup nat_eq (map resource c.keywords.state.path) =
    c.keywords.invariant.scope.scope (map resource c.args.state.now.path) c.requires.scope
    ∙ ap (dedup nat_eq) (sym (map-append resource c.args.state.now.path (c.args.place ∷ []))
    ∙ ap (map resource) (sym c.keywords.invariant.path)) in
    let so = c.keywords.invariant.loop.so in
    let l = ap length so.of_names ∙ length-append (map g.W.World.text_of c.args.state.now.names.items) _ in
    let e1 = length-map c.keywords.state.names.items g.W.World.text_of in
    let e2 = length-map c.args.state.now.names.items g.W.World.text_of in
    let i = ap length so.of_indexes ∙ length-append c.args.state.now.indexes.items _ in
    let m = c.start-start.ensures.names in let n = c.start-start.ensures.indexes in
    let names : c.start-start.result.names ≤ length c.keywords.state.names.items = omega (arith, l, e1, e2, m) in
    let indexes : c.start-start.result.indexes ≤ length c.keywords.state.indexes.items = omega (arith, i, n) in
    let k = g.W.World.keyword_of c.in-Some.keyword in
    let x : g.W.World.listed c.keywords.judging.keywords ≡ k ∷ g.W.World.listed c.next_keyword.new.judging.keywords =
    c.in-Some.ensures.next in let loop = rw (x, sym c.next_keyword.ensures.known) at c.keywords.invariant.loop in
    let next = at_next (g.W.World.schemas c.args.world.now) (c.args.depth - 1) (map site c.args.state.now.path)
    (site c.args.place) (g.W.World.value_of c.args.value) c.is_quiet-quiet.result g.R.Reporter.takes
    c.next_keyword.new.judging.known.valid c.next_keyword.new.judging.known.condition
    c.next_keyword.new.judging.known.matching
    (map g.W.World.text_of c.args.state.now.names.items) (map g.W.World.text_of c.keywords.state.names.items)
    c.args.state.now.indexes.items c.keywords.state.indexes.items c.args.state.now.left c.keywords.state.left
    c.args.state.now.keyword c.args.state.now.instance c.args.into.now c.keywords.into k
    (g.W.World.listed c.next_keyword.new.judging.keywords) loop in
    let there = is_keyword_at (g.W.World.schemas c.args.world.now) (site c.args.place)
    c.keywords-keywords.ensures.ascending next.done next.rest k next.so.split in
    let listed : IsListed (g.W.World.schemas c.args.world.now) (site c.args.place) k =
    (next.done, next.rest, next.so.split) in
    let together = c.keywords.invariant.together in
    search (rules, places, scope, names, indexes, there, listed, together)

pub node-returns-in_err-judged : goal.node-returns-in_err-judged
node-returns-in_err-judged g t c =
    let S = g.W.World.schemas c.args.world.now in let site = g.W.World.site c.args.world.now in
    let path = map site c.args.state.now.path in let place = site c.args.place in
    let v = g.W.World.value_of c.args.value in let k = g.W.World.keyword_of c.in-Some.keyword in
    let x : g.W.World.listed c.keywords.judging.keywords ≡ k ∷ g.W.World.listed c.next_keyword.new.judging.keywords =
    c.in-Some.ensures.next in let loop = rw (x, sym c.next_keyword.ensures.known) at c.keywords.invariant.loop in
    let apps = asked_by S (c.args.depth - 1) (map site c.keywords.state.path) place v k
    c.next_keyword.new.judging.known.condition (map g.W.World.text_of (drop c.start-start.result.names
    c.keywords.state.names.items)) (drop c.start-start.result.indexes c.keywords.state.indexes.items) in
    let p = err_from_is_err_and c.from_residual-in_err-judged.result c.from_residual-in_err-judged.ensures.1 in
    rw (p.1, p.2) (on_too_large (KeywordHasNone S (c.args.depth - 1) (map site c.keywords.state.path) place v k apps
    c.keywords.state.left) (HasNone S c.args.depth path place v c.args.state.now.left) c.in_err-judged.field-0.0
    (λ none. subst (λ d. HasNone S d path place v c.args.state.now.left) (one_less c.args.depth c.if-depth-eq0.false)
    (node_failed S g.W.World.text_of g.R.Reporter.takes (c.args.depth - 1) path place v c.is_quiet-quiet.result
    counts_later c.keywords-keywords.ensures.ascending k (g.W.World.listed c.next_keyword.new.judging.keywords)
    c.next_keyword.new.judging.known.valid c.next_keyword.new.judging.known.condition
    c.next_keyword.new.judging.known.matching c.args.state.now c.keywords.state c.start-start.result
    (map site c.keywords.state.path) c.args.into.now c.keywords.into c.start-start.ensures
    (map_with_last site c.args.state.now.path c.keywords.state.path c.args.place c.keywords.invariant.path)
    loop none)) c.in_err-judged.ensures.done)

pub node-keywords-preserved : goal.node-keywords-preserved
node-keywords-preserved g t c =
    let S = g.W.World.schemas c.args.world.now in let site = g.W.World.site c.args.world.now in
    let path = map site c.args.state.now.path in let place = site c.args.place in
    let v = g.W.World.value_of c.args.value in let k = g.W.World.keyword_of c.in-Some.keyword in
    let x : g.W.World.listed c.keywords.judging.keywords ≡ k ∷ g.W.World.listed c.next_keyword.new.judging.keywords =
    c.in-Some.ensures.next in let loop = rw (x, sym c.next_keyword.ensures.known) at c.keywords.invariant.loop in
    let rest = g.W.World.listed c.next_keyword.new.judging.keywords in let done = c.in_ok-judged.ensures.done in
    record {
      loop = loop_as S g.R.Reporter.takes (c.args.depth - 1) path place v c.is_quiet-quiet.result k rest
          c.next_keyword.new.judging.known.valid c.in_ok-judged.judged.passes c.with_keyword-judging.result.valid
          c.next_keyword.new.judging.known.condition c.with_keyword-judging.result.condition
          c.next_keyword.new.judging.known.matching c.with_keyword-judging.result.matching
          c.in_ok-judged.judged.succeeded c.kind.result (map g.W.World.text_of c.args.state.now.names.items)
          (map g.W.World.text_of c.keyword_node.new.state.names.items) c.args.state.now.indexes.items
          c.keyword_node.new.state.indexes.items c.args.state.now.left c.keyword_node.new.state.left
          c.args.state.now.keyword c.args.state.now.instance c.args.into.now c.keyword_node.new.into
          c.with_keyword-judging.ensures.valid c.with_keyword-judging.ensures.condition
          c.with_keyword-judging.ensures.matching c.kind.ensures
          (node_more S g.W.World.text_of g.R.Reporter.takes (c.args.depth - 1) path place v c.is_quiet-quiet.result
          counts_later c.keywords-keywords.ensures.ascending k rest
          c.next_keyword.new.judging.known.valid c.next_keyword.new.judging.known.condition
          c.next_keyword.new.judging.known.matching c.args.state.now c.keywords.state c.keyword_node.new.state
          c.start-start.result c.in_ok-judged.judged (map site c.keywords.state.path) c.args.into.now
          c.keywords.into c.keyword_node.new.into c.start-start.ensures
          (map_with_last site c.args.state.now.path c.keywords.state.path c.args.place c.keywords.invariant.path)
          c.keywords.invariant.keyword c.keywords.invariant.instance loop done);
      path = done.back.path ∙ c.keywords.invariant.path;
      scope = subst (λ (s : List ℕ). HasGrown c.args.state.now.scope (g.W.World.resource c.args.world.now c.args.place)
          s) (sym done.back.scope) c.keywords.invariant.scope;
      keyword = done.back.keyword ∙ c.keywords.invariant.keyword;
      instance = done.back.instance ∙ c.keywords.invariant.instance;
      falls = let f = done.falls in let i = c.keywords.invariant.falls in omega (arith, f, i);
      together = c.in_ok-judged.ensures.together;
    }

pub node-returns-then-state-others : goal.node-returns-then-state-others
node-returns-then-state-others g t c =
    let S = g.W.World.schemas c.args.world.now in let site = g.W.World.site c.args.world.now in
    let path = map site c.args.state.now.path in let place = site c.args.place in
    let v = g.W.World.value_of c.args.value in
    let x : g.W.World.listed c.keywords.judging.keywords ≡ [] = c.in_default.ensures.next in
    let loop = rw (x, sym c.next_keyword.ensures.known) at c.keywords.invariant.loop in
    subst (λ d. HasNone S d path place v c.args.state.now.left) (one_less c.args.depth c.if-depth-eq0.false)
    (node_too_large S g.W.World.text_of g.R.Reporter.takes (c.args.depth - 1) path place v c.is_quiet-quiet.result
    c.in_ok-others.others c.next_keyword.new.judging.known.valid c.next_keyword.new.judging.known.condition
    c.next_keyword.new.judging.known.matching
    c.args.state.now c.keywords.state c.args.into.now c.keywords.into loop c.in_ok-others.ensures
    c.if-state-others.true)

pub node-returns : goal.node-returns
node-returns g t c =
    let S = g.W.World.schemas c.args.world.now in let site = g.W.World.site c.args.world.now in
    let path = map site c.args.state.now.path in let place = site c.args.place in
    let v = g.W.World.value_of c.args.value in
    let x : g.W.World.listed c.keywords.judging.keywords ≡ [] = c.in_default.ensures.next in
    let loop = rw (x, sym c.next_keyword.ensures.known) at c.keywords.invariant.loop in
    subst (λ d. NodeDone S g.W.World.text_of g.R.Reporter.takes d path place v
    (c.next_keyword.new.judging.known.valid && c.in_ok-others.others.pass) c.args.state.now c.close_schema.new.state
    c.args.into.now c.close_schema.new.into) (one_less c.args.depth c.if-depth-eq0.false)
    (node_end S g.W.World.text_of g.R.Reporter.takes (c.args.depth - 1) path place v c.is_quiet-quiet.result
    c.keywords-keywords.ensures.ascending c.is_quiet-quiet.ensures c.in_ok-others.others
    c.next_keyword.new.judging.known.valid (c.next_keyword.new.judging.known.valid && c.in_ok-others.others.pass)
    c.next_keyword.new.judging.known.condition c.next_keyword.new.judging.known.matching c.args.state.now
    c.keywords.state _ c.close_schema.new.state c.start-start.result c.args.place
    (g.W.World.resource c.args.world.now c.args.place)
    c.args.into.now c.keywords.into c.close_schema.new.into c.start-start.ensures c.keywords.invariant.path
    c.keywords.invariant.scope c.keywords.invariant.keyword c.keywords.invariant.instance
    c.keywords.invariant.falls loop
    c.in_ok-others.ensures refl refl refl refl refl refl refl (given_back c.keywords.state.left
    c.in_ok-others.others.count c.if-state-others.false) c.in_ok-close_schema.ensures)
