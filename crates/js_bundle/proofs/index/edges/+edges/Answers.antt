use Rattle.std.proofs.Common.{◌++◌, map, length, string_bytes, sym, ap, ◌∙◌, arith}
use Rattle.js_doc.specs.Value.{members}
use Rattle.js_doc.specs.Seen.{value_of, pair_of}
use Rattle.js_bundle.specs.code.Edges.{edges_at, edges_of, held_of}
use Rattle.js_bundle.proofs.MemberLoops.{loop_next, next_item_smaller, next_smaller}
use Rattle.js_bundle.proofs.Indexing.EdgesNext.{item_edges, item_numbers, keyword_edges_next, keyword_held_next}
use Rattle.js_bundle.proofs.Indexing.EdgesNext.{keywords_put, member_edges, member_numbers, put_within}
use Rattle.js_bundle.proofs.index.edges.+edges.Goals as goal

pub link_items-link_one-requires : goal.link_items-link_one-requires
link_items-link_one-requires t c =
    (omega (arith, next_item_smaller c.args.schemas.now c.loop-i.i c.index-schemas-i.is (omega arith), c.decreases), tt)

pub link_items-loop-i-preserved : goal.link_items-loop-i-preserved
link_items-loop-i-preserved t c =
    let l = c.loop-i in
    let e = c.in_ok-link_one.ensures in
    record {
      edges = item_edges c.args.schemas.now l.i c.index-schemas-i.result l.edges.items c.link_one.new.edges.items _
          (omega arith) c.index-schemas-i.is e.edges l.invariant.edges;
      places = item_numbers c.args.schemas.now l.i c.index-schemas-i.result l.edges.items c.link_one.new.edges.items
          l.places.items c.link_one.new.places.items _ (omega arith) c.index-schemas-i.is
          e.edges e.places l.invariant.places;
    }

pub link_members-link_one-requires : goal.link_members-link_one-requires
link_members-link_one-requires t c =
    let smaller = next_smaller c.pairs-schema-items.ensures.pairs c.into_iter-schema-iterator.ensures.into_iter_gives
    c.loop-schema.invariant.split c.in-Some.ensures.steps in
    (omega (arith, smaller, c.decreases), tt)

pub link_members-loop-schema-preserved : goal.link_members-loop-schema-preserved
link_members-loop-schema-preserved t c =
    let name = c.in-Some.field-0-0.now in
    let value = value_of c.in-Some.schema.now in
    let rest = members (map pair_of c.next.new.self) in
    let l = c.loop-schema in
    let e = c.in_ok-link_one.ensures in
    loop_next l.invariant c.in-Some.ensures.steps (λ recorded. (
      member_edges name value rest l.edges.items c.link_one.new.edges.items _ e.edges recorded.0,
      member_numbers name value rest l.edges.items c.link_one.new.edges.items l.places.items c.link_one.new.places.items
          _ e.edges e.places recorded.1,
    ))

pub keywords_of-link_keyword-requires : goal.keywords_of-link_keyword-requires
keywords_of-link_keyword-requires t c =
    let smaller = next_smaller c.pairs-keyword-items.ensures.pairs c.into_iter-keyword-iterator.ensures.into_iter_gives
    c.loop-keyword.invariant.split c.in-Some.ensures.steps in
    (omega (arith, smaller, c.decreases), tt)

pub link_schema-set_keywords-requires : goal.link_schema-set_keywords-requires
link_schema-set_keywords-requires t c =
    put_within c.args.edges.now.items c.push_none.new.edges.items c.keywords_of.new.edges.items
    (members c.in-Members.members) c.len-number.result (omega (arith, c.len-number.ensures, c.args.edges.now.ok.0))
    c.in_ok-push_none.ensures c.in_ok-keywords-in-Members.ensures.edges

pub keywords_of-loop-keyword-preserved : goal.keywords_of-loop-keyword-preserved
keywords_of-loop-keyword-preserved t c =
    let name = c.in-Some.keyword.now in
    let value = value_of c.in-Some.argument.now in
    let rest = members (map pair_of c.next.new.self) in
    let l = c.loop-keyword in
    let e = c.in_ok-link_keyword.ensures in
    let same = c.as_str.ensures in
    loop_next l.invariant c.in-Some.ensures.steps (λ recorded. (
      keyword_edges_next c.as_str.result.now name value rest l.edges.items c.link_keyword.new.edges.items _
          same e.edges recorded.0,
      keyword_held_next c.as_str.result.now name value rest l.edges.items c.link_keyword.new.edges.items
          (map held_of l.held.items) (map held_of c.link_keyword.new.held.items) _ same e.edges e.held recorded.1,
    ))

pub link_schema-returns-in_ok-keywords-in-Members : goal.link_schema-returns-in_ok-keywords-in-Members
link_schema-returns-in_ok-keywords-in-Members t c =
    keywords_put c.args.edges.now.items c.push_none.new.edges.items c.keywords_of.new.edges.items
    c.set_keywords.new.edges.items (map held_of c.in_ok-keywords-in-Members.keywords.items)
    (members c.in-Members.members) c.len-number.result
    (omega (arith, c.len-number.ensures, c.args.edges.now.ok.0)) c.in_ok-push_none.ensures
    c.in_ok-keywords-in-Members.ensures.edges c.in_ok-keywords-in-Members.ensures.held c.set_keywords.ensures
    ∙ ap (λ d. map edges_of c.args.edges.now.items
    ++ edges_at (length c.args.edges.now.items) (value_of d)) (sym c.in-Members.is)
