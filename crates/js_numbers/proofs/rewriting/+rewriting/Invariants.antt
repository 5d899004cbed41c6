use Rattle.std.proofs.Common.{◌≡◌, ◌+◌, ◌*◌, ◌++◌, drop, length}
use Rattle.json.specs.Tree.{ItemsHaveNumbers, MembersHaveNumbers, items_tokens, json_tokens, members_tokens}
use Rattle.json.specs.Value.{items_view, members_view, value_view}
use Rattle.js_numbers.specs.Schema.{each_listed, each_named, keywords}
use Rattle.js_numbers.proofs.rewriting.+rewriting.Given as goal

abbrev pub decreases-put_rewritten : goal.decreases-put_rewritten
decreases-put_rewritten l = 2 * length (json_tokens (value_view l.value.now))

abbrev pub decreases-put_keyword : goal.decreases-put_keyword
decreases-put_keyword l = 2 * length (json_tokens (value_view l.value.now)) + 1

abbrev pub decreases-put_schema : goal.decreases-put_schema
decreases-put_schema l = 2 * length (members_tokens (members_view l.members.now.items)) + 1

abbrev pub decreases-put_named : goal.decreases-put_named
decreases-put_named l = 2 * length (members_tokens (members_view l.members.now.items)) + 1

abbrev pub decreases-put_listed : goal.decreases-put_listed
decreases-put_listed l = 2 * length (items_tokens (items_view l.items.now.items)) + 1

-- what is written and what the rest writes make the whole
abbrev pub invariant-put_schema-loop-member : goal.invariant-put_schema-loop-member
invariant-put_schema-loop-member l =
    let rest = members_view (drop l.member-index l.member-items) in
    let all = members_view l.member-items in
    let schema = value_view l.schema in
    record {
      numbers : MembersHaveNumbers rest;
      before : l.writer.before ≡ l.initial.writer.before;
      tokens : l.writer.tokens ++ members_tokens (keywords l.dialect schema rest)
          ≡ l.initial.writer.tokens ++ members_tokens (keywords l.dialect schema all);
    }

abbrev pub invariant-put_named-loop-member : goal.invariant-put_named-loop-member
invariant-put_named-loop-member l =
    let rest = members_view (drop l.member-index l.member-items) in
    let all = members_view l.member-items in
    record {
      numbers : MembersHaveNumbers rest;
      before : l.writer.before ≡ l.initial.writer.before;
      tokens : l.writer.tokens ++ members_tokens (each_named l.dialect rest)
          ≡ l.initial.writer.tokens ++ members_tokens (each_named l.dialect all);
    }

abbrev pub invariant-put_listed-loop-item : goal.invariant-put_listed-loop-item
invariant-put_listed-loop-item l =
    let rest = items_view (drop l.item-index l.item-items) in
    let all = items_view l.item-items in
    record {
      numbers : ItemsHaveNumbers rest;
      before : l.writer.before ≡ l.initial.writer.before;
      tokens : l.writer.tokens ++ items_tokens (each_listed l.dialect rest)
          ≡ l.initial.writer.tokens ++ items_tokens (each_listed l.dialect all);
    }
