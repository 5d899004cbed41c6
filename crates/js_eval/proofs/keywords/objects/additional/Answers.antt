use Rattle.std.proofs.Common.{◌||◌, filter, not, ap, sym, ◌∙◌}
use Rattle.js_assert.specs.Argument.{entries}
use Rattle.js_doc.specs.Seen.{value_of}
use Rattle.js_eval.specs.Applications.{is_property, matches_pattern}
use Rattle.js_eval.specs.code.Cursors.{is_matched, is_named, members_asked, named_in}
use Rattle.js_eval.specs.Seen.{instance_of}
use Rattle.js_eval.specs.code.Starting.{on_members}
use Rattle.js_eval.proofs.NothingLeft.{none_additional}
use Rattle.js_eval.proofs.PatternsAt.{patterns_at}
use Rattle.js_eval.proofs.Started.{additional_by}
use Rattle.js_eval.proofs.keywords.objects.additional.Goals as goal

pub returns-clause-asked : goal.returns-clause-asked
returns-clause-asked c =
    let s = c.args.start.now in
    ap (members_asked s.schemas.now) c.in_ok-in_box.ensures ∙ c.on_chosen-cursor.ensures.asked
    ∙ ap (λ ms. on_members s.schemas.now s.at.now (filter (λ m. not (is_named c.properties_in-properties.result m.0
    || is_matched c.patterns_in-patterns.result m.0)) ms)) c.in-Some.ensures
    ∙ ap (on_members s.schemas.now s.at.now)
    (additional_by c.properties_in-properties.result c.patterns_in-patterns.result
    (entries (value_of s.at.now.schema.now)) (entries (instance_of s.value)) c.properties_in-properties.ensures
    c.patterns_in-patterns.ensures.is)

pub invariant_of-choice-clause-there : goal.invariant_of-choice-clause-there
invariant_of-choice-clause-there c = c.requires.0.0

pub invariant_of-choice-clause-known : goal.invariant_of-choice-clause-known
invariant_of-choice-clause-known c =
    let s = c.args.start.now in
    patterns_at s.schemas.now s.at.now.place (value_of s.at.now.schema.now) c.requires.0
    (named_in c.patterns_in-patterns.result) c.patterns_in-patterns.ensures.is c.patterns_in-patterns.ensures.ascend

pub returns-then-are_all_named-clause-asked : goal.returns-then-are_all_named-clause-asked
returns-then-are_all_named-clause-asked c =
    let s = c.args.start.now in
    let keywords = entries (value_of s.at.now.schema.now) in
    sym (ap (on_members s.schemas.now s.at.now)
    (ap (filter (λ m. not (is_property keywords m.0 || matches_pattern keywords m.0))) (sym c.in-Some.ensures)
    ∙ none_additional c.properties_in-properties.result keywords c.in-Some.members.now
    c.properties_in-properties.ensures
    (c.are_all_named.ensures c.if-are_all_named.true)))
