use Rattle.std.proofs.Common.{refl, ◌≡◌, Some, codes, filter, map, subst, sym, ◌∙◌}
use Rattle.std.specs.Prelude.{IfOk}
use Rattle.std.specs.List.{flat_map}
use Rattle.js_assert.specs.Pattern.{matches}
use Rattle.js_doc.specs.Value.{Named}
use Rattle.js_eval.specs.SchemaSet as spec
use Rattle.js_eval.specs.Seen.{instance_of}
use Rattle.js_eval.specs.code.Asked.{asked}
use Rattle.js_eval.specs.code.Starting.{by_keyword}
use Rattle.js_assert.specs.Argument.{entries}
use Rattle.js_doc.specs.Members.{get}
use Rattle.js_doc.specs.Seen.{value_of}
use Rattle.js_eval.proofs.AskedNothing.{none_of_each}
use Rattle.js_keyword.proofs.KeywordNames.{known_by_name}
use Rattle.js_keyword.specs.declared.keyword.Keyword.TheVariants.{PatternProperties}
use Rattle.js_eval.proofs.PatternsAt.{patterns_are}
use Rattle.js_eval.proofs.keywords.objects.patterns.Goals as goal

pub returns-in-None-clause-asked : goal.returns-in-None-clause-asked
returns-in-None-clause-asked c = rw (c.in-None.ensures, none_of_each)

pub on_matching-requires-clause-patterns : goal.on_matching-requires-clause-patterns
on_matching-requires-clause-patterns c =
    let documents = c.args.start.now.schemas.now in
    let at = c.args.start.now.at.now in
    let schema = value_of at.schema.now in
    let argument = value_of at.keyword.argument.now in
    let named = known_by_name at.keyword.name.now PatternProperties (sym at.keyword.known ∙ c.requires.kind) refl in
    let has : get (codes "patternProperties") (entries schema) ≡ Some argument =
    subst (λ name. get name (entries schema) ≡ Some argument) named c.requires.keyword in
    patterns_are documents at.place schema c.requires.place argument has c.in-Some.patterns.now
    c.in-Some.ensures c.names_ascend.ensures

pub returns-in-Some-object-clause-asked : goal.returns-in-Some-object-clause-asked
returns-in-Some-object-clause-asked c =
    let s = c.args.start.now in
    let documents = s.schemas.now in
    let on = λ (ms ps : Named). IfOk c.on_matching.result (λ a. asked documents a
    ≡ flat_map (λ p. map (λ m. by_keyword documents s.at.now (spec.Name p.0) (spec.Name m.0) m.1)
    (filter (λ m. matches p.0 m.0) ms)) ps) in
    let named : on (entries (instance_of s.value)) c.in-Some.patterns.now =
    subst (λ ms. on ms c.in-Some.patterns.now) c.in-Some-object.ensures c.on_matching.ensures.asked in
    subst (λ ps. on (entries (instance_of s.value)) ps) c.in-Some.ensures named
