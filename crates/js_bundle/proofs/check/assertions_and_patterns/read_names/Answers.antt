use Rattle.std.proofs.Common.{◌≡◌, List, [], ◌∷◌, ◌++◌, map, OnOk, IfErr, bytes_eq, codes}
use Rattle.std.proofs.Common.{if◌then◌else◌, Bool, true, false, not, refl, sym, ap, ◌∙◌, subst}
use Rattle.std.specs.List.{flat_map}
use Rattle.js_doc.specs.Parts.{members_of}
use Rattle.js_doc.specs.Seen.{value_of}
use Rattle.js_doc.specs.Value.{Value, Named, object, members}
use Rattle.js_doc.proofs.TokenLookup.{is_text-sound}
use Rattle.js_doc.proofs.PartLists.{member_list-members}
use Rattle.js_bundle.specs.AssertionsAndPatterns.{pattern_at}
use Rattle.js_bundle.specs.Candidate.{IsClear, IsStopped}
use Rattle.js_bundle.specs.Refusals.{at_pattern, name_rules}
use Rattle.js_bundle.specs.Keyword.{Text}
use Rattle.js_bundle.specs.Resource.{Site}
use Rattle.js_bundle.specs.code.Scan.{site_of}
use Rattle.js_bundle.proofs.check.assertions_and_patterns.read_names.Goals as goal

-- what is made of the members, where the keyword is `patternProperties`
made_of : {A : Type 0} (f : Named → List A) (ms : Named) {k : Text} {v : Value} → k ≡ codes "patternProperties"
    → v ≡ object (members ms) → f ms ≡ (if bytes_eq k (codes "patternProperties") then f (members_of v) else [])
made_of f ms {k} {v} is seen =
    sym (ap (λ name. if bytes_eq name (codes "patternProperties") then f (members_of v) else []) is
    ∙ ap f (ap members_of seen ∙ member_list-members ms))

rules_are : (place : Site) (ms : Named) {k : Text} {v : Value} → k ≡ codes "patternProperties"
    → v ≡ object (members ms)
    → flat_map (λ (n : Text × Value). at_pattern place (k ∷ n.0 ∷ []) n.0) ms ≡ name_rules place k v
rules_are place ms {k} is seen =
    made_of (flat_map (λ (n : Text × Value). at_pattern place (k ∷ n.0 ∷ []) n.0)) ms is seen

keyword_is : (differs : Bool) (k name : Text) → differs ≡ not (bytes_eq k name) → differs ≡ false
    → name ≡ codes "patternProperties" → k ≡ codes "patternProperties"
keyword_is differs k name e same is = at (bytes_eq k name) refl (sym e ∙ same)
  where
    at : (b : Bool) → bytes_eq k name ≡ b → not b ≡ false → k ≡ codes "patternProperties"
    at true equal h = is_text-sound k name equal ∙ is
    at false equal h = absurd (let z : true ≡ false = h in cc)

pub returns-in-Members-clause-clear : goal.returns-in-Members-clause-clear
returns-in-Members-clause-clear c =
    let is = keyword_is c.ne.result c.args.at.keyword.now c.name.result.now c.ne.ensures c.if-ne.false c.name.ensures in
    subst (λ cs. OnOk c.read_patterns.result (IsClear cs))
    (rules_are (site_of c.args.at.site.now) _ is (ap value_of c.in-Members.is))
    c.read_patterns.ensures.clear

pub returns-in-Members-clause-built : goal.returns-in-Members-clause-built
returns-in-Members-clause-built c =
    let is = keyword_is c.ne.result c.args.at.keyword.now c.name.result.now c.ne.ensures c.if-ne.false c.name.ensures in
    subst (λ ps. OnOk c.read_patterns.result (c.read_patterns.new.out.items ≡ c.args.out.now.items ++ ps))
    (made_of (map pattern_at) c.in-Members.members is (ap value_of c.in-Members.is))
    c.read_patterns.ensures.built

pub returns-in-Members-clause-err : goal.returns-in-Members-clause-err
returns-in-Members-clause-err c =
    let is = keyword_is c.ne.result c.args.at.keyword.now c.name.result.now c.ne.ensures c.if-ne.false c.name.ensures in
    subst (λ cs. IfErr c.read_patterns.result (IsStopped cs))
    (rules_are (site_of c.args.at.site.now) _ is (ap value_of c.in-Members.is))
    c.read_patterns.ensures.err
