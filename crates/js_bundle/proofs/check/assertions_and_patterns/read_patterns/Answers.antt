use Rattle.std.proofs.Common.{◌≡◌, [], ◌∷◌, ◌++◌, map, string_bytes, ◌∙◌, subst}
use Rattle.std.specs.List.{flat_map}
use Rattle.js_doc.specs.Seen.{value_of, pair_of}
use Rattle.js_doc.specs.Value.{Value}
use Rattle.js_bundle.specs.AssertionsAndPatterns.{pattern_at}
use Rattle.js_bundle.specs.Candidate.{IsClear}
use Rattle.js_bundle.specs.Keyword.{Text}
use Rattle.js_bundle.specs.code.Leads.{Leads}
use Rattle.js_bundle.specs.Refusals.{at_pattern}
use Rattle.js_bundle.specs.code.Scan.{site_of}
use Rattle.js_bundle.proofs.Checking.PatternNext.{pattern_next}
use Rattle.js_bundle.proofs.Checking.CheckStops.{leads_past}
use Rattle.js_bundle.proofs.check.assertions_and_patterns.read_patterns.Goals as goal

pub loop-name-preserved : goal.loop-name-preserved
loop-name-preserved c =
    let l = c.loop-name in
    let f = λ (n : Text × Value). at_pattern (site_of c.args.at.site.now) (c.args.at.keyword.now ∷ n.0 ∷ []) n.0 in
    let key = c.in-Some.name.now in
    let v = value_of c.in-Some.field-0-1.now in
    let rest = map pair_of c.next.new.self in
    record {
      leads = leads_past (flat_map f c.args.members.now) (f (key, v)) (flat_map f rest)
          (subst (λ es. Leads (flat_map f c.args.members.now) (flat_map f (map pair_of es)))
          c.in-Some.ensures.steps l.invariant.leads)
          (subst (λ k. IsClear (at_pattern (site_of c.args.at.site.now) (c.args.at.keyword.now ∷ k ∷ []) k))
          c.as_str.ensures c.in_ok-pattern.ensures.clear);
      built = pattern_next l.out.items c.push.new.self.items c.in_ok-copied.copied c.in_ok-pattern.pattern key v rest _
          c.in_ok-push.ensures.items
          c.in_ok-copied.ensures (c.in_ok-pattern.ensures.built ∙ c.as_str.ensures)
          (subst (λ es. l.out.items ++ map pattern_at (map pair_of es)
          ≡ c.args.out.now.items ++ map pattern_at c.args.members.now) c.in-Some.ensures.steps l.invariant.built);
    }
