use Rattle.std.proofs.Common.{◌∙◌, ◌<◌, ℕ, ap, is_some, arith}
use Rattle.std.proofs.lemmas.List.Elements.{All-from_get_or}
use Rattle.regex.specs.Patterns.{find_str}
use Rattle.regex.specs.Strings.{matcher_pattern}
use Rattle.js_assert.specs.Pattern.{matches}
use Rattle.js_assert.proofs.Compiled.{found_is}
use Rattle.js_assert.proofs.searcher.Searcher.holds.Goals as goal

pub returns-clause-found : goal.returns-clause-found
returns-clause-found c =
    let text = c.args.text.now in
    let small = All-from_get_or (λ (x : ℕ). x < 256) text 0 (λ i within. omega (arith, c.type_inv.text i)) in
    c.is_match.ensures.found ∙ (ap (λ re. is_some (find_str re text 0))
    (ap matcher_pattern c.deref_mut.ensures.value ∙ c.self.invariant.same)
    ∙ (found_is c.self.inside.regex.now text c.self.invariant.compiled small ∙ ap (λ p. matches p text) c.self.view_is))
