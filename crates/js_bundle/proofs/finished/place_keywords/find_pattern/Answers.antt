use Rattle.std.proofs.Common.{option_map, ap, ◌∙◌, rules, of_calls}
use Rattle.std.proofs.lemmas.Fn.{always_returns_same}
use Rattle.js_bundle.proofs.Finding.PatternsFound.{before, found_at, found_past, parted, read_at}
use Rattle.js_bundle.proofs.finished.place_keywords.find_pattern.Goals as goal

pub returns-in-Some : goal.returns-in-Some
returns-in-Some c =
    let built = c.args.built.now in
    let name = c.args.name.now in
    let rank = c.partition_point-rank.result in
    let point = c.partition_point-rank.ensures.partitioned (before name)
    (always_returns_same _ _ _ (λ a r f k. search (rules, of_calls))) (parted name built c.requires) in
    c.if_named.ensures
    ∙ found_at name built c.requires rank point c.partition_point-rank.ensures.bound c.in-Some.one.now
    (read_at built rank c.get.result c.get.ensures.lookup.0 c.get.ensures.lookup.1
    ∙ ap (option_map (λ x. x.now)) c.in-Some.is)

pub returns-in-None : goal.returns-in-None
returns-in-None c =
    let built = c.args.built.now in
    let name = c.args.name.now in
    let rank = c.partition_point-rank.result in
    let point = c.partition_point-rank.ensures.partitioned (before name)
    (always_returns_same _ _ _ (λ a r f k. search (rules, of_calls))) (parted name built c.requires) in
    found_past name built c.requires rank point c.partition_point-rank.ensures.bound
    (read_at built rank c.get.result c.get.ensures.lookup.0 c.get.ensures.lookup.1
    ∙ ap (option_map (λ x. x.now)) c.in-None.is)
