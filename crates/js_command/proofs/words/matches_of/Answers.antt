use Rattle.std.proofs.Common.{◌∙◌, ◌≤◌, ◌<◌, length, sym, ap, rules, subst}
use Rattle.std.proofs.lemmas.Result.{err_from_is_err_and}
use Rattle.clap.specs.Words.{HasKind, kind_of, fault_of, is_simple, is_simple_and_free}
use Rattle.clap.specs.Words.{subcommand_of, subcommand_rows_of}
use Rattle.js_command.specs.Words.{words_of}
use Rattle.js_command.proofs.Asked.{found_asks, lent_length, refused_asks}
use Rattle.js_command.proofs.GrammarFacts.{simple, free}
use Rattle.js_command.proofs.words.matches_of.Goals as goal

pub returns-in_err-matches-clause-err : goal.returns-in_err-matches-clause-err
returns-in_err-matches-clause-err c =
    let p = err_from_is_err_and c.from_residual-in_err-matches.result c.from_residual-in_err-matches.ensures.1 in
    let some : 0 < length (words_of c.args.words.now) =
    subst (λ n. 0 < n) (sym (lent_length c.args.words.now)) c.requires in
    let few : length c.args.words.now ≤ 18446744073709551615 = search rules in
    let fewer : length (words_of c.args.words.now)
    ≤ 18446744073709551615 = subst (λ n. n ≤ 18446744073709551615) (sym (lent_length c.args.words.now)) few in
    rw (p.1, p.2) (refused_asks (words_of c.args.words.now) (kind_of c.in_err-matches.field-0.0) some fewer
    (subst (λ a. HasKind (fault_of a (words_of c.args.words.now)) c.in_err-matches.field-0.0) c.in_ok-grammar.ensures
    (c.in_err-matches.ensures.kinds (ap is_simple_and_free c.in_ok-grammar.ensures ∙ free))))

pub returns-clause-ok : goal.returns-clause-ok
returns-clause-ok c =
    let some : 0 < length (words_of c.args.words.now) =
    subst (λ n. 0 < n) (sym (lent_length c.args.words.now)) c.requires in
    let few : length c.args.words.now ≤ 18446744073709551615 = search rules in
    let fewer : length (words_of c.args.words.now)
    ≤ 18446744073709551615 = subst (λ n. n ≤ 18446744073709551615) (sym (lent_length c.args.words.now)) few in
    found_asks (words_of c.args.words.now) (subcommand_rows_of c.in_ok-matches.matches) some fewer
    (sym (ap (λ a. fault_of a (words_of c.args.words.now)) c.in_ok-grammar.ensures)
    ∙ c.in_ok-matches.ensures.kinds (ap is_simple_and_free c.in_ok-grammar.ensures ∙ free))
    ((c.in_ok-matches.ensures.matches (ap is_simple c.in_ok-grammar.ensures ∙ simple)).1
    ∙ ap (λ a. subcommand_of a (words_of c.args.words.now)) c.in_ok-grammar.ensures)
