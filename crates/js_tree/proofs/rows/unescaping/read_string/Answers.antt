use Rattle.std.proofs.Common.{◌≡◌, ℕ, List, Some, option_map, ap, sym, ◌∙◌}
use Rattle.std.proofs.lemmas.Result.{IfOk-weaker}
use Rattle.js_doc.specs.Compact.{quoted}
use Rattle.json.specs.Reads.{token_of}
use Rattle.js_tree.specs.code.Strings.{string_in}
use Rattle.js_tree.proofs.RowsOfTrees.UndoneEscapes.{gives_some, gives_string, same_read}
use Rattle.js_tree.proofs.rows.unescaping.read_string.Goals as goal

pub unreachable-requires : goal.unreachable-requires
unreachable-requires c = gives_some c.args.json.now c.requires.0 c.requires.1
    (sym c.in_ok-reader.ensures.ok ∙ c.in_default.ensures.value.0)

pub unreachable-requires-in_default-string_in : goal.unreachable-requires-in_default-string_in
unreachable-requires-in_default-string_in c =
    let given = gives_string c.args.json.now c.requires.0 (token_of c.in-Some.token) c.next.new.self
    (sym c.in_ok-reader.ensures.ok ∙ c.in-Some.ensures.value) c.requires.1 in
    let none = c.in_default-string_in.ensures ∙ given in
    absurd (cc)

pub returns : goal.returns
returns c =
    IfOk-weaker c.from_str.result (λ t. t ≡ c.in-Some-string_in.text.now)
    (λ t. (text : List ℕ) → c.args.json.now ≡ quoted text → t ≡ text)
    (λ t is text e.
    let given = gives_string c.args.json.now text (token_of c.in-Some.token) c.next.new.self
    (sym c.in_ok-reader.ensures.ok ∙ c.in-Some.ensures.value) e in
    let read = sym c.string_in.ensures ∙ ap (option_map (λ s. s.now)) c.in-Some-string_in.is in
    is ∙ same_read c.in-Some-string_in.text.now text (string_in (token_of c.in-Some.token)) read given)
    c.from_str.ensures
