-- How many nodes the result has, defined without the tree: so it is known that a result is too large before it is made.
use Rattle.std.specs.Prelude.{ℕ, zero, suc, ◌+◌, List, [], ◌∷◌, ◌++◌, sum_by}
use Rattle.js_doc.specs.Value.{Value}
use Rattle.js_eval.specs.Applications.{Application}
use Rattle.js_eval.specs.Keywords.{Member, keywords}
use Rattle.js_eval.specs.SchemaSet.{SchemaSet}
use Rattle.js_eval.specs.Verdict.{Known, within, asks}

-- of an application at the end of a path
abbrev pub nodes_of_application : {Place : Type 0} → (List Place → Place → Value → ℕ) → List Place
    → Application Place → ℕ
nodes_of_application nodes path a = nodes path a.place a.value

-- of a keyword: its own, and those of its applications
abbrev pub nodes_of_keyword : {Place : Type 0} → SchemaSet Place → Known Place → (List Place → Place → Value → ℕ)
    → List Place → Place → Value → Member → ℕ
nodes_of_keyword S known nodes above place v k =
    1 + sum_by (nodes_of_application nodes (above ++ place ∷ [])) (asks S known above place v k)

-- of a schema, by what is known within n: its own, and those of its keywords
unfoldable pub node_total : {Place : Type 0} → SchemaSet Place → ℕ → List Place → Place → Value → ℕ
node_total S zero above place v = 0
node_total S (suc n) above place v =
    1 + sum_by (nodes_of_keyword S (within S n) (node_total S n) above place v) (keywords (S.schema place))
