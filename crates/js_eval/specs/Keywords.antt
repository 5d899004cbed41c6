-- The keywords of a schema that have a node in the result, and their order. The standard prescribes no order: all of
-- this file is this project's own choice.
use Rattle.std.specs.Prelude.{ℕ, List, [], ◌∷◌, ◌++◌, Bool, not, ◌&&◌, filter, codes}
use Rattle.std.specs.Str.{bytes_eq}
use Rattle.std.specs.List.{list_any}
use Rattle.std.specs.Ordering.{is_gt}
use Rattle.js_doc.specs.Members.{name_cmp}
use Rattle.js_doc.specs.Value.{Value}
use Rattle.js_assert.specs.Argument.{entries}

-- a keyword's name, and its argument
abbrev pub Member : Type 0
Member = List ℕ × Value

-- the keywords that identify schemas, hold them for reference, or comment (Core, sections 8.1 to 8.3): they require
-- nothing of a value, and have no node; `definitions` is taken as `$defs`
abbrev pub without_node : List (List ℕ)
without_node =
    codes "$schema" ∷ codes "$id" ∷ codes "$anchor" ∷ codes "$dynamicAnchor" ∷ codes "$vocabulary" ∷ codes "$comment"
    ∷ codes "$defs" ∷ codes "definitions" ∷ []

abbrev pub has_node : List ℕ → Bool
has_node name = not (list_any (bytes_eq name) without_node)

-- ---- the order: ascending by name, except that `else` counts as a name directly after `if`

abbrev pub is_else : List ℕ → Bool
is_else name = bytes_eq name (codes "else")

abbrev pub is_after_if : List ℕ → Bool
is_after_if name = is_gt (name_cmp name (codes "if"))

-- it has a node before that of `else`
abbrev pub comes_before_else : List ℕ → Bool
comes_before_else name = has_node name && (not (is_else name) && not (is_after_if name))

-- it has a node after that of `else`
abbrev pub comes_after_else : List ℕ → Bool
comes_after_else name = has_node name && is_after_if name

-- those of a schema's keywords whose names pass a test
abbrev pub keywords_that : (List ℕ → Bool) → Value → List Member
keywords_that test schema = filter (λ k. test k.0) (entries schema)

-- a schema's keywords that have a node, in the order of their nodes; the members of a schema ascend,
-- and a schema that is `true` or `false` has none
abbrev pub keywords : Value → List Member
keywords schema = keywords_that comes_before_else schema
    ++ (keywords_that is_else schema ++ keywords_that comes_after_else schema)
