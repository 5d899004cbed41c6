-- The keywords of a schema that are still to come, in the order of their nodes (of private functions).
use Rattle.std.specs.Prelude.{List, [], ◌∷◌, ◌++◌, Option, Some, None, cond, map}
use Rattle.js_doc.specs.Seen.{pair_of}
use Rattle.js_doc.specs.Value.{Named}
use Rattle.js_eval.specs.Keywords as table
use Rattle.js_eval.specs.Seen.{keyword_of}
use Rattle.js_eval.specs.code.Applicator.{applicators_from}
use Rattle.js_eval.specs.code.Turns.{ever, first_turn, second_turn, last_turn}
use Rattle.js_eval.specs.declared.order.in_turn.InTurn.{InTurn}
use Rattle.js_eval.specs.declared.order.in_turn.InTurn.TheVariants.{Every, Applying}
use Rattle.js_eval.specs.declared.order.keyword.Member.{Member}
use Rattle.js_eval.specs.declared.order.keyword_cursor.KeywordCursor.{KeywordCursor}
use Rattle.js_eval.specs.declared.order.keyword_cursor.Keywords.{Keywords}
use Rattle.js_eval.specs.declared.order.keyword_cursor.Keywords.TheVariants.{Nothing, Of}

-- the members that are still to come, of all or of those alone that apply schemas
abbrev pub members_left : InTurn → Named
members_left (Every c) = map pair_of c.left
members_left (Applying c) = applicators_from c.members.now c.rank

-- the keyword that is deferred, or else these
abbrev pub deferred_or : Option Member → List table.Member → List table.Member
deferred_or None others = others
deferred_or (Some k) others = keyword_of k ∷ []

-- up to `if`: of all that is left, where `else` may be deferred already
abbrev pub up_to_if : Option Member → Named → List table.Member
up_to_if deferred left = first_turn left ++ (deferred_or deferred (second_turn left) ++ last_turn left)

-- after `if`: what may be deferred comes first
abbrev pub after_if : Option Member → Named → List table.Member
after_if deferred left = deferred_or deferred [] ++ ever left

abbrev pub keywords_left : KeywordCursor → List table.Member
keywords_left c = cond c.is_past_if (after_if c.deferred (members_left c.left))
    (up_to_if c.deferred (members_left c.left))

abbrev pub keywords_in : Keywords → List table.Member
keywords_in Nothing = []
keywords_in (Of cursor) = keywords_left cursor
