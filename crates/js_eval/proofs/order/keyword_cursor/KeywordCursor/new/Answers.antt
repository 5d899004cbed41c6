use Rattle.js_eval.specs.code.KeywordsLeft.{members_left}
use Rattle.js_eval.proofs.Turns.{turns_in_order}
use Rattle.js_eval.proofs.order.keyword_cursor.KeywordCursor.new.Goals as goal

pub returns : goal.returns
returns c = turns_in_order (members_left c.args.left) c.requires
