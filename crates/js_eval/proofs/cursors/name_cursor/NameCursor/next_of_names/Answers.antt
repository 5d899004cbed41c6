use Rattle.js_assert.specs.Argument.{entries}
use Rattle.js_doc.specs.Seen.{value_of}
use Rattle.js_eval.specs.Seen.{keyword_of}
use Rattle.js_eval.proofs.Holding.{member_ranked}
use Rattle.js_eval.proofs.cursors.name_cursor.NameCursor.next_of_names.Goals as goal

pub apply_at_rank-requires-clause-held : goal.apply_at_rank-requires-clause-held
apply_at_rank-requires-clause-held c =
    let k = c.args.self.now.at.keyword in
    member_ranked k.which (value_of c.args.self.now.at.schema.now) (keyword_of k) c.in_ok-rank.name.now
    c.in_ok-rank.rank (value_of c.in_ok-rank.held.now)
    k.known c.requires.1 c.requires.2
    (c.in_ok-rank.ensures.left (entries (value_of k.argument.now)) c.requires.3).1
