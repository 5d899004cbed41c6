use Rattle.std.proofs.Common.{ap}
use Rattle.js_doc.specs.Seen.{value_of}
use Rattle.js_upgrade.proofs.EachOnce.{text_seen}
use Rattle.js_upgrade.proofs.once.is_new.Goals as goal

pub returns-in_ok-insert-in-Text : goal.returns-in_ok-insert-in-Text
returns-in_ok-insert-in-Text c = λ names seen.
    text_seen c.args.seen.now.keys c.insert.new.self.keys names c.as_str.result c.in-Text.text
    (value_of c.args.doc.now) c.in_ok-insert-in-Text.field-0 (ap value_of c.in-Text.is) c.as_str.ensures
    c.in_ok-insert-in-Text.ensures.added c.in_ok-insert-in-Text.ensures.updates.0 seen
