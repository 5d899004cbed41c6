-- What the reporter that keeps rows takes (of private functions).
use Rattle.std.specs.Prelude.{◌≡◌}
use Rattle.js_tree.specs.Events.{Event}
use Rattle.js_tree.specs.Rows.RelativeState.{relative_after, relative_state}
use Rattle.js_tree.specs.declared.rows.relative_rows.RelativeRows.{RelativeRows}
use Rattle.js_eval.specs.declared.reporters.recording.Recording.{Recording}

-- the event leads from these rows to those
abbrev pub AddsRow : RelativeRows → Event → RelativeRows → Type 0
AddsRow c e d = relative_state d ≡ relative_after (relative_state c) e

-- from the rows of one to those of the other
abbrev pub TakesEvent : Recording → Event → Recording → Type 0
TakesEvent c e d = AddsRow c.rows e d.rows
