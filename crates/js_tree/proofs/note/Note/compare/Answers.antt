use Rattle.std.proofs.Common.{◌∙◌, sym, ap₂}
use Rattle.std.specs.Cmp.Lexicographic.{slice_cmp}
use Rattle.std.specs.Cmp.Derive.Mapped.{lex_map}
use Rattle.std.specs.Ordering.{nat_cmp}
use Rattle.js_tree.specs.Seen.{note_of}
use Rattle.js_tree.specs.code.Order.{note_order}
use Rattle.js_tree.proofs.note.Note.compare.Goals as goal

pub returns-in-Names-Names : goal.returns-in-Names-Names
returns-in-Names-Names c =
    c.cmp-in-Names-Names.ensures
    ∙ sym (lex_map (λ name. name.now) (slice_cmp nat_cmp) c.as_slice.result.now c.as_slice-in-Names-Names.result.now)
    ∙ ap₂ (slice_cmp (slice_cmp nat_cmp)) c.as_slice.ensures c.as_slice-in-Names-Names.ensures
    ∙ ap₂ (λ a b. note_order (note_of a) (note_of b)) (sym c.in-Names-Names.is-0) (sym c.in-Names-Names.is-1)
