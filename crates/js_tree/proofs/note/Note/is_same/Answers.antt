use Rattle.std.proofs.Common.{◌∙◌, sym, ap₂, nat_eq}
use Rattle.std.specs.Cmp.Lexicographic.{pointwise}
use Rattle.std.specs.Cmp.Derive.Mapped.{pointwise-map}
use Rattle.js_tree.specs.Alike.{same_note}
use Rattle.js_tree.specs.Seen.{note_of}
use Rattle.js_tree.proofs.note.Note.is_same.Goals as goal

pub returns-in-Names-Names : goal.returns-in-Names-Names
returns-in-Names-Names c =
    c.eq-in-Names-Names.ensures
    ∙ sym (pointwise-map (λ name. name.now) (pointwise nat_eq) c.as_slice.result.now
    c.as_slice-in-Names-Names.result.now)
    ∙ ap₂ (pointwise (pointwise nat_eq)) c.as_slice.ensures c.as_slice-in-Names-Names.ensures
    ∙ ap₂ (λ a b. same_note (note_of a) (note_of b)) (sym c.in-Names-Names.is-0) (sym c.in-Names-Names.is-1)
