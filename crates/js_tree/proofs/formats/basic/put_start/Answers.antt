use Rattle.std.proofs.Common.{◌∷◌, ◌++◌, ℕ, List, Bool, true, false, Result, subst, sym}
use Rattle.std.specs.Result.{IsErr}
use Rattle.js_doc.specs.BytesOut.{Progress, Puts, Stops}
use Rattle.js_tree.specs.NodeText.{annotation_part, children_start, error_part, tail_text}
use Rattle.js_tree.specs.Seen.{note_of}
use Rattle.js_tree.proofs.Pieces.{then_puts, stops_in}
use Rattle.js_tree.specs.code.RelativeText.{opening_text, start_text, unit_there}
use Rattle.js_tree.specs.declared.rows.relative_rows.RelativeRow.{RelativeRow}
use Rattle.js_tree.proofs.RowsOfTrees.EscapedRows.{still_at}
use Rattle.js_tree.proofs.WrittenRows.ListedRows.{unit_pieces}
use Rattle.js_tree.proofs.formats.basic.put_start.Goals as goal

-- what comes behind the opening of a unit
abbrev unit_rest : RelativeRow → List ℕ → List ℕ → List ℕ → List ℕ
unit_rest x k a i = let u = unit_there x k a i in 34 ∷ (annotation_part u.note ++ (error_part u.note ++ tail_text u))

start_stops : {T E : Type 0} (has_children later : Bool) (x : RelativeRow) (k a i : List ℕ) (before after : Progress)
    (r : Result T E) → IsErr r → Stops before after (opening_text later a)
    → Puts before after (start_text has_children later x k a i) r
start_stops true later x k a i before after r e s =
    stops_in before after (opening_text later a)
    ((34 ∷ annotation_part (note_of x.note)) ++ children_start (note_of x.note) x.valid) r e s
start_stops false later x k a i before after r e s =
    subst (λ l. Puts before after l r) (unit_pieces later (unit_there x k a i))
    (stops_in before after (opening_text later a) (unit_rest x k a i) r e s)

pub returns-in_err-put_opening-clause-text : goal.returns-in_err-put_opening-clause-text
returns-in_err-put_opening-clause-text g c =
    λ k a i at abs.
    let o = g.O.Out.progress in
    start_stops c.args.has_children c.args.later c.args.row.now k a i (o c.args.out.now) (o c.put_opening.new.out)
    c.from_residual.result c.from_residual.ensures.0 (c.in_err-put_opening.ensures.text a abs)

pub returns-then-has_children-clause-text : goal.returns-then-has_children-clause-text
returns-then-has_children-clause-text g c =
    λ k a i at abs.
    let o = g.O.Out.progress in
    let x = c.args.row.now in
    let rest = (34 ∷ annotation_part (note_of x.note)) ++ children_start (note_of x.note) x.valid in
    subst (λ b. Puts (o c.args.out.now) (o c.put_before_list.new.out) (start_text b c.args.later x k a i)
    c.put_before_list.result) (sym c.if-has_children.true)
    (then_puts (o c.args.out.now) (o c.put_opening.new.out) (o c.put_before_list.new.out) (opening_text c.args.later a)
    rest c.put_before_list.result (c.in_ok-put_opening.ensures.text a abs) c.put_before_list.ensures)

pub returns-clause-text : goal.returns-clause-text
returns-clause-text g c =
    λ k a i at abs.
    let o = g.O.Out.progress in
    let x = c.args.row.now in
    let there = still_at c.args.locations.now c.put_opening.new.self k i at c.in_ok-put_opening.ensures.back in
    let r = c.put_rest.result in
    subst (λ b. Puts (o c.args.out.now) (o c.put_rest.new.out) (start_text b c.args.later x k a i) r)
    (sym c.if-has_children.false)
    (subst (λ l. Puts (o c.args.out.now) (o c.put_rest.new.out) l r) (unit_pieces c.args.later (unit_there x k a i))
    (then_puts (o c.args.out.now) (o c.put_opening.new.out) (o c.put_rest.new.out) (opening_text c.args.later a)
    (unit_rest x k a i) r (c.in_ok-put_opening.ensures.text a abs) (c.put_rest.ensures k i there)))
