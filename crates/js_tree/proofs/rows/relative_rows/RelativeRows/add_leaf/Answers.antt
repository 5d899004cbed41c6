use Rattle.std.proofs.Common.{◌∷◌, ◌++◌, [], ap, refl}
use Rattle.json.specs.Print.{escape}
use Rattle.js_tree.specs.Seen.{note_of}
use Rattle.js_tree.proofs.RowsOfTrees.Leaves.{leaf_goes, leaf_stays}
use Rattle.js_tree.proofs.rows.relative_rows.RelativeRows.add_leaf.Goals as goal

pub returns-then-goes : goal.returns-then-goes
returns-then-goes c = λ keyword instance t.
    leaf_goes c.args.self.now keyword c.args.schema.now c.args.name.now instance c.args.valid
    (note_of c.args.note) t c.if-goes.ensures

pub returns : goal.returns
returns c = λ keyword instance t.
    leaf_stays c.args.self.now _ _ keyword c.args.schema.now c.args.name.now instance c.args.valid (note_of c.args.note)
    t c.requires c.if-goes.ensures
    c.in_ok-push.ensures.items refl refl
    (ap (λ text. (
      record {
        valid = c.args.valid;
        keyword = 47 ∷ text;
        absolute = escape c.args.schema.now ++ 47 ∷ text;
        instance = [];
        note = note_of c.args.note;
      },
      1,
    )) c.as_bytes-name.ensures.value)
