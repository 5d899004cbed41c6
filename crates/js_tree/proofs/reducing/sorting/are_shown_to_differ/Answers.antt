use Rattle.std.proofs.Common.{◌∙◌, sym}
use Rattle.js_tree.specs.Alike.{same_but_keyword}
use Rattle.js_tree.specs.Forest.{forest_of}
use Rattle.js_tree.proofs.AlikeUnits.{same_but_keyword_equiv}
use Rattle.js_tree.proofs.Differing.{differ-firsts}
use Rattle.js_tree.proofs.reducing.sorting.are_shown_to_differ.Goals as goal

pub returns-in-Some : goal.returns-in-Some
returns-in-Some c = λ h.
    differ-firsts same_but_keyword same_but_keyword_equiv (forest_of c.args.trees.now) (sym c.in-Some.ensures ∙ h)
