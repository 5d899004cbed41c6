use Rattle.js_tree.specs.Alike.{same_but_keyword}
use Rattle.js_tree.proofs.AlikeUnits.{same_but_keyword_equiv}
use Rattle.js_tree.proofs.Earliest.{earliest_stays}
use Rattle.js_tree.proofs.MergedTree.{firsts-found}
use Rattle.js_tree.proofs.laws.the_earliest_of_alike_trees_stays.Goals as goal

pub returns-clause-stays : goal.returns-clause-stays
returns-clause-stays c = λ f a below g e. earliest_stays same_but_keyword f a below g e

pub returns-clause-goes : goal.returns-clause-goes
returns-clause-goes c = λ f a below g e. firsts-found same_but_keyword same_but_keyword_equiv f a below g e
