-- The examples, by computing what the definitions say.
use Rattle.std.specs.Prelude.{◌≡◌, false, true, refl}
use Rattle.js_keyword.specs.AssertionKeyword.{keyword_named}
use Rattle.js_keyword.specs.Keyword.{which_keyword}
use Rattle.js_eval.specs.Verdict.{within}
use Rattle.js_eval.specs.Examples.{Shown}

differ : false ≡ true → ⊥
differ e = cc

pub shown : Shown
unfolding within which_keyword keyword_named
shown = record {
  polygon_accepts = refl;
  polygon_refuses = (refl, refl);
  double_not_accepts = refl;
  any_of_leaves_a = (refl, refl);
  contains_evaluates = refl;
  contains_leaves_the_rest = (refl, refl);
  if_holds = refl;
  if_fails = (refl, refl);
  then_without_if = refl;
  endless_within_8 = λ e. differ e;
  any_of_at_3 = (refl, refl);
  any_of_at_7 = (refl, refl);
  failing_property_fails = (refl, refl);
  one_branch_holds = refl;
  two_branches_hold = (refl, refl);
  two_match = refl;
  one_matches = (refl, refl);
  four_match = (refl, refl);
  none_need_match = refl;
  all_of_evaluates = refl;
  all_of_leaves_b = (refl, refl);
  not_evaluates_nothing = (refl, refl);
  items_follow_the_prefix = refl;
  items_refuse = (refl, refl);
  prefix_evaluates = refl;
  prefix_leaves_the_rest = (refl, refl);
  unevaluated_evaluates = refl;
  name_is_a = refl;
  name_is_b = (refl, refl);
  dependent_refuses = (refl, refl);
  dependent_accepts = refl;
  tree_accepts = refl;
  strict_tree_refuses = (refl, refl);
  double_not_gives = record
      { bound = 3; settled = refl; node = (refl, (refl, (refl, (refl, (refl, (refl, tt, tt), tt), tt), tt), tt)) };
}
