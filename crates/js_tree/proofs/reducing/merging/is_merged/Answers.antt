use Rattle.std.proofs.Common.{◌≡◌, ◌∙◌, ◌&&◌, Bool, sym, ap}
use Rattle.js_tree.specs.Alike.{same_but_keyword}
use Rattle.js_tree.specs.Forest.{Forest, empty, forest_of}
use Rattle.js_tree.specs.Merged.{all_merged, none_alike}
use Rattle.js_tree.specs.OutputUnit.{OutputUnit, noted}
use Rattle.js_tree.proofs.MergedTest.{tests_normal, normal_tests}
use Rattle.js_tree.proofs.reducing.merging.is_merged.Goals as goal

tests : Forest OutputUnit → Bool
tests f = none_alike same_but_keyword empty f && all_merged noted same_but_keyword f

pub returns : goal.returns
unfolding tests
returns c =
    let f = c.args.tree.now.below in
    let e : c.are_merged.result ≡ tests f = c.are_merged.ensures ∙ ap (λ ts. tests (forest_of ts)) c.as_slice.ensures
    ∙ ap (λ t. tests t.below) c.tree.view_is in
    (λ h. tests_normal noted same_but_keyword f (sym e ∙ h), λ n. e ∙ normal_tests noted same_but_keyword f n)
