-- The lines of a suite, one test and one group after another.
use Rattle.std.proofs.Common.{◌≡◌, ℕ, ◌+◌, ◌<◌, ◌≤◌, List, [], ◌∷◌, ◌++◌, length, get_or, drop, Option}
use Rattle.std.proofs.Common.{option_map, refl, sym, ap, ◌∙◌, subst, append_assoc}
use Rattle.std.proofs.lemmas.List.{append-nil, drop_more, drop_all}
use Rattle.js_bundle.specs.Document as bundle
use Rattle.js_doc.specs.Seen.{value_of}
use Rattle.js_output.specs.Suite.{AreGroupLines, AreLines, AreTestLines, IsBasis, IsLine}
use Rattle.js_output.specs.SuiteText.{group_seen, groups_seen, test_seen, tests_seen}
use Rattle.js_output.specs.declared.suite_lines.TestLine.{TestLine}
use Rattle.js_output.specs.declared.suite_text.SuiteGroup.{SuiteGroup}
use Rattle.js_output.specs.declared.suite_text.SuiteTest.{SuiteTest}

module _ (basis : Option bundle.Documents) (g : ℕ) (tests : List SuiteTest) where
  -- the lines so far lead to all
  abbrev pub LeadsTests : ℕ → List TestLine → Type 0
  LeadsTests n done = (rest : List TestLine) → AreTestLines basis g n (tests_seen (drop n tests)) rest
      → AreTestLines basis g 0 (tests_seen tests) (done ++ rest)

  pub test_more : (n : ℕ) (d : SuiteTest) (done : List TestLine) (line : TestLine) → n < length tests → IsLine basis g n
      (test_seen (get_or tests n d)) line → LeadsTests n done → LeadsTests (n + 1) (done ++ line ∷ [])
  test_more n d done line within is leads rest h =
      subst (AreTestLines basis g 0 (tests_seen tests)) (sym (append_assoc done (line ∷ []) rest))
      (leads (line ∷ rest) (subst (λ ts. AreTestLines basis g n (tests_seen ts) (line ∷ rest))
      (sym (drop_more tests n d within)) (is, h)))

  pub tests_all : (n : ℕ) (done : List TestLine) → length tests ≤ n → LeadsTests n done
      → AreTestLines basis g 0 (tests_seen tests) done
  tests_all n done end leads =
      subst (AreTestLines basis g 0 (tests_seen tests)) (append-nil done)
      (leads [] (subst (λ ts. AreTestLines basis g n (tests_seen ts) []) (sym (drop_all n tests end)) refl))

module _ (documents : bundle.Documents) (groups : List SuiteGroup) where
  abbrev pub LeadsGroups : ℕ → List TestLine → Type 0
  LeadsGroups n done = (rest : List TestLine) → AreLines documents n (groups_seen (drop n groups)) rest
      → AreLines documents 0 (groups_seen groups) (done ++ rest)

  pub group_more : (n : ℕ) (d : SuiteGroup) (done these new : List TestLine) → n < length groups → new ≡ done ++ these
      → AreGroupLines documents n (group_seen (get_or groups n d)) these → LeadsGroups n done → LeadsGroups (n + 1) new
  group_more n d done these new within e is leads rest h =
      subst (AreLines documents 0 (groups_seen groups))
      (sym (append_assoc done these rest) ∙ ap (λ ls. ls ++ rest) (sym e))
      (leads (these ++ rest) (subst (λ gs. AreLines documents n (groups_seen gs) (these ++ rest))
      (sym (drop_more groups n d within)) (these, rest, refl, is, h)))

  pub groups_all : (n : ℕ) (done : List TestLine) → length groups ≤ n → LeadsGroups n done
      → AreLines documents 0 (groups_seen groups) done
  groups_all n done end leads =
      subst (AreLines documents 0 (groups_seen groups)) (append-nil done)
      (leads [] (subst (λ gs. AreLines documents n (groups_seen gs) []) (sym (drop_all n groups end)) refl))

-- the lines of a group's tests are the group's, where what they were judged by is its basis
module _ (documents : bundle.Documents) (g : ℕ) (group : SuiteGroup) (basis : Option bundle.Documents)
    (tests : List SuiteTest) (old new : List TestLine) where
  pub group_reported : IsBasis documents g (option_map value_of group.schema) basis → tests ≡ group.tests.items
      → ((these : List TestLine) × (new ≡ old ++ these) × AreTestLines basis g 0 (tests_seen tests) these)
      → ((these : List TestLine) × (new ≡ old ++ these) × AreGroupLines documents g (group_seen group) these)
  group_reported judged is reported =
      let (these, grown, lines) = reported in
      (these, grown, (basis, judged, subst (λ ts. AreTestLines basis g 0 (tests_seen ts) these) is lines))
