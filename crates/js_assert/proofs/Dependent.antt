-- Dependences between members, one dependence further.
use Rattle.std.proofs.Common.{◌≡◌, ℕ, ◌+◌, ◌<◌, List, [], ◌∷◌, ◌++◌, Bool, true, ◌&&◌, cond}
use Rattle.std.proofs.Common.{map, length, get_or, drop, refl, sym, ap, ap₂, ◌∙◌}
use Rattle.std.proofs.lemmas.List.{drop_more}
use Rattle.std.proofs.lemmas.List.Elements.{filter-append}
use Rattle.std.specs.List.{list_all}
use Rattle.js_doc.specs.Value.{Value, Named}
use Rattle.js_doc.specs.Members.{has_name}
use Rattle.js_assert.specs.Argument.{implies, strings}
use Rattle.js_assert.specs.Dependences.{dependence_of, dependences_value}
use Rattle.js_assert.specs.Objects.{has_each, names_needed, object_says, without, sorted_with}
use Rattle.js_keyword.specs.declared.assertion_keyword.ObjectKeyword.TheVariants.{DependentRequired}
use Rattle.js_assert.specs.declared.objects.Dependence.{Dependence}
use Rattle.js_doc.proofs.PartLists.{member_list-members}
use Rattle.js_assert.proofs.ListedValues.{strings_names}
use Rattle.js_assert.proofs.Sorted.{sorted_with-append}

abbrev is_met : Named → List ℕ × Value → Bool
is_met ms d = implies (has_name d.0 ms) (has_each (strings d.1) ms)

abbrev pub meets : Named → Dependence → Bool
meets ms d = implies (has_name d.name ms) (has_each d.needs.items ms)

same_met : (ms : Named) (d : Dependence) → is_met ms (dependence_of d) ≡ meets ms d
same_met ms d = ap (λ names. implies (has_name d.name ms) (has_each names ms)) (strings_names d.needs.items)

met_each : (ms : Named) (ds : List Dependence) → list_all (is_met ms) (map dependence_of ds) ≡ list_all (meets ms) ds
met_each ms [] = refl
met_each ms (d ∷ ds) = ap₂ (λ a b. a && b) (same_met ms d) (met_each ms ds)

pub all_met : (ms : Named) (ds : List Dependence) (b : Bool) → b ≡ list_all (meets ms) ds
    → b ≡ object_says (dependences_value ds) DependentRequired ms
all_met ms ds b e = e ∙ (sym (met_each ms ds)
    ∙ sym (ap (list_all (is_met ms)) (member_list-members (map dependence_of ds))))

-- a dependence whose name is a member's asks for its names
pub asked_more : (ms : Named) (ds : List Dependence) (i : ℕ) (d : Dependence) (old new : List (List ℕ)) → i < length ds
    → d ≡ get_or ds i d → has_name d.name ms ≡ true → new ≡ sorted_with old (without ms d.needs.items)
    → sorted_with new (without ms (names_needed ms (map dependence_of (drop (i + 1) ds))))
    ≡ sorted_with old (without ms (names_needed ms (map dependence_of (drop i ds))))
asked_more ms ds i d old new low here present put =
    let rest = names_needed ms (map dependence_of (drop (i + 1) ds)) in
    let first : drop i ds ≡ d ∷ drop (i + 1) ds = drop_more ds i d low ∙ ap (λ e. e ∷ drop (i + 1) ds) (sym here) in
    let taken : names_needed ms (map dependence_of (d ∷ drop (i + 1) ds)) ≡ d.needs.items ++ rest =
    ap₂ (λ b names. cond b names [] ++ rest) present (strings_names d.needs.items) in
    let apart : without ms (d.needs.items ++ rest)
    ≡ without ms d.needs.items ++ without ms rest = filter-append _ d.needs.items rest in
    ap (λ ns. sorted_with ns (without ms rest)) put
    ∙ sym (sorted_with-append old (without ms d.needs.items) (without ms rest))
    ∙ sym (ap (sorted_with old)
    (ap (λ xs. without ms (names_needed ms (map dependence_of xs))) first ∙ ap (without ms) taken ∙ apart))
