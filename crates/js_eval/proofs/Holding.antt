-- What a keyword holds, and at which rank.
use Rattle.std.specs.Prelude.{◌≡◌, ℕ, true, List, ◌∷◌, Some, slice_get, refl}
use Rattle.std.proofs.Common.{sym, ◌∙◌, ap}
use Rattle.js_assert.specs.Argument.{entries, values}
use Rattle.js_bundle.specs.Place.{items_in}
use Rattle.js_bundle.specs.Place as bundle
use Rattle.js_bundle.specs.Ranked.{HoldsAtRank, applies_at}
use Rattle.js_keyword.specs.declared.argument_form.Holding.TheVariants as held
use Rattle.js_bundle.specs.Schemas.{Step, Alone, Index, Name, fits}
use Rattle.js_doc.specs.Members.{get}
use Rattle.js_doc.specs.Parts.{item_list, members_of}
use Rattle.js_doc.specs.Value.{Value, null, truth, whole, text, list, object, Items, no_items, item}
use Rattle.js_eval.specs.Keywords.{Member}
use Rattle.js_keyword.specs.Keyword.{which_keyword}
use Rattle.js_eval.specs.code.Holding.{IsIn}
use Rattle.js_keyword.specs.declared.keyword.Keyword.{Keyword}
use Rattle.js_eval.proofs.AssertionThere.{same_members}

-- ---- its argument

pub argument_is : (v : Value) (k : Member) → IsIn v k → get k.0 (members_of v) ≡ Some k.1
argument_is v k e = ap (get k.0) (same_members v) ∙ e

values_are : (vs : Items) → bundle.values vs ≡ item_list vs
values_are no_items = refl
values_are (item v vs) = ap (λ us. v ∷ us) (values_are vs)

pub items_are : (v : Value) → items_in v ≡ values v
items_are null = refl
items_are (truth b) = refl
items_are (whole z) = refl
items_are (text t) = refl
items_are (list vs) = values_are vs
items_are (object ms) = refl

ranked_by : (w : Keyword) (name : List ℕ) (step : Step) → w ≡ which_keyword name → applies_at w step ≡ true
    → applies_at (which_keyword name) step ≡ true
ranked_by w name step e h = ap (λ x. applies_at x step) (sym e) ∙ h

pub one_ranked : (w : Keyword) (v : Value) (k : Member) → w ≡ which_keyword k.0 → applies_at w ≡ fits held.One
    → IsIn v k → HoldsAtRank v k.0 Alone 0 k.1
one_ranked w v k d f g =
    (ranked_by w k.0 Alone d (ap (λ t. t Alone) f), (k.1, argument_is v k g, (refl, refl)))

pub item_ranked : (w : Keyword) (v : Value) (k : Member) (i : ℕ) (u : Value) → w ≡ which_keyword k.0
    → applies_at w ≡ fits held.Listed → IsIn v k → slice_get (values k.1) i ≡ Some u
    → HoldsAtRank v k.0 (Index i) i u
item_ranked w v k i u d f g h = (
  ranked_by w k.0 (Index i) d (ap (λ t. t (Index i)) f),
  (k.1, argument_is v k g, (ap (λ us. slice_get us i) (items_are k.1) ∙ h, refl)),
)

pub member_ranked : (w : Keyword) (v : Value) (k : Member) (name : List ℕ) (r : ℕ) (u : Value)
    → w ≡ which_keyword k.0 → applies_at w ≡ fits held.Named → IsIn v k
    → slice_get (entries k.1) r ≡ Some (name, u) → HoldsAtRank v k.0 (Name name) r u
member_ranked w v k name r u d f g h = (
  ranked_by w k.0 (Name name) d (ap (λ t. t (Name name)) f),
  (k.1, argument_is v k g, ap (λ ms. slice_get ms r) (same_members k.1) ∙ h),
)
