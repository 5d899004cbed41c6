-- What an asking begins with.
use Rattle.std.proofs.Common.{◌≡◌, ◌||◌, ℕ, Bool, not, List, [], Option, Some, None, Bor}
use Rattle.std.proofs.Common.{map, filter, refl, sym, ap, ap₂, ◌∙◌}
use Rattle.std.specs.Prelude.{codes}
use Rattle.std.specs.List.{list_any}
use Rattle.std.specs.Option.{option_map_or}
use Rattle.js_assert.specs.Argument.{entries, has}
use Rattle.js_assert.specs.Pattern.{matches}
use Rattle.js_bundle.specs.Resource.{Site}
use Rattle.js_doc.specs.Members.{get}
use Rattle.js_doc.specs.Value.{Value, Named}
use Rattle.js_eval.specs.Applications.{Application, indexed_from, is_property, matches_pattern}
use Rattle.js_eval.specs.code.Cursors.{is_matched, is_named, named_in}
use Rattle.js_eval.specs.SchemaSet.{Text, Alone, Index, Name}
use Rattle.js_eval.proofs.MembersLeft.{filter_alike}

-- a schema on items, and on members, where it stands and what they are
abbrev pub on_items : (ℕ → Bool) → Site → List Value → List (Application Site)
on_items t s vs = map (λ e. record { place = s; step = Alone; at = Index e.0; value = e.1 })
    (filter (λ e. t e.0) (indexed_from 0 vs))

abbrev pub on_members : (Text → Bool) → Site → Named → List (Application Site)
on_members t s ms = map (λ m. record { place = s; step = Alone; at = Name m.0; value = m.1 }) (filter (λ m. t m.0) ms)

pub moved : {A B : Type 0} (f : Site → B → List A) (xs : List A) (s t : Site) (v w : B) → xs ≡ f s v
    → s ≡ t → v ≡ w → xs ≡ f t w
moved f xs s t v w e p q = e ∙ ap₂ f p q

-- ---- the adjacent keywords

none_or : {B : Type 0} (f : Named → B) (o : Option Value)
    → option_map_or (λ argument. f (entries argument)) o (f []) ≡ f (option_map_or entries o [])
none_or f None = refl
none_or f (Some v) = refl

pub is_property_by : (o : Option (Bor Named)) (schema : Named) (name : Text) → named_in o
    ≡ option_map_or entries (get (codes "properties") schema) [] → is_named o name ≡ is_property schema name
is_property_by o schema name e = ap (λ ms. has name ms) e
    ∙ sym (none_or (λ ms. has name ms) (get (codes "properties") schema))

pub matches_by : (o : Option (Bor Named)) (schema : Named) (name : Text) → named_in o ≡ option_map_or entries
    (get (codes "patternProperties") schema) [] → is_matched o name ≡ matches_pattern schema name
matches_by o schema name e = ap (λ ms. list_any (λ p. matches p.0 name) ms) e
    ∙ sym (none_or (λ ms. list_any (λ p. matches p.0 name) ms) (get (codes "patternProperties") schema))

pub additional_by : (o p : Option (Bor Named)) (schema ms : Named) → named_in o ≡ option_map_or entries (get
    (codes "properties") schema) [] → named_in p ≡ option_map_or entries (get (codes "patternProperties") schema) []
    → filter (λ (m : List ℕ × Value). not (is_named o m.0 || is_matched p m.0)) ms
    ≡ filter (λ m. not (is_property schema m.0 || matches_pattern schema m.0)) ms
additional_by o p schema ms e f =
    filter_alike (λ (m : List ℕ × Value). not (is_named o m.0 || is_matched p m.0))
    (λ m. not (is_property schema m.0 || matches_pattern schema m.0))
    (λ m. ap₂ (λ a b. not (a || b)) (is_property_by o schema m.0 e) (matches_by p schema m.0 f)) ms
