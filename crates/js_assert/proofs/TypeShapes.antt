-- Types that are named one after another.
use Rattle.std.proofs.Common.{◌≡◌, ℕ, ◌+◌, ◌<◌, List, [], ◌∷◌, ◌++◌, Bool, true, false, not, ◌&&◌, ◌||◌}
use Rattle.std.proofs.Common.{map, length, get_or, drop, refl, sym, ap, ap₂, ◌∙◌}
use Rattle.std.proofs.lemmas.List.{drop_more}
use Rattle.std.specs.List.{list_any}
use Rattle.std.specs.Str.{bytes_eq}
use Rattle.js_doc.specs.Seen.{value_of}
use Rattle.js_doc.proofs.PartLists.{item_list-items}
use Rattle.js_doc.specs.Value.{Value, Values, text, list, items}
use Rattle.js_doc.specs.declared.doc.Doc.{Doc}
use Rattle.js_assert.specs.ArgumentShape.{are_new_types, is_empty_list, is_type, is_type_name}
use Rattle.js_assert.specs.Types.{type_name}
use Rattle.js_assert.specs.declared.instance_type.InstanceType.{InstanceType}
use Rattle.js_assert.proofs.ListedValues.{list_any-map}

-- ---- one that is taken

one_more : (seen : List (List ℕ)) (v : Value) (vs : Values) (name : List ℕ) → v ≡ text name → is_type_name name ≡ true
    → list_any (bytes_eq name) seen ≡ false
    → are_new_types seen (v ∷ vs) ≡ are_new_types (seen ++ name ∷ []) vs
one_more seen v vs name e known fresh = rw (e, known, fresh)

pub types_more : (seen : List (List ℕ)) (ds : List Doc) (i : ℕ) (d : Doc) (name : List ℕ) → i < length ds
    → d ≡ get_or ds i d → value_of d ≡ text name → is_type_name name ≡ true → list_any (bytes_eq name) seen ≡ false
    → are_new_types seen (map value_of (drop i ds)) ≡ are_new_types (seen ++ name ∷ []) (map value_of (drop (i + 1) ds))
types_more seen ds i d name low here e known fresh =
    ap (λ xs. are_new_types seen (map value_of xs)) (drop_more ds i d low)
    ∙ one_more seen (value_of (get_or ds i d)) (map value_of (drop (i + 1) ds)) name
    (ap value_of (sym here) ∙ e) known fresh

-- ---- one that isn't

twice : (seen : List (List ℕ)) (v : Value) (vs : Values) (name : List ℕ) → v ≡ text name
    → list_any (bytes_eq name) seen ≡ true → are_new_types seen (v ∷ vs) ≡ false
twice seen v vs name e h = rw (e, h)

at_first : (seen : List (List ℕ)) (ds : List Doc) (i : ℕ) (d : Doc) → i < length ds → d ≡ get_or ds i d
    → are_new_types seen (map value_of (drop i ds)) ≡ are_new_types seen (value_of d ∷ map value_of (drop (i + 1) ds))
at_first seen ds i d low here =
    ap (λ xs. are_new_types seen (map value_of xs)) (drop_more ds i d low ∙ ap (λ e. e ∷ drop (i + 1) ds) (sym here))

pub refused_twice : (all : Bool) (seen : List (List ℕ)) (ds : List Doc) (i : ℕ) (d : Doc) (name : List ℕ)
    → all ≡ are_new_types seen (map value_of (drop i ds)) → i < length ds → d ≡ get_or ds i d → value_of d ≡ text name
    → list_any (bytes_eq name) seen ≡ true → all ≡ false
refused_twice all seen ds i d name rest low here e h = rest ∙ at_first seen ds i d low here
    ∙ twice seen (value_of d) (map value_of (drop (i + 1) ds)) name e h

-- ---- a type is among others exactly if its name is among theirs

any_alike : (p q : InstanceType → Bool) (ts : List InstanceType) → ((t : InstanceType) → p t ≡ q t)
    → list_any p ts ≡ list_any q ts
any_alike p q [] h = refl
any_alike p q (t ∷ ts) h = ap₂ (λ a b. a || b) (h t) (any_alike p q ts h)

pub named_among : (same : InstanceType → Bool) (one : InstanceType) (name : List ℕ) (ts : List InstanceType)
    → ((t : InstanceType) → same t ≡ bytes_eq (type_name one) (type_name t)) → type_name one ≡ name
    → list_any (bytes_eq name) (map type_name ts) ≡ list_any same ts
named_among same one name ts h e = list_any-map type_name (bytes_eq name) ts
    ∙ any_alike (λ t. bytes_eq name (type_name t)) same ts (λ t. ap (λ n. bytes_eq n (type_name t)) (sym e) ∙ sym (h t))

-- ---- the whole list

filled : (vs : Values) → (vs ≡ [] → ⊥) → is_empty_list vs ≡ false
filled [] h = absurd (h refl)
filled (v ∷ vs) h = refl

pub list_type : (vs : Values) → (vs ≡ [] → ⊥) → is_type (list (items vs)) ≡ are_new_types [] vs
list_type vs some = ap (λ ws. not (is_empty_list ws) && are_new_types [] ws) (item_list-items vs)
    ∙ ap (λ b. not b && are_new_types [] vs) (filled vs some)
