-- Values as stored trees: what lets a model be a value, and one test compare two of them.
use Rattle.std.specs.Prelude.{◌≡◌, ℕ, suc, zero, pos, negsuc, List, [], ◌∷◌, true, false, refl}
use Rattle.std.specs.Coded.{Coded, code_by, coded_list, coded×, coded_ℕ}
use base.Stored.{Gv, gnil, gnum, gcons}
use denote.Struct.Codes.{itself}
use Rattle.js_doc.specs.Value.{Value, null, truth, whole, text, list, object, Items, no_items, item}
use Rattle.js_doc.specs.Value.{Members, no_members, member, Values, Named}

abbrev pub to_text : List ℕ → Gv
to_text [] = gnil
to_text (x ∷ xs) = gcons (gnum x) (to_text xs)

abbrev pub from_text : Gv → List ℕ
from_text (gcons (gnum x) g) = x ∷ from_text g
from_text _ = []

pub from_text-to_text : (s : List ℕ) → from_text (to_text s) ≡ s
from_text-to_text [] = refl
from_text-to_text (x ∷ xs) = λ i. x ∷ from_text-to_text xs i

abbrev mutual
  pub to_value : Value → Gv
  to_value null = gnil
  to_value (truth false) = gnum 0
  to_value (truth true) = gnum 1
  to_value (text s) = gcons gnil (to_text s)
  to_value (whole (pos n)) = gcons (gnum 0) (gnum n)
  to_value (whole (negsuc n)) = gcons (gnum 1) (gnum n)
  to_value (list vs) = gcons (gcons gnil gnil) (to_items vs)
  to_value (object ms) = gcons (gcons (gnum 0) gnil) (to_members ms)

  pub to_items : Items → Gv
  to_items no_items = gnil
  to_items (item v vs) = gcons (to_value v) (to_items vs)

  pub to_members : Members → Gv
  to_members no_members = gnil
  to_members (member k v ms) = gcons (gcons (to_text k) (to_value v)) (to_members ms)

abbrev stored_number : Gv → ℕ
stored_number (gnum n) = n
stored_number _ = 0

abbrev mutual
  pub from_value : Gv → Value
  from_value gnil = null
  from_value (gnum zero) = truth false
  from_value (gnum (suc n)) = truth true
  from_value (gcons gnil g) = text (from_text g)
  from_value (gcons (gnum zero) g) = whole (pos (stored_number g))
  from_value (gcons (gnum (suc n)) g) = whole (negsuc (stored_number g))
  from_value (gcons (gcons gnil h) g) = list (from_items g)
  from_value (gcons (gcons (gnum n) h) g) = object (from_members g)
  from_value (gcons (gcons (gcons k l) h) g) = null

  pub from_items : Gv → Items
  from_items (gcons g h) = item (from_value g) (from_items h)
  from_items _ = no_items

  pub from_members : Gv → Members
  from_members (gcons (gcons k g) h) = member (from_text k) (from_value g) (from_members h)
  from_members _ = no_members

mutual
  pub from_value-to_value : (v : Value) → from_value (to_value v) ≡ v
  from_value-to_value null = refl
  from_value-to_value (truth false) = refl
  from_value-to_value (truth true) = refl
  from_value-to_value (whole (pos n)) = refl
  from_value-to_value (whole (negsuc n)) = refl
  from_value-to_value (text s) = λ i. text (from_text-to_text s i)
  from_value-to_value (list vs) = λ i. list (from_items-to_items vs i)
  from_value-to_value (object ms) = λ i. object (from_members-to_members ms i)

  pub from_items-to_items : (vs : Items) → from_items (to_items vs) ≡ vs
  from_items-to_items no_items = refl
  from_items-to_items (item v vs) = λ i. item (from_value-to_value v i) (from_items-to_items vs i)

  pub from_members-to_members : (ms : Members) → from_members (to_members ms) ≡ ms
  from_members-to_members no_members = refl
  from_members-to_members (member k v ms) = λ i.
      member (from_text-to_text k i) (from_value-to_value v i) (from_members-to_members ms i)

abbrev pub value_code : Coded Value
value_code = code_by Gv itself to_value from_value from_value-to_value

abbrev pub values_code : Coded Values
values_code = coded_list value_code

abbrev pub named_code : Coded Named
named_code = coded_list (coded× (coded_list coded_ℕ) value_code)
