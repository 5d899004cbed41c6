-- What becomes of a keyword whose number is no integer in the range.
use Rattle.std.specs.Prelude.{ℤ, Bool, true, false, not, ◌&&◌, ◌||◌, List, [], ◌∷◌, Option, Some, None}
use Rattle.std.specs.Prelude.{option_map, option_and_then, is_some, is_none, codes, if◌then◌else◌, ⊤}
use Rattle.std.specs.Fmt.{signed_decimal}
use Rattle.json.specs.Find.{get}
use Rattle.json.specs.Json.{Json, boolean, number, array, object, Items, no_items, item, Members, no_members}
use Rattle.json.specs.Json.{member}
use Rattle.js_doc.specs.Value.{Text}
use Rattle.js_upgrade.specs.declared.dialect.Dialect.{Dialect}
use Rattle.js_numbers.specs.Decimal.{IsInRange, decimal, is_short, is_whole, short_numerator, integer_value}
use Rattle.js_numbers.specs.Limit.{IsLimitInRange, exclusive_maximum_limit, exclusive_minimum_limit, greatest}
use Rattle.js_numbers.specs.Limit.{maximum_limit, minimum_limit}
use Rattle.js_numbers.specs.NumberKeyword.{number_keyword}
use Rattle.js_numbers.specs.declared.bound.Bound.{Bound}
use Rattle.js_numbers.specs.declared.bound.Bound.TheVariants.{Whole}
use Rattle.js_numbers.specs.declared.change.NumberChange.{NumberChange}
use Rattle.js_numbers.specs.declared.change.NumberChange.TheVariants.{Stays, Goes, Limited, OldLimited, Integer}
use Rattle.js_numbers.specs.declared.change.NumberChange.TheVariants.{Possible, Impossible}
use Rattle.js_numbers.specs.declared.decimal.Decimal.{Decimal}
use Rattle.js_numbers.specs.declared.limit.Limit.{Limit}
use Rattle.js_numbers.specs.declared.limit.Limit.TheVariants as limit
use Rattle.js_numbers.specs.declared.number_keyword.NumberKeyword.{NumberKeyword}
use Rattle.js_numbers.specs.declared.number_keyword.NumberKeyword.TheVariants.{Minimum, Maximum}
use Rattle.js_numbers.specs.declared.number_keyword.NumberKeyword.TheVariants.{ExclusiveMinimum, ExclusiveMaximum}
use Rattle.js_numbers.specs.declared.number_keyword.NumberKeyword.TheVariants.{OldMinimum, OldMaximum}
use Rattle.js_numbers.specs.declared.number_keyword.NumberKeyword.TheVariants.{OldExclusiveMinimum, OldExclusiveMaximum}
use Rattle.js_numbers.specs.declared.number_keyword.NumberKeyword.TheVariants.{Count, Divisor, Enumeration}
use Rattle.js_numbers.specs.declared.number_keyword.NumberKeyword.TheVariants.{Constant, Other}

abbrev pub IsChangeInRange : NumberChange → Type 0
IsChangeInRange (Limited l) = IsLimitInRange l
IsChangeInRange (OldLimited l) = IsLimitInRange l
IsChangeInRange (Integer z) = IsInRange z
IsChangeInRange _ = ⊤

-- ---- numbers that no instance can have

-- a number that is no integer in the range, unless it is long
abbrev pub outside : Decimal → Option Decimal
outside d = if is_short d && is_none (integer_value d) then Some d else None

abbrev pub fraction : Json → Option Decimal
fraction (number s) = outside (decimal s)
fraction _ = None

abbrev mutual
  -- whether such a number stands anywhere in the value
  pub is_impossible : Json → Bool
  is_impossible (number s) = is_some (outside (decimal s))
  is_impossible (array js) = has_impossible js
  is_impossible (object ms) = has_impossible_member ms
  is_impossible _ = false

  pub has_impossible : Items → Bool
  has_impossible no_items = false
  has_impossible (item j js) = is_impossible j || has_impossible js

  pub has_impossible_member : Members → Bool
  has_impossible_member no_members = false
  has_impossible_member (member name j ms) = is_impossible j || has_impossible_member ms

abbrev pub is_impossible_at : Option Json → Bool
is_impossible_at None = false
is_impossible_at (Some j) = is_impossible j

abbrev pub possible_items : Items → Items
possible_items no_items = no_items
possible_items (item j js) = if is_impossible j then possible_items js else item j (possible_items js)

abbrev pub possible : Json → Json
possible (array js) = array (possible_items js)
possible j = j

-- ---- by the keyword

abbrev pub limit_by : (is_least is_exclusive : Bool) → Decimal → Limit
limit_by true false = minimum_limit
limit_by true true = exclusive_minimum_limit
limit_by false false = maximum_limit
limit_by false true = exclusive_maximum_limit

abbrev pub limit_at : (is_least is_exclusive : Bool) → Json → Option Limit
limit_at is_least is_exclusive v = option_map (limit_by is_least is_exclusive) (fraction v)

abbrev pub limited : Option Limit → NumberChange
limited None = Stays
limited (Some l) = Limited l

abbrev pub old_limited : Option Limit → NumberChange
old_limited None = Stays
old_limited (Some l) = OldLimited l

-- whether no integer in the range meets it
abbrev pub is_excluding : Option Limit → Bool
is_excluding (Some (limit.ExclusiveMinimum z)) = true
is_excluding (Some (limit.ExclusiveMaximum z)) = true
is_excluding _ = false

-- whether the bound with this name beside it becomes an exclusive one
abbrev pub is_replaced : (is_least : Bool) → Option Json → Bool
is_replaced is_least found = is_excluding (option_and_then (limit_at is_least false) found)

abbrev pub is_boolean_true : Option Json → Bool
is_boolean_true (Some (boolean b)) = b
is_boolean_true _ = false

abbrev pub goes_or : Bool → NumberChange → NumberChange
goes_or is_gone change = if is_gone then Goes else change

-- a count beyond the range: nothing is as long
abbrev pub limited_count : Option Decimal → NumberChange
limited_count None = Stays
limited_count (Some d) = if is_whole d && not d.is_negative then Integer greatest else Stays

abbrev pub divided : Option Bound → NumberChange
divided (Some (Whole z)) = Integer z
divided _ = Stays

abbrev pub positive_numerator : Decimal → Option Bound
positive_numerator d = if d.is_negative then None else short_numerator d

abbrev pub is_constant : NumberKeyword → Bool
is_constant Constant = true
is_constant _ = false

-- whether no instance is equal to the `const` beside it
abbrev pub has_no_constant : Dialect → Json → Bool
has_no_constant d schema =
    is_constant (number_keyword d (codes "const")) && is_impossible_at (get (codes "const") schema)

abbrev pub change_by : NumberKeyword → Dialect → Json → Json → NumberChange
change_by Minimum d schema v = limited (limit_at true false v)
change_by Maximum d schema v = limited (limit_at false false v)
change_by ExclusiveMinimum d schema v =
    goes_or (is_replaced true (get (codes "minimum") schema)) (limited (limit_at true true v))
change_by ExclusiveMaximum d schema v =
    goes_or (is_replaced false (get (codes "maximum") schema)) (limited (limit_at false true v))
change_by OldMinimum d schema v =
    old_limited (limit_at true (is_boolean_true (get (codes "exclusiveMinimum") schema)) v)
change_by OldMaximum d schema v =
    old_limited (limit_at false (is_boolean_true (get (codes "exclusiveMaximum") schema)) v)
change_by OldExclusiveMinimum d schema v =
    goes_or (is_some (option_and_then fraction (get (codes "minimum") schema))) Stays
change_by OldExclusiveMaximum d schema v =
    goes_or (is_some (option_and_then fraction (get (codes "maximum") schema))) Stays
change_by Count d schema v = limited_count (fraction v)
change_by Divisor d schema v = divided (option_and_then positive_numerator (fraction v))
change_by Enumeration d schema v = goes_or (has_no_constant d schema) Possible
change_by Constant d schema v = if is_impossible v then Impossible else Stays
change_by Other d schema v = Stays

abbrev pub change : Dialect → Json → Text → Json → NumberChange
change d schema name v = change_by (number_keyword d name) d schema v

-- ---- what the keyword becomes, with the schemas in its argument rewritten

abbrev pub integer : ℤ → Json
integer z = number (signed_decimal z)

abbrev pub limit_members : Limit → List (Text × Json)
limit_members limit.Unlimited = []
limit_members (limit.Minimum z) = (codes "minimum", integer z) ∷ []
limit_members (limit.Maximum z) = (codes "maximum", integer z) ∷ []
limit_members (limit.ExclusiveMinimum z) = (codes "exclusiveMinimum", integer z) ∷ []
limit_members (limit.ExclusiveMaximum z) = (codes "exclusiveMaximum", integer z) ∷ []

-- before draft-06
abbrev pub old_limit_members : Limit → List (Text × Json)
old_limit_members limit.Unlimited = []
old_limit_members (limit.Minimum z) = (codes "minimum", integer z) ∷ []
old_limit_members (limit.Maximum z) = (codes "maximum", integer z) ∷ []
old_limit_members (limit.ExclusiveMinimum z) =
    (codes "minimum", integer z) ∷ (codes "exclusiveMinimum", boolean true) ∷ []
old_limit_members (limit.ExclusiveMaximum z) =
    (codes "maximum", integer z) ∷ (codes "exclusiveMaximum", boolean true) ∷ []

abbrev pub members_made : NumberChange → Text → Json → Json → List (Text × Json)
members_made Stays name v new = (name, new) ∷ []
members_made Goes name v new = []
members_made (Limited l) name v new = limit_members l
members_made (OldLimited l) name v new = old_limit_members l
members_made (Integer z) name v new = (name, integer z) ∷ []
members_made Possible name v new = (name, possible v) ∷ []
members_made Impossible name v new = (codes "enum", array no_items) ∷ []
