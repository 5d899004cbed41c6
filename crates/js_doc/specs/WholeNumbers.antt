-- What a text that `serde_json` reads is in this profile: a value, if each of its numbers is whole (`1.0` isn't); else
-- the place of the first number that isn't, in preorder, the members of an object by name ascending.
use Rattle.std.specs.Prelude.{ℕ, ◌+◌, pos, List, [], ◌∷◌, Result, Ok, Err, decimal}
use Rattle.serde_json.specs.Data as json
use Rattle.serde_json.specs.Data.{Num, unsigned, negative, float, Data}
use Rattle.js_doc.specs.Value.{Value, null, truth, whole, text, list, object, Items}
use Rattle.js_doc.specs.Value.{no_items, item, Members, no_members, member}
use Rattle.js_doc.specs.Pointer.{Tokens}

-- what is wanted, or the way to what stands against it
abbrev pub Found : Type 0 → Type 0
Found A = Result A Tokens

-- as seen from one level further up
abbrev pub under : {A : Type 0} → List ℕ → Found A → Found A
under token (Ok a) = Ok a
under token (Err place) = Err (token ∷ place)

abbrev pub found_map : {A B : Type 0} → (A → B) → Found A → Found B
found_map f (Ok a) = Ok (f a)
found_map f (Err place) = Err place

-- the first that stands against it decides
abbrev pub found_both : {A B C : Type 0} → (A → B → C) → Found A → Found B → Found C
found_both f (Ok a) rest = found_map (f a) rest
found_both f (Err place) rest = Err place

-- `serde_json` keeps a whole number within 64 bits as such, and any other one as a float
abbrev pub whole_number : Num → Found Value
whole_number (unsigned n) = Ok (whole (pos n))
whole_number (negative z) = Ok (whole z)
whole_number (float x) = Err []

abbrev mutual
  pub value_in : Data → Found Value
  value_in json.null = Ok null
  value_in (json.boolean b) = Ok (truth b)
  value_in (json.number n) = whole_number n
  value_in (json.string s) = Ok (text s)
  value_in (json.array ds) = found_map list (items_in 0 ds)
  value_in (json.object ms) = found_map object (members_in ms)

  -- the first item stands at n
  pub items_in : ℕ → json.Items → Found Items
  items_in n json.no_items = Ok no_items
  items_in n (json.item d ds) = found_both item (under (decimal n) (value_in d)) (items_in (n + 1) ds)

  pub members_in : json.Members → Found Members
  members_in json.no_members = Ok no_members
  members_in (json.member k d ms) = found_both (member k) (under k (value_in d)) (members_in ms)
