-- Items and members as lists, there and back.
use Rattle.std.proofs.Common.{◌≡◌, [], ◌∷◌, refl}
use Rattle.js_doc.specs.Value.{Items, no_items, item, Members, no_members, member, Values, Named, items, members}
use Rattle.js_doc.specs.Parts.{item_list, member_list}

pub item_list-items : (vs : Values) → item_list (items vs) ≡ vs
item_list-items [] = refl
item_list-items (v ∷ vs) = λ i. v ∷ item_list-items vs i

pub items-item_list : (vs : Items) → items (item_list vs) ≡ vs
items-item_list no_items = refl
items-item_list (item v vs) = λ i. item v (items-item_list vs i)

pub member_list-members : (ms : Named) → member_list (members ms) ≡ ms
member_list-members [] = refl
member_list-members (m ∷ ms) = λ i. m ∷ member_list-members ms i

pub members-member_list : (ms : Members) → members (member_list ms) ≡ ms
members-member_list no_members = refl
members-member_list (member name v ms) = λ i. member name v (members-member_list ms i)
