-- What is read token by token is what `serde_json` makes of the same tokens, in this profile.
use Rattle.std.proofs.Common.{◌≡◌, ℕ, ◌+◌, List, [], ◌∷◌, ◌++◌, Option, Some, None, IfSome, option_map, Ok, decimal}
use Rattle.std.proofs.Common.{refl, ap, ◌∙◌, subst}
use Rattle.std.specs.Ordering.{match_ordering}
use Rattle.std.specs.declared.cmp.Ordering.{Ordering}
use Rattle.std.specs.declared.cmp.Ordering.TheVariants.{Less, Equal, Greater}
use Rattle.json.proofs.Grammar.{value_is}
use Rattle.json.specs.Json.{parse_map, value}
use Rattle.json.specs.Token.{Token}
use Rattle.serde_json.specs.Data as tree
use Rattle.serde_json.specs.Read.{converted, of_json}
use Rattle.js_doc.specs.Members.{name_cmp, put}
use Rattle.js_doc.specs.Value.{Value, Items, no_items, item, Named, no_members, member, members}
use Rattle.js_doc.specs.WholeNumbers.{value_in, items_in, members_in}
use Rattle.js_doc.specs.code.FromTokens.{IsNextValue, IsWholeText}
use Rattle.js_doc.proofs.Finding.{inverted, both_is, ok_inj, snoc}

-- ---- a number

pub number_next : {A : Type 0} (o : Option A) (v : A → Value) (depth : ℕ) (ts rest : List Token) (s : List ℕ)
    → ts ≡ Token.number s ∷ rest → IfSome o (λ d. IsWholeText s (v d)) → IfSome o (λ d. IsNextValue depth ts (v d) rest)
number_next None v depth ts rest s is h = tt
number_next (Some d) v depth ts rest s is h = (
  tree.number h.0,
  ap (converted of_json) (ap (value depth) is ∙ value_is depth _)
      ∙ ap (λ o. option_map (λ n. (n, rest)) (option_map tree.number o)) h.1,
  h.2,
)

-- ---- items

abbrev pub before : List tree.Data → tree.Items → tree.Items
before [] rest = rest
before (d ∷ ds) rest = tree.item d (before ds rest)

before_more : (ds : List tree.Data) (d : tree.Data) (rest : tree.Items)
    → before ds (tree.item d rest) ≡ before (ds ++ d ∷ []) rest
before_more [] d rest = refl
before_more (x ∷ ds) d rest = ap (tree.item x) (before_more ds d rest)

pub one_more : (ds : List tree.Data) (d : tree.Data) (r : Option (tree.Items × List Token))
    → parse_map (before ds) (parse_map (tree.item d) r) ≡ parse_map (before (ds ++ d ∷ [])) r
one_more ds d None = refl
one_more ds d (Some p) = ap (λ xs. Some (xs, p.1)) (before_more ds d p.0)

pub items_in_more : (n : ℕ) (ds : List tree.Data) (d : tree.Data) (vs : Items) (x : Value)
    → items_in n (before ds tree.no_items) ≡ Ok vs → value_in d ≡ Ok x
    → items_in n (before (ds ++ d ∷ []) tree.no_items) ≡ Ok (snoc vs x)
items_in_more n [] d vs x e h = rw (h, ← ok_inj no_items vs e)
items_in_more n (y ∷ ds) d vs x e h =
    let i = inverted item (decimal n) (value_in y) (items_in (n + 1) (before ds tree.no_items)) vs e in
    both_is item (decimal n) _ _ i.0 (snoc i.1 x) i.2 (items_in_more (n + 1) ds d i.1 x i.3 h)
    ∙ ap (λ ws. Ok (snoc ws x)) i.4

-- ---- members

put_at : (o : Ordering) (k l : List ℕ) (d x : tree.Data) (v y : Value) (ds : tree.Members) (ms : Named)
    → value_in d ≡ Ok v → value_in x ≡ Ok y → members_in ds ≡ Ok (members ms)
    → members_in (tree.put k d ds) ≡ Ok (members (put k v ms))
    → members_in (match_ordering o (tree.member k d (tree.member l x ds)) (tree.member l d ds)
    (tree.member l x (tree.put k d ds)))
    ≡ Ok (members (match_ordering o ((k, v) ∷ (l, y) ∷ ms) ((l, v) ∷ ms) ((l, y) ∷ put k v ms)))
put_at Less k l d x v y ds ms h g e more = rw (h, g, e)
put_at Equal k l d x v y ds ms h g e more = rw (h, e)
put_at Greater k l d x v y ds ms h g e more = rw (g, more)

pub put_in : (k : List ℕ) (d : tree.Data) (v : Value) → value_in d ≡ Ok v → (ds : tree.Members) (ms : Named)
    → members_in ds ≡ Ok (members ms) → members_in (tree.put k d ds) ≡ Ok (members (put k v ms))
put_in k d v h tree.no_members [] e = rw h
put_in k d v h tree.no_members (m ∷ ms) e = absurd (cc)
put_in k d v h (tree.member l x ds) [] e =
    let i = inverted (member l) l (value_in x) (members_in ds) no_members e in let z = i.4 in absurd (cc)
put_in k d v h (tree.member l x ds) (m ∷ ms) e =
    let i = inverted (member l) l (value_in x) (members_in ds) (member m.0 m.1 (members ms)) e in
    let is = i.4 in let name : m.0 ≡ l = cc in let first : i.0 ≡ m.1 = cc in let rest : i.1 ≡ members ms = cc in
    let others = i.3 ∙ ap Ok rest in
    subst (λ n. members_in (tree.put k d (tree.member n x ds)) ≡ Ok (members (put k v (m ∷ ms)))) name
    (put_at (name_cmp k m.0) k m.0 d x v m.1 ds ms h (i.2 ∙ ap Ok first) others (put_in k d v h ds ms others))
