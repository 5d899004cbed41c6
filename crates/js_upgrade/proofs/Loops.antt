-- A loop over an object's members or over a list's items, whose schemas are upgraded one after the other.
use Rattle.std.proofs.Common.{◌≡◌, ℕ, ◌+◌, ◌<◌, List, [], ◌∷◌, ◌++◌, Bool, true, false, cond, map, get_or, length, drop}
use Rattle.std.proofs.Common.{refl, sym, ap, ◌∙◌, append_assoc, codes}
use Rattle.std.proofs.lemmas.List.{drop_more}
use Rattle.js_doc.specs.Nesting.{depth}
use Rattle.js_doc.specs.Value.{Value, Text, Values, Named, list, items, object, members, text}
use Rattle.js_doc.specs.Members.{get}
use Rattle.js_doc.specs.Parts.{members_of}
use Rattle.js_doc.specs.Seen.{value_of, pair_of}
use Rattle.js_doc.specs.declared.doc.Doc.{Doc}
use Rattle.js_doc.proofs.Smaller.{item_smaller, member_smaller}
use Rattle.js_upgrade.specs.Keyword.{change_in}
use Rattle.js_upgrade.specs.Schema.{beside_reference, change_of, gathered_members, hides, is_true, put_all}
use Rattle.js_upgrade.specs.Schema.{required_names}
use Rattle.js_upgrade.specs.declared.dialect.Dialect.{Dialect}
use Rattle.js_upgrade.specs.declared.keyword.Change.{Change}

abbrev pub Pairs : Type 0
Pairs = List (List ℕ × Doc)

-- some are done, and these are left
abbrev pub IsSplit : Pairs → Pairs → Type 0
IsSplit all left = (done : Pairs) × (all ≡ done ++ left)

pub split_start : (all : Pairs) → IsSplit all all
split_start all = ([], refl)

pub split_next : (all old left : Pairs) (m : List ℕ × Doc) → IsSplit all old → old ≡ m ∷ left
    → IsSplit all left
split_next all old left m split step = (
  split.0 ++ m ∷ [],
  split.1 ∙ ap (λ es. split.0 ++ es) step ∙ sym (append_assoc split.0 (m ∷ []) left),
)

-- the next one nests less deep than the object
pub next_smaller : {pairs all old left : Pairs} {name : List ℕ} {value : Doc} {ms : Named}
    → map pair_of pairs ≡ ms → all ≡ pairs → IsSplit all old → old ≡ (name, value) ∷ left
    → depth (value_of value) < depth (object (members ms))
next_smaller {pairs} {all} {old} {left} {name} {value} {ms} seen same split step =
    member_smaller pairs split.0 (name, value) left ms seen (sym same ∙ split.1 ∙ ap (λ es. split.0 ++ es) step)

-- an item nests less deep than the list
pub next_item_smaller : (ds : List Doc) (vs : Values) (i : ℕ) {x : Doc} → map value_of ds ≡ vs → x ≡ get_or ds i x
    → i < length ds → depth (value_of x) < depth (list (items vs))
next_item_smaller ds vs i {x} seen is low = item_smaller ds vs i x x seen low (sym is)

-- members are gathered one after the other, where g is what they become and f what each of those makes
module _ (f : Text → Value → Named) (g : Named → Named) (old : Pairs) (out whole : Named) where
  -- one more
  pub gathered_next : (w : Value) (left : Pairs) (m : List ℕ × Doc) (new : Named)
      → g (pair_of m ∷ map pair_of left) ≡ (m.0, w) ∷ g (map pair_of left) → old ≡ m ∷ left
      → new ≡ put_all (f m.0 w) out → gathered_members f (g (map pair_of old)) out ≡ whole
      → gathered_members f (g (map pair_of left)) new ≡ whole
  gathered_next w left m new unfolds step put before =
      ap (gathered_members f (g (map pair_of left))) put
      ∙ sym (ap (λ es. gathered_members f (g (map pair_of es)) out) step
      ∙ ap (λ ns. gathered_members f ns out) unfolds) ∙ before

  -- none is left
  pub gathered_end : g [] ≡ [] → old ≡ [] → gathered_members f (g (map pair_of old)) out ≡ whole → out ≡ whole
  gathered_end unfolds none before =
      sym (ap (λ es. gathered_members f (g (map pair_of es)) out) none
      ∙ ap (λ ns. gathered_members f ns out) unfolds) ∙ before

-- what becomes of a keyword, where it is known whether a reference hides it
pub change_known : (d : Dialect) (siblings : Named) (hidden : Bool) (name key : Text) (change : Change)
    → hidden ≡ hides d siblings → key ≡ name
    → change ≡ cond hidden (beside_reference (change_in d key)) (change_in d key) → change ≡ change_of d siblings name
change_known d siblings hidden name key change known same is =
    is ∙ ap (λ b. cond b (beside_reference (change_in d key)) (change_in d key)) known
    ∙ ap (change_of d siblings) same

map_push : (es : List Doc) (e : Doc) → map value_of (es ++ e ∷ []) ≡ map value_of es ++ value_of e ∷ []
map_push [] e = refl
map_push (d ∷ es) e = ap (λ vs. value_of d ∷ vs) (map_push es e)

-- a list that is made item by item, where f is what an item becomes
pub made_next : (f : Values → Values) (u : Value) (out new : List Doc) (made : Doc) (ds : List Doc) (i : ℕ) (x : Doc)
    (whole : Values) → ((vs : Values) → f (value_of x ∷ vs) ≡ u ∷ f vs) → i < length ds → x ≡ get_or ds i x
    → new ≡ out ++ made ∷ [] → value_of made ≡ u → map value_of out ++ f (map value_of (drop i ds)) ≡ whole
    → map value_of new ++ f (map value_of (drop (i + 1) ds)) ≡ whole
made_next f u out new made ds i x whole unfolds low is pushed made_is before =
    let rest = map value_of (drop (i + 1) ds) in
    let here : map value_of (drop i ds) ≡ value_of x ∷ rest = ap (map value_of) (drop_more ds i x low)
    ∙ ap (λ y. value_of y ∷ rest) (sym is) in
    ap (λ es. map value_of es ++ f rest) pushed ∙ ap (λ vs. vs ++ f rest) (map_push out made)
    ∙ append_assoc (map value_of out) (value_of made ∷ []) (f rest)
    ∙ ap (λ v. map value_of out ++ v ∷ f rest) made_is
    ∙ sym (ap (λ vs. map value_of out ++ vs) (ap f here ∙ unfolds rest)) ∙ before

required_first : (b : Bool) (v : Value) (vs : Values) → cond b (v ∷ vs) vs ≡ cond b (v ∷ []) [] ++ vs
required_first true v vs = refl
required_first false v vs = refl

-- the names of one member more
pub required_next : (old left : Pairs) (m : List ℕ × Doc) (out new : Values) (whole : Values) → old ≡ m ∷ left
    → new ≡ out ++ required_names ((m.0, value_of m.1) ∷ [])
    → out ++ required_names (map pair_of old) ≡ whole → new ++ required_names (map pair_of left) ≡ whole
required_next old left m out new whole step pushed before =
    let b = is_true (get (codes "required") (members_of (value_of m.1))) in
    let rest = required_names (map pair_of left) in
    ap (λ vs. vs ++ rest) pushed ∙ append_assoc out (required_names ((m.0, value_of m.1) ∷ [])) rest
    ∙ ap (λ vs. out ++ vs) (sym (required_first b (text m.0) rest))
    ∙ sym (ap (λ es. out ++ required_names (map pair_of es)) step) ∙ before

pub all_seen : {pairs all : Pairs} {ms : Named} → map pair_of pairs ≡ ms → all ≡ pairs → map pair_of all ≡ ms
all_seen seen same = ap (map pair_of) same ∙ seen
