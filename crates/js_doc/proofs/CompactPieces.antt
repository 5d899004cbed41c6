-- What is left to write of items or of members, a piece at a time.
use Rattle.std.proofs.Common.{◌≡◌, ℕ, ◌+◌, ◌<◌, ◌≤◌, Bool, true, List, [], ◌∷◌, ◌++◌}
use Rattle.std.proofs.Common.{length, drop, get_or, ap, ◌∙◌}
use Rattle.std.proofs.lemmas.List.{drop_more, drop_all}
use Rattle.js_doc.specs.Seen.{value_of, items_seen, members_seen}
use Rattle.js_doc.specs.Compact.{quoted, compact, comma_if, compact_items, compact_members}
use Rattle.js_doc.specs.declared.doc.Doc.{Doc}
use Rattle.js_doc.specs.BytesOut.{Progress, Goes}
use Rattle.js_doc.proofs.Alike.{Entry}
use Rattle.js_doc.proofs.BytesGone.{Wrote, goes_on, same_left}

pub item_left : (ds : List Doc) (i : ℕ) (d : Doc) (later : Bool) → i < length ds → get_or ds i d ≡ d
    → compact_items later (items_seen (drop i ds))
    ≡ comma_if later ++ (compact (value_of d) ++ compact_items true (items_seen (drop (i + 1) ds)))
item_left ds i d later h is =
    ap (λ xs. compact_items later (items_seen xs)) (drop_more ds i d h ∙ ap (λ x. x ∷ drop (i + 1) ds) is)

pub item_end : (ds : List Doc) (i : ℕ) (later : Bool) → length ds ≤ i
    → compact_items later (items_seen (drop i ds)) ≡ 93 ∷ []
item_end ds i later h = ap (λ xs. compact_items later (items_seen xs)) (drop_all i ds h)

pub entry_left : (es : List Entry) (i : ℕ) (e : Entry) (later : Bool) (k : List ℕ) → i < length es
    → get_or es i e ≡ e → k ≡ e.0
    → compact_members later (members_seen (drop i es)) ≡ comma_if later
    ++ (quoted k ++ (58 ∷ [] ++ (compact (value_of e.1) ++ compact_members true (members_seen (drop (i + 1) es)))))
entry_left es i e later k h is f = rw (drop_more es i e h, is, f)

-- the comma before the member at i has gone out, and its name comes next
pub name_next : (a b c : Progress) (all : List ℕ) (es : List Entry) (i : ℕ) (e : Entry) (later : Bool) (k : List ℕ)
    → Wrote a b (compact_members later (members_seen (drop i es))) all
    → i < length es → get_or es i e ≡ e → k ≡ e.0 → Goes b c (comma_if later)
    → Wrote a c (quoted k ++ (58 ∷ []
    ++ (compact (value_of e.1) ++ compact_members true (members_seen (drop (i + 1) es))))) all
name_next a b c all es i e later k w h is f comma =
    goes_on a b c (comma_if later) _ all (same_left a b _ _ all w (entry_left es i e later k h is f)) comma

-- the name and the colon have gone out too, and the value comes next
pub value_next : (a b c d f : Progress) (all : List ℕ) (es : List Entry) (i : ℕ) (e : Entry) (later : Bool) (k : List ℕ)
    → Wrote a b (compact_members later (members_seen (drop i es))) all
    → i < length es → get_or es i e ≡ e → k ≡ e.0 → Goes b c (comma_if later)
    → Goes c d (quoted k) → Goes d f (58 ∷ [])
    → Wrote a f (compact (value_of e.1) ++ compact_members true (members_seen (drop (i + 1) es))) all
value_next a b c d f all es i e later k w h is same comma name colon =
    goes_on a d f (58 ∷ []) _ all
    (goes_on a c d (quoted k) _ all (name_next a b c all es i e later k w h is same comma) name) colon
