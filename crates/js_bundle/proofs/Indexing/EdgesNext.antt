-- The numbers that are kept, one place further on.
use Rattle.std.proofs.Common.{◌≡◌, ℕ, ◌+◌, ◌<◌, zero, suc, List, [], ◌∷◌, ◌++◌, map, drop, get_or, length, slice_set}
use Rattle.std.proofs.Common.{refl, sym, ap, ◌∙◌, subst, append_assoc, length-append, arith}
use Rattle.std.proofs.Math.Seq.{set-append_seam}
use Rattle.std.proofs.lemmas.List.{drop_more, length-map}
use Rattle.js_doc.specs.Seen.{value_of}
use Rattle.js_doc.specs.Value.{Value, object, items, member, Members}
use Rattle.js_doc.specs.declared.doc.Doc.{Doc}
use Rattle.js_bundle.specs.declared.document.Document as rust
use Rattle.js_bundle.specs.declared.index.edges.Edges.{Edges}
use Rattle.js_bundle.specs.Keyword.{Text}
use Rattle.js_keyword.specs.Keyword.{which_keyword}
use Rattle.js_bundle.specs.Place.{holding}
use Rattle.js_bundle.specs.Seen.{document_of}
use Rattle.js_bundle.specs.code.Edges.{HeldNumbers, count, count_of_keyword, edges_at, edges_from, edges_held, edges_of}
use Rattle.js_bundle.specs.code.Edges.{edges_of_items, edges_of_keywords, edges_of_members, held_by_keywords}
use Rattle.js_bundle.specs.code.Edges.{numbers_held, numbers_of_items, numbers_of_members, one_entry}
use Rattle.js_bundle.proofs.Listing.PlacesCounted.{edge_count, keyword_edges}

-- as many more as a piece has, after it
grown : (old new : List Edges) (piece : List (List HeldNumbers)) (c : ℕ) → map edges_of new ≡ map edges_of old ++ piece
    → length piece ≡ c → length new ≡ length old + c
grown old new piece c e many =
    let a = length-map new edges_of in
    let b = length-map old edges_of in
    let d = ap length e in
    let f = length-append (map edges_of old) piece in
    omega (arith, a, b, d, f, many)

-- what is still to come, a piece later
further : {A : Type 0} (old new piece : List A) (more : ℕ → List A) (n m c : ℕ) (whole : List A) → new ≡ old ++ piece
    → m ≡ n + c → old ++ (piece ++ more (n + c)) ≡ whole → new ++ more m ≡ whole
further old new piece more n m c whole e many h = ap (λ xs. xs ++ more m) e ∙ append_assoc old piece (more m)
    ∙ ap (λ k. old ++ (piece ++ more k)) many ∙ h

-- what a place holds is put where it stands
put_held : (old : List (List HeldNumbers)) (piece : List (List HeldNumbers)) (held : List HeldNumbers)
    (between whole : List (List HeldNumbers)) (n : ℕ) → length old ≡ n → between ≡ (old ++ [] ∷ []) ++ piece
    → whole ≡ slice_set between n held → whole ≡ old ++ held ∷ piece
put_held old piece held between whole n many e is =
    is ∙ ap (λ xs. slice_set xs n held) (e ∙ append_assoc old ([] ∷ []) piece)
    ∙ ap (λ k. slice_set (old ++ [] ∷ piece) k held) (sym many) ∙ set-append_seam old [] piece held

pub set_map : {A B : Type 0} (f : A → B) (xs : List A) (i : ℕ) (x : A)
    → map f (slice_set xs i x) ≡ slice_set (map f xs) i (f x)
set_map f [] i x = refl
set_map f (y ∷ xs) zero x = refl
set_map f (y ∷ xs) (suc i) x = ap (λ r. f y ∷ r) (set_map f xs i x)

pub keywords_put : (old mid between new : List Edges) (held : List HeldNumbers) (ms : Members) (n : ℕ) → n ≡ length old
    → map edges_of mid ≡ map edges_of old ++ [] ∷ []
    → map edges_of between ≡ map edges_of mid ++ edges_of_keywords (length mid) ms
    → held ≡ held_by_keywords (length mid) ms → map edges_of new ≡ slice_set (map edges_of between) n held
    → map edges_of new ≡ map edges_of old ++ edges_at (length old) (object ms)
keywords_put old mid between new held ms n at first more is put =
    let many = grown old mid ([] ∷ []) 1 first refl in
    let next : length mid ≡ suc (length old) = omega (arith, many) in
    put_held (map edges_of old) (edges_of_keywords (length mid) ms) held (map edges_of between) (map edges_of new) n
    (length-map old edges_of ∙ sym at)
    (more ∙ ap (λ xs. xs ++ edges_of_keywords (length mid) ms) first) put
    ∙ ap (λ h. map edges_of old ++ h ∷ edges_of_keywords (length mid) ms) is
    ∙ ap (λ k. map edges_of old ++ held_by_keywords k ms ∷ edges_of_keywords k ms) next

pub put_within : (old mid between : List Edges) (ms : Members) (n : ℕ) → n ≡ length old
    → map edges_of mid ≡ map edges_of old ++ [] ∷ []
    → map edges_of between ≡ map edges_of mid ++ edges_of_keywords (length mid) ms → n < length between
put_within old mid between ms n at first more =
    let many = grown old mid ([] ∷ []) 1 first refl in
    let all = grown mid between (edges_of_keywords (length mid) ms)
    (length (edges_of_keywords (length mid) ms)) more refl in
    omega (arith, at, many, all)

-- ---- one item, member, keyword or document more

pub item_edges : (ds : List Doc) (i : ℕ) (x : Doc) (old new : List Edges) (whole : List (List HeldNumbers))
    → i < length ds → x ≡ get_or ds i x
    → map edges_of new ≡ map edges_of old ++ edges_at (length old) (value_of x)
    → map edges_of old ++ edges_of_items (length old) (items (map value_of (drop i ds))) ≡ whole
    → map edges_of new ++ edges_of_items (length new) (items (map value_of (drop (i + 1) ds))) ≡ whole
item_edges ds i x old new whole low is e h =
    let rest = items (map value_of (drop (i + 1) ds)) in
    let first = ap (map value_of) (drop_more ds i x low)
    ∙ ap (λ y. value_of y ∷ map value_of (drop (i + 1) ds)) (sym is) in
    further (map edges_of old) (map edges_of new) (edges_at (length old) (value_of x)) (λ m. edges_of_items m rest)
    (length old) (length new) (count (value_of x)) whole e
    (grown old new (edges_at (length old) (value_of x)) (count (value_of x)) e (edge_count (length old) (value_of x)))
    (subst (λ vs. map edges_of old ++ edges_of_items (length old) (items vs) ≡ whole) first h)

pub item_numbers : (ds : List Doc) (i : ℕ) (x : Doc) (old new : List Edges) (before after whole : List ℕ)
    → i < length ds → x ≡ get_or ds i x
    → map edges_of new ≡ map edges_of old ++ edges_at (length old) (value_of x) → after ≡ before ++ length old ∷ []
    → before ++ numbers_of_items (length old) (items (map value_of (drop i ds))) ≡ whole
    → after ++ numbers_of_items (length new) (items (map value_of (drop (i + 1) ds))) ≡ whole
item_numbers ds i x old new before after whole low is e p h =
    let rest = items (map value_of (drop (i + 1) ds)) in
    let first = ap (map value_of) (drop_more ds i x low)
    ∙ ap (λ y. value_of y ∷ map value_of (drop (i + 1) ds)) (sym is) in
    further before after (length old ∷ []) (λ m. numbers_of_items m rest) (length old) (length new)
    (count (value_of x)) whole p
    (grown old new (edges_at (length old) (value_of x)) (count (value_of x)) e (edge_count (length old) (value_of x)))
    (subst (λ vs. before ++ numbers_of_items (length old) (items vs) ≡ whole) first h)

pub member_edges : (k : Text) (v : Value) (ms : Members) (old new : List Edges) (whole : List (List HeldNumbers))
    → map edges_of new ≡ map edges_of old ++ edges_at (length old) v
    → map edges_of old ++ edges_of_members (length old) (member k v ms) ≡ whole
    → map edges_of new ++ edges_of_members (length new) ms ≡ whole
member_edges k v ms old new whole e h =
    further (map edges_of old) (map edges_of new) (edges_at (length old) v) (λ m. edges_of_members m ms) (length old)
    (length new) (count v) whole e
    (grown old new (edges_at (length old) v) (count v) e (edge_count (length old) v)) h

pub member_numbers : (k : Text) (v : Value) (ms : Members) (old new : List Edges) (before after whole : List ℕ)
    → map edges_of new ≡ map edges_of old ++ edges_at (length old) v → after ≡ before ++ length old ∷ []
    → before ++ numbers_of_members (length old) (member k v ms) ≡ whole
    → after ++ numbers_of_members (length new) ms ≡ whole
member_numbers k v ms old new before after whole e p h =
    further before after (length old ∷ []) (λ m. numbers_of_members m ms) (length old) (length new) (count v) whole p
    (grown old new (edges_at (length old) v) (count v) e (edge_count (length old) v)) h

pub keyword_edges_next : (l k : Text) (v : Value) (ms : Members) (old new : List Edges)
    (whole : List (List HeldNumbers)) → l ≡ k
    → map edges_of new ≡ map edges_of old ++ edges_held (holding l) (length old) v
    → map edges_of old ++ edges_of_keywords (length old) (member k v ms) ≡ whole
    → map edges_of new ++ edges_of_keywords (length new) ms ≡ whole
keyword_edges_next l k v ms old new whole same e h =
    let here = subst (λ x. map edges_of new ≡ map edges_of old ++ edges_held (holding x) (length old) v) same e in
    further (map edges_of old) (map edges_of new) (edges_held (holding k) (length old) v) (λ m. edges_of_keywords m ms)
    (length old) (length new) (count_of_keyword k v) whole here
    (grown old new (edges_held (holding k) (length old) v) (count_of_keyword k v) here
    (keyword_edges (holding k) (length old) v)) h

pub keyword_held_next : (l k : Text) (v : Value) (ms : Members) (old new : List Edges)
    (before after whole : List HeldNumbers) → l ≡ k
    → map edges_of new ≡ map edges_of old ++ edges_held (holding l) (length old) v
    → after ≡ before ++ one_entry (holding l) (which_keyword l, numbers_held (holding l) (length old) v)
    → before ++ held_by_keywords (length old) (member k v ms) ≡ whole
    → after ++ held_by_keywords (length new) ms ≡ whole
keyword_held_next l k v ms old new before after whole same e p h =
    let here = subst (λ x. map edges_of new ≡ map edges_of old ++ edges_held (holding x) (length old) v) same e in
    let put = subst (λ x. after
    ≡ before ++ one_entry (holding x) (which_keyword x, numbers_held (holding x) (length old) v)) same p in
    further before after (one_entry (holding k) (which_keyword k, numbers_held (holding k) (length old) v))
    (λ m. held_by_keywords m ms) (length old) (length new) (count_of_keyword k v) whole put
    (grown old new (edges_held (holding k) (length old) v) (count_of_keyword k v) here
    (keyword_edges (holding k) (length old) v)) h

pub document_edges : (ds : List rust.Document) (i : ℕ) (x : rust.Document) (old new : List Edges)
    (whole : List (List HeldNumbers)) → i < length ds → x ≡ get_or ds i x
    → map edges_of new ≡ map edges_of old ++ edges_at (length old) (value_of x.root)
    → map edges_of old ++ edges_from (length old) (map document_of (drop i ds)) ≡ whole
    → map edges_of new ++ edges_from (length new) (map document_of (drop (i + 1) ds)) ≡ whole
document_edges ds i x old new whole low is e h =
    let rest = map document_of (drop (i + 1) ds) in
    let first = ap (map document_of) (drop_more ds i x low)
    ∙ ap (λ y. document_of y ∷ map document_of (drop (i + 1) ds)) (sym is) in
    further (map edges_of old) (map edges_of new) (edges_at (length old) (value_of x.root)) (λ m. edges_from m rest)
    (length old) (length new) (count (value_of x.root)) whole e
    (grown old new (edges_at (length old) (value_of x.root)) (count (value_of x.root)) e
    (edge_count (length old) (value_of x.root)))
    (subst (λ vs. map edges_of old ++ edges_from (length old) vs ≡ whole) first h)
