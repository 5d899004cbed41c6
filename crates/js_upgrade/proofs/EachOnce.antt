-- Texts that were seen, and items that are kept: one further.
use Rattle.std.proofs.Common.{◌≡◌, ℕ, ◌+◌, ◌<◌, List, [], ◌∷◌, ◌++◌, Bool, true, false, not, cond, ◌||◌, Bor}
use Rattle.std.proofs.Common.{map, length, get_or, drop, refl, sym, ap, ap₂, ◌∙◌, append_assoc}
use Rattle.std.proofs.lemmas.List.{drop_more}
use Rattle.std.specs.Cmp.Lexicographic.{slice_cmp, texts_ties, nat_list_eq_equiv}
use Rattle.std.specs.List.{list_any}
use Rattle.std.specs.Ordering.{is_eq, nat_cmp}
use Rattle.std.specs.Str.{bytes_eq}
use Rattle.js_doc.specs.Seen.{value_of}
use Rattle.js_doc.specs.Value.{Value, text, Text, Values}
use Rattle.js_doc.specs.declared.doc.Doc.{Doc}
use Rattle.js_upgrade.specs.Schema.{is_new, once, seen_with}
use Rattle.js_upgrade.specs.code.HasSeen.{HasSeen, is_seen_text}

or_of : (a b : Bool) → cond a true b ≡ a || b
or_of true b = refl
or_of false b = refl

pub text_seen : (old new : List (Bor Text)) (names : List Text) (k : Bor Text) (name : Text) (v : Value) (b : Bool)
    → v ≡ text name → k.now ≡ name → b ≡ not (is_seen_text old k.now)
    → ((q : Bor Text) → is_seen_text new q.now
    ≡ cond (is_eq (slice_cmp nat_cmp k.now q.now)) true (is_seen_text old q.now))
    → HasSeen old names → (b ≡ is_new names v) × HasSeen new (seen_with names v)
text_seen old new names k name v b is lent added updates seen = (
  added ∙ ap not (seen k) ∙ ap (λ n. not (list_any (bytes_eq n) names)) lent ∙ sym (ap (is_new names) is),
  λ q.
      let tie : is_eq (slice_cmp nat_cmp k.now q.now) ≡ bytes_eq q.now k.now = sym (texts_ties k.now q.now)
      ∙ nat_list_eq_equiv.symm k.now q.now in
      updates q ∙ ap₂ (λ c a. cond c true a) tie (seen q)
      ∙ or_of (bytes_eq q.now k.now) (list_any (bytes_eq q.now) names)
      ∙ ap (λ n. list_any (bytes_eq q.now) (n ∷ names)) lent
      ∙ sym (ap (λ w. list_any (bytes_eq q.now) (seen_with names w)) is),
)

here : (ds : List Doc) (i : ℕ) (x : Doc) → i < length ds → x ≡ get_or ds i x
    → map value_of (drop i ds) ≡ value_of x ∷ map value_of (drop (i + 1) ds)
here ds i x low is = ap (map value_of) (drop_more ds i x low)
    ∙ ap (λ y. value_of y ∷ map value_of (drop (i + 1) ds)) (sym is)

map_push : (es : List Doc) (e : Doc) → map value_of (es ++ e ∷ []) ≡ map value_of es ++ value_of e ∷ []
map_push [] e = refl
map_push (d ∷ es) e = ap (λ vs. value_of d ∷ vs) (map_push es e)

pub next_new : (names : List Text) (found new : List Doc) (ds : List Doc) (i : ℕ) (x : Doc) (whole : Values)
    → i < length ds → x ≡ get_or ds i x → is_new names (value_of x) ≡ true → new ≡ found ++ x ∷ []
    → map value_of found ++ once names (map value_of (drop i ds)) ≡ whole
    → map value_of new ++ once (seen_with names (value_of x)) (map value_of (drop (i + 1) ds)) ≡ whole
next_new names found new ds i x whole low is fresh pushed before =
    let v = value_of x in
    let rest = once (seen_with names v) (map value_of (drop (i + 1) ds)) in
    let step : once names (map value_of (drop i ds)) ≡ v ∷ rest =
    ap (once names) (here ds i x low is) ∙ ap (λ b. cond b (v ∷ rest) rest) fresh in
    ap (λ es. map value_of es ++ rest) pushed ∙ ap (λ vs. vs ++ rest) (map_push found x)
    ∙ append_assoc (map value_of found) (v ∷ []) rest ∙ sym (ap (λ vs. map value_of found ++ vs) step) ∙ before

pub next_seen : (names : List Text) (found new : List Doc) (ds : List Doc) (i : ℕ) (x : Doc) (whole : Values)
    → i < length ds → x ≡ get_or ds i x → is_new names (value_of x) ≡ false → new ≡ found
    → map value_of found ++ once names (map value_of (drop i ds)) ≡ whole
    → map value_of new ++ once (seen_with names (value_of x)) (map value_of (drop (i + 1) ds)) ≡ whole
next_seen names found new ds i x whole low is old same before =
    let v = value_of x in
    let rest = once (seen_with names v) (map value_of (drop (i + 1) ds)) in
    let step : once names (map value_of (drop i ds)) ≡ rest =
    ap (once names) (here ds i x low is) ∙ ap (λ b. cond b (v ∷ rest) rest) old in
    ap (λ es. map value_of es ++ rest) same ∙ sym (ap (λ vs. map value_of found ++ vs) step) ∙ before
