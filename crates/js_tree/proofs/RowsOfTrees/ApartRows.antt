-- Texts that differ, known from their ends.
use Rattle.std.proofs.Common.{◌≡◌, ◌≢◌, ℕ, ◌+◌, ◌-◌, ◌≤◌, Bool, true, false, not, nat_eq, refl, ap, sym, ◌∙◌, arith}
use Rattle.std.proofs.Common.{List, [], ◌∷◌, ◌++◌, length, take, drop, append_assoc, append-nil, take-append-drop}
use Rattle.std.proofs.lemmas.Grind.{flat_map-append}
use Rattle.std.proofs.lemmas.List.{append_cancel_left, append_cancel_right, length-append}
use Rattle.std.specs.Cmp.Lexicographic.{pointwise, bytes_decides}
use Rattle.std.specs.List.{list_all}
use Rattle.json.specs.Print.{escape, escape_byte}
use Rattle.js_doc.specs.Escapes.{stands}
use Rattle.js_doc.proofs.QuotedRuns.{nothing_escaped}
use Rattle.js_tree.proofs.FlatRows.{drop-append, drop-drop}
use Rattle.js_tree.proofs.MergedTest.{not_true}
use Rattle.js_tree.specs.Rows.RelativeState.{part}
use Rattle.js_tree.proofs.RowsOfTrees.UndoneEscapes.{from_escaped}

-- ---- what a comparison says

pub equal : (r : Bool) (a b : List ℕ) → r ≡ pointwise nat_eq a b → r ≡ true → a ≡ b
equal r a b e y = (bytes_decides a b).0 (sym e ∙ y)

pub unequal : (r : Bool) (a b : List ℕ) → r ≡ pointwise nat_eq a b → r ≡ false → a ≢ b
unequal r a b e n h = let k : true ≡ false = sym ((bytes_decides a b).1 h) ∙ (sym e ∙ n) in absurd cc

pub not_equal : (r : Bool) (a b : List ℕ) → r ≡ not (pointwise nat_eq a b) → r ≡ true → a ≢ b
not_equal r a b e y h = not_true (pointwise nat_eq a b) ((bytes_decides a b).1 h) (sym e ∙ y)

-- ---- ends

-- of texts that are equal, the shorter's end is the longer's
pub same_end : (s a t b : List ℕ) → length a ≤ length b → s ++ a ≡ t ++ b → a ≡ drop (length b - length a) b
same_end s a t b h e =
    let k = length b - length a in
    let n : length s ≡ length t + k = omega (arith, h, ap length e, length-append s a, length-append t b) in
    sym (drop-append s a) ∙ (ap (drop (length s)) e ∙ (ap (λ n. drop n (t ++ b)) n
    ∙ (drop-drop (length t) k (t ++ b) ∙ ap (drop k) (drop-append t b))))

pub split_at : (n : ℕ) (text end : List ℕ) → end ≡ drop n text → text ≡ take n text ++ end
split_at n text end e = sym (take-append-drop n text) ∙ ap (λ l. take n text ++ l) (sym e)

-- ---- what an absolute location ends with

pub ends_with_part : (schema : List ℕ) (slash : Bool) (bytes : List ℕ)
    → (start : List ℕ) × (escape schema ++ part slash bytes ≡ start ++ bytes)
ends_with_part schema true bytes = (escape schema ++ 47 ∷ [], sym (append_assoc (escape schema) (47 ∷ []) bytes))
ends_with_part schema false bytes = (escape schema, refl)

pub ends_with_nothing : (schema : List ℕ) (slash : Bool) (bytes : List ℕ)
    → (start : List ℕ) × (escape schema ++ part slash bytes ≡ start ++ [])
ends_with_nothing schema slash bytes =
    (escape schema ++ part slash bytes, sym (append-nil (escape schema ++ part slash bytes)))

pub ends_with_schema : (schema start end : List ℕ) (slash : Bool) (bytes : List ℕ) → slash ≡ false → length bytes ≡ 0
    → schema ≡ start ++ end → list_all stands end ≡ true
    → (begun : List ℕ) × (escape schema ++ part slash bytes ≡ begun ++ end)
ends_with_schema schema start end slash [] s b e h = (
  escape start,
  rw s (append-nil (escape schema)
      ∙ (ap escape e ∙ (flat_map-append escape_byte start end ∙ ap (λ l. escape start ++ l) (nothing_escaped end h)))),
)
ends_with_schema schema start end slash (x ∷ bytes) s b e h = absurd cc

-- ---- of two absolute locations

pub same_schema : (s t p q : List ℕ) → s ≡ t → escape s ++ p ≡ escape t ++ q → p ≡ q
same_schema s t p q e h =
    append_cancel_left (escape s) p q (h ∙ ap (λ l. escape l ++ q) (sym e))

pub same_part : (s t p q : List ℕ) → p ≡ q → escape s ++ p ≡ escape t ++ q → s ≡ t
same_part s t p q e h =
    from_escaped s t (append_cancel_right (escape s) (escape t) q (ap (λ l. escape s ++ l) (sym e) ∙ h))
