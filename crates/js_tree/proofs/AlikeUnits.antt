-- The test of units that are equal but for their keyword locations is exact.
use Rattle.std.proofs.Common.{◌≡◌, true, nat_eq, [], refl, ap, sym, ◌∙◌}
use Rattle.std.specs.Bool.{Decides, one_answer, beq}
use Rattle.std.specs.Cmp.{IsEquivalence, booleans_Decides, unsigned_Decides}
use Rattle.std.specs.Cmp.Lexicographic.{pointwise, pointwise_decides, bytes_decides}
use Rattle.js_doc.specs.Equality.{same-sound, same-refl}
use Rattle.js_tree.specs.Alike.{same_note, same_but_keyword, without_keyword}
use Rattle.js_tree.specs.Note.{Note, silent, error, value, names, index, indexes, truly}
use Rattle.js_tree.specs.OutputUnit.{OutputUnit}
use Rattle.js_tree.specs.Forest.{empty}
use Rattle.js_tree.specs.Result.{ResultTree}
use Rattle.js_tree.proofs.Rewrites.{and_left, and_right}

same_note-refl : (n : Note) → same_note n n ≡ true
same_note-refl silent = refl
same_note-refl (error a) = (bytes_decides a a).1 refl
same_note-refl (value a) = same-refl a
same_note-refl (names a) = (pointwise_decides bytes_decides a a).1 refl
same_note-refl (index a) = (unsigned_Decides a a).1 refl
same_note-refl (indexes a) = (bytes_decides a a).1 refl
same_note-refl truly = refl

same_note-sound : (m n : Note) → same_note m n ≡ true → m ≡ n
same_note-sound silent silent e = refl
same_note-sound (error a) (error b) e = ap error ((bytes_decides a b).0 e)
same_note-sound (value a) (value b) e = ap value (same-sound a b e)
same_note-sound (names a) (names b) e = ap names ((pointwise_decides bytes_decides a b).0 e)
same_note-sound (index a) (index b) e = ap index ((unsigned_Decides a b).0 e)
same_note-sound (indexes a) (indexes b) e = ap indexes ((bytes_decides a b).0 e)
same_note-sound truly truly e = refl
same_note-sound m n e = cc

same_but_keyword-sound : (u v : OutputUnit) → same_but_keyword u v ≡ true → without_keyword u ≡ without_keyword v
same_but_keyword-sound u v e =
    let i = and_right (beq u.valid v.valid) _ e in
    let j = and_right (pointwise nat_eq u.instance v.instance) _ i in
    let valid = (booleans_Decides u.valid v.valid).0 (and_left (beq u.valid v.valid) _ e) in
    let instance = (bytes_decides u.instance v.instance).0 (and_left (pointwise nat_eq u.instance v.instance) _ i) in
    let absolute = (bytes_decides u.absolute v.absolute).0 (and_left (pointwise nat_eq u.absolute v.absolute) _ j) in
    let note = same_note-sound u.note v.note (and_right (pointwise nat_eq u.absolute v.absolute) _ j) in
    λ k. record { valid = valid k; keyword = []; absolute = absolute k; instance = instance k; note = note k }

same_but_keyword-refl : (u : OutputUnit) → same_but_keyword u u ≡ true
same_but_keyword-refl u =
    rw (
      (booleans_Decides u.valid u.valid).1 refl,
      (bytes_decides u.instance u.instance).1 refl,
      (bytes_decides u.absolute u.absolute).1 refl,
    ) (same_note-refl u.note)

pub same_but_keyword_decides : (u v : OutputUnit)
    → Decides (same_but_keyword u v) (without_keyword u ≡ without_keyword v)
same_but_keyword_decides u v = (
  same_but_keyword-sound u v,
  λ e. let p : same_but_keyword u v
      ≡ same_but_keyword v v = ap (λ w. same_but_keyword w v) e in p ∙ same_but_keyword-refl v,
)

pub same_but_keyword_equiv : IsEquivalence same_but_keyword
same_but_keyword_equiv = record {
  refl = same_but_keyword-refl;
  symm = λ u v. one_answer (same_but_keyword u v) (same_but_keyword v u) (same_but_keyword_decides u v)
      (λ e. sym ((same_but_keyword_decides v u).0 e), λ e. (same_but_keyword_decides v u).1 (sym e));
  congr = λ u v w e.
      let x = (same_but_keyword_decides u v).0 e in
      one_answer (same_but_keyword u w) (same_but_keyword v w) (same_but_keyword_decides u w)
      (λ h. x ∙ (same_but_keyword_decides v w).0 h, λ h. (same_but_keyword_decides v w).1 (sym x ∙ h));
}

-- a tree to name where a list has none
pub some_tree : ResultTree
some_tree =
    record { root = record { valid = true; keyword = []; absolute = []; instance = []; note = silent }; below = empty }
