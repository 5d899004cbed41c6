-- What is clear, from what it holds.
use Rattle.std.proofs.Common.{◌≡◌, ℕ, ◌+◌, ◌<◌, List, [], ◌∷◌, ◌++◌, Bool, true, false, not, ◌&&◌, Option, Some, None}
use Rattle.std.proofs.Common.{cond, codes, drop, get_or, length, map, refl, sym, ap, ◌∙◌, subst}
use Rattle.std.specs.Prelude.{decimal, is_none, option_and_then, option_map, unwrap_or}
use Rattle.std.proofs.lemmas.List.{drop_more}
use Rattle.url.specs.Parts.{Parts}
use Rattle.js_doc.specs.Members.{get}
use Rattle.js_doc.specs.Seen.{value_of, pair_of}
use Rattle.js_doc.specs.Value.{Value, null, truth, whole, text, list, object, Text, Named, items, members}
use Rattle.js_doc.specs.declared.doc.Doc.{Doc}
use Rattle.js_doc.proofs.PartLists.{member_list-members}
use Rattle.js_upgrade.specs.Copies.{Copies, all_copied, copied_for, items_copied, members_copied}
use Rattle.js_upgrade.specs.Dialect.{first_of}
use Rattle.js_upgrade.specs.Fault.{FaultKind, anchor_kind, at_keyword, contains_kind, deeper, dialect_kind}
use Rattle.js_upgrade.specs.Fault.{fault_in, identifier_kind, item_fault, recursive_kind, unevaluated_kind}
use Rattle.js_upgrade.specs.Fault.{member_fault, name_fault, other_fault, reference_fault, reference_kind, schema_fault}
use Rattle.js_upgrade.specs.Fault.{unevaluated_fault}
use Rattle.js_upgrade.specs.Resource.{Resource, begun, identity, item_resources, joined_text, member_resources}
use Rattle.js_upgrade.specs.Resource.{resources}
use Rattle.js_upgrade.specs.Schema.{hides, is_identifier}
use Rattle.js_upgrade.specs.Upgrade.{dialect_in, dialect_or, holding_in, identifier, own_dialect}
use Rattle.js_upgrade.specs.code.Clear.{AreClearItems, AreClearMembers, CopiesNothing, IsAnonymous, IsBare}
use Rattle.js_upgrade.specs.code.ReferenceFree.{IsFree}
use Rattle.js_upgrade.specs.code.Clear.{IsClearSchema, IsClearValue, IsFaultlessElse, is_some_text}
use Rattle.js_upgrade.specs.declared.dialect.Dialect.{Dialect}
use Rattle.js_upgrade.specs.declared.fault.Pass.TheVariants.{AnyOfThese}
use Rattle.js_upgrade.specs.declared.holding.SchemaHolding.{SchemaHolding}
use Rattle.js_upgrade.specs.declared.holding.SchemaHolding.TheVariants.{One, Named as ByName}
use Rattle.js_upgrade.proofs.Loops.{Pairs}

-- ---- a schema by itself

either : {A : Type 0} (b : Bool) (a : A) → cond b a a ≡ a
either true a = refl
either false a = refl

no_kind : (o : Option FaultKind) → is_none o ≡ true → o ≡ None
no_kind None none = refl
no_kind (Some kind) none = absurd (cc)

undeclared_by : (d : Dialect) (siblings : Named) (found : Option Value) → is_some_text found ≡ false
    → dialect_or d siblings (option_and_then dialect_in found) ≡ d
undeclared_by d siblings None none = refl
undeclared_by d siblings (Some null) none = refl
undeclared_by d siblings (Some (truth b)) none = refl
undeclared_by d siblings (Some (whole z)) none = refl
undeclared_by d siblings (Some (text t)) none = absurd (cc)
undeclared_by d siblings (Some (list vs)) none = refl
undeclared_by d siblings (Some (object ms)) none = refl

unnamed_by : (base : Parts) (shown : Bool) (found : Option Value) → is_some_text found ≡ false
    → cond (is_identifier found && shown) (joined_text base found) None ≡ None
unnamed_by base shown None none = refl
unnamed_by base shown (Some null) none = refl
unnamed_by base shown (Some (truth b)) none = refl
unnamed_by base shown (Some (whole z)) none = refl
unnamed_by base shown (Some (text t)) none = absurd (cc)
unnamed_by base shown (Some (list vs)) none = refl
unnamed_by base shown (Some (object ms)) none = refl

module _ (roots : List Resource) where
  pub no_text_copies : (base : Parts) (found : Option Value) → is_some_text found ≡ false
      → CopiesNothing roots base found
  no_text_copies base None none copies = refl
  no_text_copies base (Some null) none copies = refl
  no_text_copies base (Some (truth b)) none copies = refl
  no_text_copies base (Some (whole z)) none copies = refl
  no_text_copies base (Some (text t)) none copies = absurd (cc)
  no_text_copies base (Some (list vs)) none copies = refl
  no_text_copies base (Some (object ms)) none copies = refl

  pub bare : (d : Dialect) (base : Parts) (siblings : Named) → is_some_text (get (codes "$schema") siblings) ≡ false
      → is_some_text (get (identifier d) siblings) ≡ false → is_some_text (get (codes "$ref") siblings) ≡ false
      → IsBare roots d base siblings
  bare d base siblings undeclared unnamed nowhere = (
    undeclared_by d siblings (get (codes "$schema") siblings) undeclared,
    unnamed_by base (not (hides d siblings)) (get (identifier d) siblings) unnamed,
    no_text_copies base (get (codes "$ref") siblings) nowhere,
  )

  -- an object that is taken for no schema with an identifier, and whose members lead to nothing that is copied
  object_kept : (d : Dialect) (base : Parts) (siblings : Named) → own_dialect d siblings ≡ d
      → identity d base siblings ≡ None → CopiesNothing roots base (get (codes "$ref") siblings)
      → ((copies : Copies) → members_copied roots d base (members siblings) copies ≡ copies)
      → (copies : Copies) → all_copied roots d base (object (members siblings)) copies ≡ copies
  object_kept d base siblings own unnamed here below copies =
      let ms = members siblings in
      let made = λ (ns : Named) (e : Dialect) (i : Option Parts).
      members_copied roots e (unwrap_or i base) ms
      (copied_for roots (unwrap_or i base) (get (codes "$ref") ns) copies) in
      ap (λ ns. made ns (own_dialect d ns) (identity (own_dialect d ns) base ns)) (member_list-members siblings)
      ∙ ap (λ e. made siblings e (identity e base siblings)) own ∙ ap (made siblings d) unnamed
      ∙ ap (members_copied roots d base ms) (here copies) ∙ below copies

module _ (all : List Resource) where
  pub faultless_else : (d : Dialect) (siblings : Named) (r c a u : Option FaultKind) → r ≡ recursive_kind d siblings
      → c ≡ contains_kind d siblings → a ≡ anchor_kind all d siblings → u ≡ unevaluated_kind d siblings
      → is_none r ≡ true → is_none c ≡ true → is_none a ≡ true → is_none u ≡ true → IsFaultlessElse all d siblings
  faultless_else d siblings r c a u by_r by_c by_a by_u no_r no_c no_a no_u = (
    ap (λ k. first_of (at_keyword (codes "$recursiveRef") k)
        (first_of (at_keyword (codes "contains") (contains_kind d siblings))
        (at_keyword (codes "$dynamicAnchor") (anchor_kind all d siblings)))) (sym by_r ∙ no_kind r no_r)
        ∙ ap (λ k. first_of (at_keyword (codes "contains") k)
        (at_keyword (codes "$dynamicAnchor") (anchor_kind all d siblings))) (sym by_c ∙ no_kind c no_c)
        ∙ ap (at_keyword (codes "$dynamicAnchor")) (sym by_a ∙ no_kind a no_a),
    ap (at_keyword (codes "unevaluatedItems")) (sym by_u ∙ no_kind u no_u),
  )

  name_clear : (d : Dialect) (base : Parts) (siblings : Named) → get (identifier d) siblings ≡ None
      → name_fault d d base siblings ≡ None
  name_clear d base siblings none =
      ap (λ o. first_of (at_keyword (codes "$schema") (cond (is_identifier o && not (hides d siblings))
      (dialect_kind (get (codes "$schema") siblings)) None))
      (at_keyword (identifier d) (cond (hides d siblings) None (identifier_kind base o)))) none
      ∙ ap (at_keyword (identifier d)) (either (hides d siblings) None)

module _ (roots all : List Resource) where
  pub alone : (d : Dialect) (base : Parts) (siblings : Named) → IsAnonymous d siblings → IsFaultlessElse all d siblings
      → reference_kind all base (get (codes "$ref") siblings) ≡ None
      → CopiesNothing roots base (get (codes "$ref") siblings) → IsClearSchema roots all d base siblings
  alone d base siblings (undeclared, unnamed) (other, unevaluated) leads here = (
    ap (λ o. dialect_or d siblings (option_and_then dialect_in o)) undeclared,
    ap (λ o. cond (is_identifier o && not (hides d siblings)) (joined_text base o) None) unnamed,
    ap (λ f. first_of f (first_of (reference_fault all d base siblings) (unevaluated_fault d siblings)))
        (name_clear all d base siblings unnamed)
        ∙ ap (λ k. first_of (first_of (at_keyword (codes "$ref") k) (other_fault all d siblings))
        (unevaluated_fault d siblings)) leads
        ∙ ap (λ f. first_of f (unevaluated_fault d siblings)) other
        ∙ unevaluated,
    here,
  )

  -- ---- with those that it holds

  pub whole_schema : (d : Dialect) (base : Parts) (siblings : Named) → IsClearSchema roots all d base siblings
      → AreClearMembers roots all (holding_in d siblings) d base (members siblings)
      → IsClearValue roots all One d base (object (members siblings))
  whole_schema d base siblings (own, unnamed, faultless, here) (nothing, below, kept) =
      let ms = members siblings in
      let found = λ (ns : Named) (e : Dialect) (i : Option Parts).
      begun d (object ms) i ++ member_resources (holding_in e ns) e (unwrap_or i base) ms in
      let fault = λ (ns : Named) (e : Dialect) (i : Option Parts).
      first_of (schema_fault AnyOfThese all d e base (unwrap_or i base) ns)
      (member_fault AnyOfThese all (holding_in e ns) e (unwrap_or i base) ms) in (
        ap (λ ns. found ns (own_dialect d ns) (identity (own_dialect d ns) base ns)) (member_list-members siblings)
            ∙ ap (λ e. found siblings e (identity e base siblings)) own ∙ ap (found siblings d) unnamed ∙ nothing,
        ap (λ ns. fault ns (own_dialect d ns) (identity (own_dialect d ns) base ns)) (member_list-members siblings)
            ∙ ap (λ e. fault siblings e (identity e base siblings)) own ∙ ap (fault siblings d) unnamed
            ∙ ap (λ f. first_of f (member_fault AnyOfThese all (holding_in d siblings) d base ms)) faultless ∙ below,
        object_kept roots d base siblings own unnamed here kept,
      )

  pub whole_object : (d : Dialect) (base : Parts) (schemas : Named) → IsBare roots d base schemas
      → AreClearMembers roots all (λ name. One) d base (members schemas)
      → IsClearValue roots all ByName d base (object (members schemas))
  whole_object d base schemas (own, unnamed, here) (nothing, below, kept) =
      (nothing, below, object_kept roots d base schemas own unnamed here kept)

  pub held_so : (d : Dialect) (base : Parts) (h k : SchemaHolding) (v w : Value) → h ≡ k → v ≡ w
      → IsClearValue roots all k d base w → IsClearValue roots all h d base v
  held_so d base h k v w held seen clear =
      subst (λ g. IsClearValue roots all g d base v) (sym held)
      (subst (IsClearValue roots all k d base) (sym seen) clear)

  -- a value that is held as no schema
  pub unheld : (d : Dialect) (base : Parts) (h k : SchemaHolding) (v w : Value) → h ≡ k → v ≡ w → IsFree v
      → resources k d base w ≡ [] → fault_in AnyOfThese all k d base w ≡ None → IsClearValue roots all h d base v
  unheld d base h k v w held seen free nothing faultless = (
    ap (λ g. resources g d base v) held ∙ ap (resources k d base) seen ∙ nothing,
    ap (λ g. fault_in AnyOfThese all g d base v) held ∙ ap (fault_in AnyOfThese all k d base) seen ∙ faultless,
    free roots d base,
  )

  -- ---- one after the other

  pub next_member : (held : Text → SchemaHolding) (d : Dialect) (base : Parts) (old left : Pairs)
      (m : List ℕ × Doc) → old ≡ m ∷ left → IsClearValue roots all (held m.0) d base (value_of m.1)
      → AreClearMembers roots all held d base (members (map pair_of left))
      → AreClearMembers roots all held d base (members (map pair_of old))
  next_member held d base old left m step (nothing, faultless, here) (rest, below, kept) = (
    ap (λ es. member_resources held d base (members (map pair_of es))) step
        ∙ ap (λ rs. rs ++ member_resources held d base (members (map pair_of left))) nothing ∙ rest,
    ap (λ es. member_fault AnyOfThese all held d base (members (map pair_of es))) step
        ∙ ap (λ f. first_of (option_map (deeper m.0) f)
        (member_fault AnyOfThese all held d base (members (map pair_of left)))) faultless ∙ below,
    λ copies. ap (λ es. members_copied roots d base (members (map pair_of es)) copies) step
        ∙ ap (members_copied roots d base (members (map pair_of left))) (here copies) ∙ kept copies,
  )

  pub next_item : (d : Dialect) (base : Parts) (ds : List Doc) (i : ℕ) (x : Doc) → i < length ds → x ≡ get_or ds i x
      → IsClearValue roots all One d base (value_of x)
      → AreClearItems roots all d base (i + 1) (items (map value_of (drop (i + 1) ds)))
      → AreClearItems roots all d base i (items (map value_of (drop i ds)))
  next_item d base ds i x low is (nothing, faultless, here) (rest, below, kept) =
      let left = map value_of (drop (i + 1) ds) in
      let all_left : map value_of (drop i ds) ≡ value_of x ∷ left = ap (map value_of) (drop_more ds i x low)
      ∙ ap (λ y. value_of y ∷ left) (sym is) in (
        ap (λ vs. item_resources d base (items vs)) all_left
            ∙ ap (λ rs. rs ++ item_resources d base (items left)) nothing ∙ rest,
        ap (λ vs. item_fault AnyOfThese all d base i (items vs)) all_left
            ∙ ap (λ f. first_of (option_map (deeper (decimal i)) f)
            (item_fault AnyOfThese all d base (i + 1) (items left))) faultless ∙ below,
        λ copies. ap (λ vs. items_copied roots d base (items vs) copies) all_left
            ∙ ap (items_copied roots d base (items left)) (here copies) ∙ kept copies,
      )
