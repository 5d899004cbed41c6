-- Where a usual reference leads, by what is known of the definitions of its resource.
use Rattle.std.proofs.Common.{◌≡◌, ℕ, List, [], ◌∷◌, ◌++◌, Bool, true, false, ◌&&◌, Option, Some, None}
use Rattle.std.proofs.Common.{Bor, IfSome, cond, codes, flat_map, refl, sym, ap, ◌∙◌, not, arith}
use Rattle.std.specs.Prelude.{◌==◌, ◌/◌, is_none, is_some, length, nat_lt, option_and_then, option_map}
use Rattle.std.specs.Prelude.{slice_get, if◌then◌else◌}
use Rattle.std.specs.List.{after_first, list_all, position_from}
use Rattle.std.proofs.lemmas.Bool.{and_parts}
use Rattle.std.proofs.lemmas.List.{append-nil}
use Rattle.url.specs.Parts.{Parts}
use Rattle.js_doc.specs.Lookup.{member_named}
use Rattle.js_doc.specs.Members.{get}
use Rattle.js_doc.specs.Parts.{member_list, members_of}
use Rattle.percent_encoding.specs.Percent.{percent_decode}
use Rattle.percent_encoding.proofs.PercentLemmas.{percent_decode-nil}
use Rattle.std.specs.Str.{is_utf8}
use Rattle.std.proofs.lemmas.Str.{IsUtf8-from_ascii, is_utf8-from_IsUtf8}
use Rattle.js_doc.specs.Fragment.{fragment_byte}
use Rattle.js_doc.specs.Pointer.{Tokens, escape}
use Rattle.js_doc.specs.PointerReading.{pointer_of}
use Rattle.js_doc.specs.Value.{Value, null, truth, whole, text, list, object, Members, Text, Named, members}
use Rattle.js_doc.proofs.PartLists.{members-member_list}
use Rattle.js_doc.proofs.TokenLookup.{is_text-refl, member_is}
use Rattle.js_upgrade.specs.Apart.{apart, copy_of, if_schema, onward, takes_copies, under_name}
use Rattle.js_upgrade.specs.Apart.{definitions_of}
use Rattle.js_upgrade.specs.Copies.{Copies, copied_at, copied_for_text, copied_for_uri, copied_in, with_copy}
use Rattle.js_upgrade.specs.CopyName.{definitions_name, free_name, is_rooted}
use Rattle.js_upgrade.specs.CopyName.{redirected}
use Rattle.js_upgrade.specs.Dialect.{draft_number}
use Rattle.js_upgrade.specs.Fault.{target_kind}
use Rattle.js_upgrade.specs.Keyword.{applicator_change, assertion_change, core_change}
use Rattle.js_upgrade.specs.Moved.{both, keyword_step, moved_tokens, step, tokens_under}
use Rattle.js_upgrade.specs.Reference.{are_same_tokens, followed, in_resource, moved_in, with_pointer, with_target}
use Rattle.js_upgrade.specs.Resource.{Resource}
use Rattle.js_upgrade.specs.Schema.{change_of, hides, is_mark, members_found}
use Rattle.js_upgrade.specs.Upgrade.{holding_by_change, own_dialect}
use Rattle.js_upgrade.specs.Url.{uri_joined, uri_limit}
use Rattle.js_upgrade.specs.code.First.{has_uri}
use Rattle.js_upgrade.specs.code.Local.{local_fragment, local_uri}
use Rattle.js_upgrade.specs.code.Usual.{IsUsualTarget, is_usual_byte, usual_name, usual_text}
use Rattle.js_upgrade.specs.code.UsualRoot.{holds_members, is_same_dialect, is_usual_root}
use Rattle.js_upgrade.specs.declared.definitions.UsualTarget.{UsualTarget}
use Rattle.js_upgrade.specs.declared.dialect.Dialect.{Dialect}
use Rattle.js_upgrade.specs.declared.dialect.Dialect.TheVariants.{Draft03, Draft04, Draft06}
use Rattle.js_upgrade.specs.declared.dialect.Dialect.TheVariants.{Draft07, Draft2019, Draft2020}
use Rattle.js_upgrade.specs.declared.holding.SchemaHolding.TheVariants.{One, Named as ByName}
use Rattle.js_upgrade.specs.declared.keyword.Change.{Change}
use Rattle.js_upgrade.specs.declared.keyword.Change.TheVariants.{Definitions as Moves, HoldsNamed}
use Rattle.js_upgrade.specs.declared.fault.UpgradeFaultKind.TheVariants.{Unresolved}
use Rattle.js_upgrade.proofs.ByCases.{by_dialect}
use Rattle.js_upgrade.proofs.LocalFragments.{local_copied, local_followed, local_kind}
use Rattle.js_upgrade.proofs.PartsAt.{member_at}
use Rattle.js_upgrade.proofs.UsualReferences.{all_usual, its_text, plain_bytes, usual_fragment, usual_local}
use Rattle.js_upgrade.proofs.UsualReferences.{usual_pointer}
use Rattle.js_upgrade.proofs.UsualReferences.{usual_short, usual_tokens}
use Rattle.js_upgrade.proofs.WithoutCopies.{redirected_none}

-- ---- options

pub some_weaker : {A : Type 0} (P Q : A → Type 0) → ((x : A) → P x → Q x) → (o : Option A) → IfSome o P → IfSome o Q
some_weaker P Q more None has = tt
some_weaker P Q more (Some x) has = more x has

pub some_named : (o : Option (Bor Text)) (found : Option Text) → option_map (λ n. n.now) o ≡ found → is_some o ≡ true
    → (name : Text) × (found ≡ Some name)
some_named None found is some = absurd (cc)
some_named (Some n) found is some = (n.now, sym is)

-- ---- what becomes of the keyword that holds definitions

abbrev definitions_change : Dialect → Change
definitions_change Draft03 = Moves
definitions_change Draft04 = Moves
definitions_change Draft06 = Moves
definitions_change Draft07 = Moves
definitions_change Draft2019 = HoldsNamed
definitions_change Draft2020 = HoldsNamed

either : {A : Type 0} (b : Bool) (a : A) → cond b a a ≡ a
either true a = refl
either false a = refl

change_is : (d : Dialect) (siblings : Named) → change_of d siblings (definitions_name d) ≡ definitions_change d
unfolding core_change applicator_change assertion_change
change_is Draft03 siblings = either (hides Draft03 siblings) Moves
change_is Draft04 siblings = either (hides Draft04 siblings) Moves
change_is Draft06 siblings = either (hides Draft06 siblings) Moves
change_is Draft07 siblings = either (hides Draft07 siblings) Moves
change_is Draft2019 siblings = refl
change_is Draft2020 siblings = refl

-- ---- nothing there is copied

-- a definition is held as a schema
below_definitions : (d : Dialect) (ms : Members) (name : Text) (found : Option Value)
    → member_named name ms ≡ found → apart ByName d (object ms) (name ∷ []) ≡ None
below_definitions d ms name None is =
    ap (option_and_then (λ part. option_and_then (λ h. apart h.holding h.dialect part [])
    (onward (step ByName d (object ms) name part []) part []))) is
below_definitions d ms name (Some v) is =
    ap (option_and_then (λ part. option_and_then (λ h. apart h.holding h.dialect part [])
    (onward (step ByName d (object ms) name part []) part []))) is

-- by what becomes of the keyword
held_by : (d : Dialect) (change : Change) (siblings : Named) (name : Text) (held : Value)
    → change_of d siblings (definitions_name d) ≡ change
    → change ≡ definitions_change d → apart ByName d held (name ∷ []) ≡ None
    → option_and_then (λ h. apart h.holding h.dialect held (name ∷ []))
    (onward (keyword_step d siblings (definitions_name d) held (name ∷ [])) held (name ∷ [])) ≡ None
held_by d change siblings name held is new below =
    ap (λ c. option_and_then (λ h. apart h.holding h.dialect held (name ∷ []))
    (onward (record {
      holding = holding_by_change c;
      dialect = d;
      into = tokens_under siblings (definitions_name d) held (name ∷ []) c;
    }) held (name ∷ []))) (is ∙ new)
    ∙ by_dialect (λ e. option_and_then (λ h. apart h.holding h.dialect held (name ∷ []))
    (onward (record {
      holding = holding_by_change (definitions_change e);
      dialect = d;
      into = tokens_under siblings (definitions_name d) held (name ∷ []) (definitions_change e);
    }) held (name ∷ [])) ≡ None) below below below below below below d

-- the root's keyword holds it
held_in_root : (d : Dialect) (siblings : Members) (name : Text) (ms : Named)
    → own_dialect d (member_list siblings) ≡ d
    → get (definitions_name d) (member_list siblings) ≡ Some (object (members ms))
    → apart One d (object siblings) (usual_tokens d name) ≡ None
held_in_root d siblings name ms own there =
    ap (λ o. option_and_then (λ part. option_and_then (λ h. apart h.holding h.dialect part (name ∷ []))
    (onward (keyword_step (own_dialect d (member_list siblings)) (member_list siblings) (definitions_name d) part
    (name ∷ [])) part (name ∷ []))) o) (member_at (definitions_name d) siblings ∙ there)
    ∙ ap (λ e. option_and_then (λ h. apart h.holding h.dialect (object (members ms)) (name ∷ []))
    (onward (keyword_step e (member_list siblings) (definitions_name d) (object (members ms)) (name ∷ []))
    (object (members ms)) (name ∷ []))) own
    ∙ held_by d (change_of d (member_list siblings) (definitions_name d)) (member_list siblings) name
    (object (members ms)) refl (change_is d (member_list siblings))
    (below_definitions d (members ms) name (member_named name (members ms)) refl)

none_copied : (d : Dialect) (root : Value) (tokens : Tokens) → apart One d root tokens ≡ None
    → copy_of d root tokens ≡ None
none_copied d root tokens none =
    ap (λ o. cond (takes_copies d root)
    (option_and_then (λ v. option_map (under_name v) (free_name (definitions_of d root) tokens))
    (option_and_then if_schema o)) None) none
    ∙ either (takes_copies d root) None

root_copied : (d : Dialect) (root : Value) (name : Text) (ms : Named) → own_dialect d (members_of root) ≡ d
    → get (definitions_name d) (members_of root) ≡ Some (object (members ms))
    → copy_of d root (usual_tokens d name) ≡ None
root_copied d (object siblings) name ms own there =
    none_copied d (object siblings) (usual_tokens d name) (held_in_root d siblings name ms own there)
root_copied d null name ms own there = refl
root_copied d (truth b) name ms own there = refl
root_copied d (whole z) name ms own there = refl
root_copied d (text t) name ms own there = refl
root_copied d (list vs) name ms own there = refl

-- ---- the root of a resource

pub same_dialect : (d e : Dialect) → (draft_number d == draft_number e) ≡ true → d ≡ e
same_dialect Draft03 Draft03 is = refl
same_dialect Draft04 Draft04 is = refl
same_dialect Draft06 Draft06 is = refl
same_dialect Draft07 Draft07 is = refl
same_dialect Draft2019 Draft2019 is = refl
same_dialect Draft2020 Draft2020 is = refl
same_dialect _ _ is = absurd (cc)

defined_by : (v : Option Value) → holds_members v ≡ true → v ≡ Some (object (members (members_found v)))
defined_by None is = absurd (cc)
defined_by (Some null) is = absurd (cc)
defined_by (Some (truth b)) is = absurd (cc)
defined_by (Some (whole z)) is = absurd (cc)
defined_by (Some (text t)) is = absurd (cc)
defined_by (Some (list vs)) is = absurd (cc)
defined_by (Some (object ms)) is = ap (λ m. Some (object m)) (sym (members-member_list ms))

module _ (r : Resource) (usual : is_usual_root r.dialect r.root ≡ true) where
  usual_parts : (is_same_dialect (own_dialect r.dialect (members_of r.root)) r.dialect ≡ true)
      × (holds_members (get (definitions_name r.dialect) (members_of r.root)) ≡ true)
  usual_parts =
      and_parts (is_same_dialect (own_dialect r.dialect (members_of r.root)) r.dialect)
      (holds_members (get (definitions_name r.dialect) (members_of r.root))) usual

  pub its_dialect : own_dialect r.dialect (members_of r.root) ≡ r.dialect
  its_dialect = same_dialect (own_dialect r.dialect (members_of r.root)) r.dialect usual_parts.0

  pub its_definitions : get (definitions_name r.dialect) (members_of r.root)
      ≡ Some (object (members (definitions_of r.dialect r.root)))
  its_definitions = defined_by (get (definitions_name r.dialect) (members_of r.root)) usual_parts.1

  -- nothing in it is copied
  resource_copied : (name : Text) → copy_of r.dialect r.root (usual_tokens r.dialect name) ≡ None
  resource_copied name =
      root_copied r.dialect r.root name (definitions_of r.dialect r.root) its_dialect its_definitions

-- a usual reference needs no copy
module _ (roots : List Resource) (r : Resource) (usual : is_usual_root r.dialect r.root ≡ true) (name : Text) where
  at_number : (n : ℕ) (copies : Copies) → slice_get roots n ≡ Some r
      → copied_in n (usual_tokens r.dialect name) copies (slice_get roots n) ≡ copies
  at_number n copies is =
      ap (copied_in n (usual_tokens r.dialect name) copies) is
      ∙ ap (λ c. with_copy (n / 2) c copies) (resource_copied r usual name)

  by_number : (number : Option ℕ) (copies : Copies) → option_and_then (slice_get roots) number ≡ Some r
      → copied_at roots (Some (usual_tokens r.dialect name)) number copies ≡ copies
  by_number None copies is = refl
  by_number (Some n) copies is = at_number n copies is

  pub usual_copied : (base : Parts) (t : Text) (number : Option ℕ)
      → number ≡ position_from (has_uri (local_uri base)) 0 roots
      → option_and_then (slice_get roots) number ≡ Some r → usual_name r.dialect t ≡ Some name
      → (copies : Copies) → copied_for_text roots base t copies ≡ copies
  usual_copied base t number named there is copies =
      ap (λ c. cond (is_rooted (after_first is_mark t)) c copies)
      (sym (local_copied roots base t (usual_fragment r.dialect name) (Some (usual_tokens r.dialect name)) number
      copies (sym (usual_local r.dialect t name is)) (usual_pointer r.dialect t name is) named)
      ∙ by_number number copies there)
      ∙ either (is_rooted (after_first is_mark t)) copies

-- ---- where it goes

-- the definition stands under `$defs`
below_moved : (d : Dialect) (name : Text) (ms : Named) (v : Option Value) → get name ms ≡ v → is_some v ≡ true
    → moved_tokens ByName d (object (members ms)) (name ∷ []) ≡ Some (name ∷ [])
below_moved d name ms None is there = absurd (cc)
below_moved d name ms (Some v) is there =
    ap (λ o. option_and_then (λ part. both (step ByName d (object (members ms)) name part []).into
    (moved_tokens (step ByName d (object (members ms)) name part []).holding
    (step ByName d (object (members ms)) name part []).dialect part [])) o)
    (member_is name ms ∙ is)

abbrev pub defs_tokens : Text → Tokens
defs_tokens name = codes "$defs" ∷ name ∷ []

moved_by : (d : Dialect) (siblings : Named) (held : Value) (name : Text)
    → moved_tokens ByName d held (name ∷ []) ≡ Some (name ∷ [])
    → both (tokens_under siblings (definitions_name d) held (name ∷ []) (change_of d siblings (definitions_name d)))
    (moved_tokens (holding_by_change (change_of d siblings (definitions_name d))) d held (name ∷ []))
    ≡ Some (defs_tokens name)
moved_by d siblings held name below =
    ap (λ c. both (tokens_under siblings (definitions_name d) held (name ∷ []) c)
    (moved_tokens (holding_by_change c) d held (name ∷ []))) (change_is d siblings)
    ∙ by_dialect (λ e. both (tokens_under siblings (definitions_name e) held (name ∷ []) (definitions_change e))
    (moved_tokens (holding_by_change (definitions_change e)) d held (name ∷ [])) ≡ Some (defs_tokens name)) there there
    there there there there d
  where
    there : both (Some (codes "$defs" ∷ [])) (moved_tokens ByName d held (name ∷ [])) ≡ Some (defs_tokens name)
    there = ap (both (Some (codes "$defs" ∷ []))) below

pub moved_from : (d : Dialect) (root : Value) (name : Text) (ms : Named) → own_dialect d (members_of root) ≡ d
    → get (definitions_name d) (members_of root) ≡ Some (object (members ms)) → is_some (get name ms) ≡ true
    → moved_tokens One d root (usual_tokens d name) ≡ Some (defs_tokens name)
moved_from d (object siblings) name ms own there has =
    ap (λ o. option_and_then (λ part. both (step One d (object siblings) (definitions_name d) part (name ∷ [])).into
    (moved_tokens (step One d (object siblings) (definitions_name d) part (name ∷ [])).holding
    (step One d (object siblings) (definitions_name d) part (name ∷ [])).dialect part (name ∷ []))) o)
    (member_at (definitions_name d) siblings ∙ there)
    ∙ ap (λ e. let s = keyword_step e (member_list siblings) (definitions_name d) (object (members ms)) (name ∷ []) in
    both s.into (moved_tokens s.holding s.dialect (object (members ms)) (name ∷ []))) own
    ∙ moved_by d (member_list siblings) (object (members ms)) name (below_moved d name ms (get name ms) refl has)
moved_from d null name ms own there has = absurd (cc)
moved_from d (truth b) name ms own there has = absurd (cc)
moved_from d (whole z) name ms own there has = absurd (cc)
moved_from d (text t) name ms own there has = absurd (cc)
moved_from d (list vs) name ms own there has = absurd (cc)

-- ---- its text

same_twice : (x y : Text) → are_same_tokens (x ∷ y ∷ []) (x ∷ y ∷ []) ≡ true
same_twice x y =
    ap (λ b. b && are_same_tokens (y ∷ []) (y ∷ [])) (is_text-refl x) ∙ ap (λ b. b && true) (is_text-refl y)

stays_by : (t name : Text) (same : Bool) → are_same_tokens (defs_tokens name) (defs_tokens name) ≡ same
    → same ≡ true → with_target t (defs_tokens name) (Some (defs_tokens name)) ≡ t
stays_by t name true is known = ap (λ b. cond b t (with_pointer t (defs_tokens name))) is
stays_by t name false is known = absurd (cc)

written : (name : Text) → list_all is_usual_byte name ≡ true
    → flat_map fragment_byte (escape name ++ []) ≡ name
written name plain = ap (flat_map fragment_byte) (append-nil (escape name)) ∙ all_usual name plain

text_by : (d : Dialect) (name t : Text) → t ≡ 35 ∷ usual_fragment d name → list_all is_usual_byte name ≡ true
    → with_target t (usual_tokens d name) (Some (defs_tokens name)) ≡ usual_text d t name
text_by Draft03 name t is plain =
    ap (λ u. with_pointer u (defs_tokens name)) is ∙ ap (λ n. codes "#/$defs/" ++ n) (written name plain)
text_by Draft04 name t is plain =
    ap (λ u. with_pointer u (defs_tokens name)) is ∙ ap (λ n. codes "#/$defs/" ++ n) (written name plain)
text_by Draft06 name t is plain =
    ap (λ u. with_pointer u (defs_tokens name)) is ∙ ap (λ n. codes "#/$defs/" ++ n) (written name plain)
text_by Draft07 name t is plain =
    ap (λ u. with_pointer u (defs_tokens name)) is ∙ ap (λ n. codes "#/$defs/" ++ n) (written name plain)
text_by Draft2019 name t is plain =
    stays_by t name (are_same_tokens (defs_tokens name) (defs_tokens name)) refl (same_twice (codes "$defs") name)
text_by Draft2020 name t is plain =
    stays_by t name (are_same_tokens (defs_tokens name) (defs_tokens name)) refl (same_twice (codes "$defs") name)

-- ---- all of it

module _ (r : Resource) (t : Text) (target : UsualTarget) (known : IsUsualTarget r t target) where
  abbrev tokens : Tokens
  tokens = usual_tokens r.dialect target.name.now

  moved_here : moved_in r tokens ≡ Some (defs_tokens target.name.now)
  moved_here =
      ap (λ c. moved_tokens One r.dialect r.root (redirected r.dialect c tokens)) known.1
      ∙ ap (moved_tokens One r.dialect r.root) (redirected_none r.dialect tokens)
      ∙ moved_from r.dialect r.root target.name.now (definitions_of r.dialect r.root) (its_dialect r known.0)
      (its_definitions r known.0) known.3

  text_here : in_resource t (usual_fragment r.dialect target.name.now) (Some tokens) (Some r)
      ≡ usual_text target.dialect t target.name.now
  text_here =
      ap (with_target t tokens) moved_here
      ∙ text_by r.dialect target.name.now t (its_text r.dialect t target.name.now known.2)
      (plain_bytes r.dialect t target.name.now known.2)
      ∙ ap (λ b. usual_text b t target.name.now) (sym known.4)

  pub target_short : nat_lt uri_limit (length t) ≡ false
  target_short = usual_short r.dialect t target.name.now known.2

  module _ (all : List Resource) (base : Parts) (number : Option ℕ)
      (named : number ≡ position_from (has_uri (local_uri base)) 0 all)
      (there : Some r ≡ option_and_then (slice_get all) number) where
    pub usual_followed : followed all t (uri_joined base t) ≡ usual_text target.dialect t target.name.now
    usual_followed =
        sym (local_followed all base t (usual_fragment r.dialect target.name.now) (Some tokens) (Some r)
        (sym (usual_local r.dialect t target.name.now known.2))
        (usual_pointer r.dialect t target.name.now known.2) number there named)
        ∙ text_here

    pub usual_leads : target_kind all (uri_joined base t) ≡ None
    usual_leads =
        sym (local_kind all base t (usual_fragment r.dialect target.name.now) (Some tokens) (Some r)
        (sym (usual_local r.dialect t target.name.now known.2))
        (usual_pointer r.dialect t target.name.now known.2) number there named)
        ∙ ap (λ o. if is_none o then Some Unresolved else None) moved_here

-- ---- `#`

nothing_local : (t : Text) → t ≡ codes "#" → Some [] ≡ local_fragment t
nothing_local t is = sym (ap local_fragment is)

nothing_utf8 : is_utf8 [] ≡ true
nothing_utf8 = is_utf8-from_IsUtf8 [] (IsUtf8-from_ascii [] (λ i. omega arith))

nothing_pointer : (Some []) ≡ (if is_utf8 (percent_decode []) then pointer_of (percent_decode []) else None)
nothing_pointer =
    sym (ap (λ f. if is_utf8 f then pointer_of f else None) percent_decode-nil
    ∙ ap (λ b. cond b (pointer_of []) None) nothing_utf8)

pub not_so : (b : Bool) → not b ≡ true → b ≡ false
not_so true is = absurd (cc)
not_so false is = refl

-- it leads to the root, which stays where it is
pub root_leads : (t : Text) (r : Resource) (all : List Resource) (base : Parts) (number : Option ℕ) → t ≡ codes "#"
    → r.copies ≡ [] → number ≡ position_from (has_uri (local_uri base)) 0 all
    → Some r ≡ option_and_then (slice_get all) number → target_kind all (uri_joined base t) ≡ None
root_leads t r all base number is none named there =
    sym (local_kind all base t [] (Some []) (Some r) (nothing_local t is) nothing_pointer number there named)
    ∙ ap (λ o. if is_none o then Some Unresolved else None)
    (ap (λ c. moved_tokens One r.dialect r.root (redirected r.dialect c [])) none
    ∙ ap (moved_tokens One r.dialect r.root) (redirected_none r.dialect []))

-- it is no pointer below a root
pub root_copied_nowhere : (t : Text) → t ≡ codes "#" → (roots : List Resource) (base : Parts) (copies : Copies)
    → copied_for_text roots base t copies ≡ copies
root_copied_nowhere t is roots base copies =
    ap (λ u. cond (is_rooted (after_first is_mark u)) (copied_for_uri roots (uri_joined base u) copies) copies) is
