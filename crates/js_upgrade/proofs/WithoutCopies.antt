-- What holds of the copies at the start, and goes on to hold with each copy more, holds of all of them. Documents of
-- 2020-12 have none.
use Rattle.std.proofs.Common.{◌≡◌, ℕ, ◌/◌, List, [], ◌∷◌, ◌++◌, Bool, true, false, Option, Some, None, cond, map}
use Rattle.std.proofs.Common.{zero, suc, option_and_then, option_map, slice_get, unwrap_or, refl, ap, ap₂, ◌∙◌}
use Rattle.std.proofs.Common.{subst, codes}
use Rattle.std.specs.List.{AllByRecursion, after_first, list_all}
use Rattle.url.specs.Parts.{Parts}
use Rattle.js_doc.specs.Members.{get}
use Rattle.js_doc.specs.Parts.{member_list}
use Rattle.js_doc.specs.Pointer.{Tokens, pointer_text}
use Rattle.js_doc.specs.Value.{Value, null, truth, whole, text, list, object, Items, no_items, item, Members}
use Rattle.js_doc.specs.Value.{no_members, member, Text}
use Rattle.js_upgrade.specs.Apart.{apart, copy_of, definitions_of, if_schema, under_name, takes_copies}
use Rattle.js_upgrade.specs.Copies.{Copies, all_copied, copied_at, copied_by, copied_for}
use Rattle.js_upgrade.specs.Copies.{copied_for_uri, copied_in, copies_of, document_roots, items_copied, members_copied}
use Rattle.js_upgrade.specs.Copies.{no_copies, root_numbered, sources_copied}
use Rattle.js_upgrade.specs.Copies.{sources_with, with_copy}
use Rattle.js_upgrade.specs.CopyName.{at_copy, free_name, if_there, is_rooted, kept_name, redirected}
use Rattle.js_upgrade.specs.Dialect.{first_of}
use Rattle.js_upgrade.specs.Documents.{all_resources, all_upgraded, are_known, each_upgraded, source_resources}
use Rattle.js_upgrade.specs.Documents.{upgraded_among, upgraded_with}
use Rattle.js_upgrade.specs.Laws.{IsCurrentSource}
use Rattle.js_upgrade.specs.Resource.{Resource, own_base}
use Rattle.js_upgrade.specs.Schema.{is_mark}
use Rattle.js_upgrade.specs.Source.{SourceDocument, Sources, is_known, source_dialect}
use Rattle.js_upgrade.specs.Upgrade.{own_dialect}
use Rattle.js_upgrade.specs.Url.{fragment_pointer, uri_joined, uri_printed, uri_without_fragment}
use Rattle.js_upgrade.specs.declared.dialect.Dialect.{Dialect}
use Rattle.js_upgrade.specs.declared.dialect.Dialect.TheVariants.{Draft2020}
use Rattle.js_upgrade.specs.declared.holding.SchemaHolding.TheVariants.{One}
use Rattle.js_upgrade.proofs.CopyLoops.{source_alone}

-- ---- one copy more

found_at : {A : Type 0} (Holds : A → Type 0) (xs : List A) (n : ℕ) (x : A) → AllByRecursion Holds xs
    → slice_get xs n ≡ Some x → Holds x
found_at Holds [] n x all is = absurd (cc)
found_at Holds (y ∷ xs) zero x all is = subst Holds (ap (λ o. unwrap_or o y) is) all.0
found_at Holds (y ∷ xs) (suc n) x all is = found_at Holds xs n x all.1 is

module _ (Holds : Resource → Type 0) (P : Copies → Type 0)
    (kept : (n : ℕ) (tokens : Tokens) (r : Resource) (copies : Copies) → Holds r → P copies
    → P (with_copy n (copy_of r.dialect r.root tokens) copies)) (roots : List Resource)
    (holds : AllByRecursion Holds roots) where
  in_kept : (n : ℕ) (tokens : Tokens) (copies : Copies) (found : Option Resource)
      → ((r : Resource) → found ≡ Some r → Holds r) → P copies → P (copied_in n tokens copies found)
  in_kept n tokens copies None h p = p
  in_kept n tokens copies (Some r) h p = kept (n / 2) tokens r copies (h r refl) p

  at_kept : (pointer : Option Tokens) (number : Option ℕ) (copies : Copies) → P copies
      → P (copied_at roots pointer number copies)
  at_kept None number copies p = p
  at_kept (Some tokens) None copies p = p
  at_kept (Some tokens) (Some n) copies p =
      in_kept n tokens copies (slice_get roots n) (λ r is. found_at Holds roots n r holds is) p

  uri_kept : (uri : Option Parts) (copies : Copies) → P copies → P (copied_for_uri roots uri copies)
  uri_kept None copies p = p
  uri_kept (Some uri) copies p =
      at_kept (fragment_pointer uri) (root_numbered roots (uri_printed (uri_without_fragment uri))) copies p

  either_kept : (b : Bool) (x y : Copies) → P x → P y → P (cond b x y)
  either_kept true x y p q = p
  either_kept false x y p q = q

  for_kept : (base : Parts) (found : Option Value) (copies : Copies) → P copies → P (copied_for roots base found copies)
  for_kept base (Some (text t)) copies p =
      either_kept (is_rooted (after_first is_mark t)) (copied_for_uri roots (uri_joined base t) copies) copies
      (uri_kept (uri_joined base t) copies p) p
  for_kept base None copies p = p
  for_kept base (Some null) copies p = p
  for_kept base (Some (truth b)) copies p = p
  for_kept base (Some (whole z)) copies p = p
  for_kept base (Some (list vs)) copies p = p
  for_kept base (Some (object ms)) copies p = p

  mutual
    value_kept : (d : Dialect) (base : Parts) (v : Value) (copies : Copies) → P copies
        → P (all_copied roots d base v copies)
    value_kept d base (object ms) copies p =
        let own = own_dialect d (member_list ms) in
        let below = own_base own base (member_list ms) in
        members_kept own below ms (copied_for roots below (get (codes "$ref") (member_list ms)) copies)
        (for_kept below (get (codes "$ref") (member_list ms)) copies p)
    value_kept d base (list vs) copies p = items_kept d base vs copies p
    value_kept d base null copies p = p
    value_kept d base (truth b) copies p = p
    value_kept d base (whole z) copies p = p
    value_kept d base (text t) copies p = p

    items_kept : (d : Dialect) (base : Parts) (vs : Items) (copies : Copies) → P copies
        → P (items_copied roots d base vs copies)
    items_kept d base no_items copies p = p
    items_kept d base (item v vs) copies p =
        items_kept d base vs (all_copied roots d base v copies) (value_kept d base v copies p)

    members_kept : (d : Dialect) (base : Parts) (ms : Members) (copies : Copies) → P copies
        → P (members_copied roots d base ms copies)
    members_kept d base no_members copies p = p
    members_kept d base (member name v ms) copies p =
        members_kept d base ms (all_copied roots d base v copies) (value_kept d base v copies p)

  by_kept : (s : SourceDocument) (d : Option Dialect) (copies : Copies) → P copies → P (copied_by roots s d copies)
  by_kept s None copies p = p
  by_kept s (Some d) copies p = value_kept d s.uri s.root copies p

  pub sources_kept : (sources : Sources) (copies : Copies) → P copies → P (sources_copied roots sources copies)
  sources_kept [] copies p = p
  sources_kept (s ∷ ss) copies p =
      sources_kept ss (copied_by roots s (source_dialect s) copies) (by_kept s (source_dialect s) copies p)

-- what holds of each document's root holds of the roots of all
pub all_roots : (Holds : Dialect → Value → Type 0) (sources : Sources)
    → AllByRecursion (λ s. Holds (unwrap_or (source_dialect s) s.assumed) s.root) sources
    → AllByRecursion (λ r. Holds r.dialect r.root) (document_roots sources)
all_roots Holds [] all = tt
all_roots Holds (s ∷ ss) all = (all.0, (all.0, all_roots Holds ss all.1))

-- ---- documents that take no copies

abbrev pub TakesNone : SourceDocument → Type 0
TakesNone s = takes_copies (unwrap_or (source_dialect s) s.assumed) s.root ≡ false

none_of : (d : Dialect) (root : Value) (tokens : Tokens) → takes_copies d root ≡ false → copy_of d root tokens ≡ None
none_of d root tokens e =
    ap (λ b. cond b (option_and_then (λ v. option_map (under_name v) (free_name (definitions_of d root) tokens))
    (option_and_then if_schema (apart One d root tokens))) None) e

pub none_copied : (sources : Sources) → AllByRecursion TakesNone sources
    → copies_of sources ≡ map no_copies sources
none_copied sources none =
    sources_kept (λ r. takes_copies r.dialect r.root ≡ false) (λ copies. copies ≡ map no_copies sources)
    (λ n tokens r copies e p. ap (λ m. with_copy n m copies) (none_of r.dialect r.root tokens e) ∙ p)
    (document_roots sources) (all_roots (λ d v. takes_copies d v ≡ false) sources none) sources
    (map no_copies sources) refl

sources_stay : (sources : Sources) → sources_with (map no_copies sources) sources ≡ sources
sources_stay [] = refl
sources_stay (s ∷ ss) = ap₂ (λ t ts. t ∷ ts) (source_alone s) (sources_stay ss)

resources_stay : (sources : Sources) → all_resources (map no_copies sources) sources ≡ all_resources [] sources
resources_stay [] = refl
resources_stay (s ∷ ss) = ap (λ rs. source_resources [] s ++ rs) (resources_stay ss)

with_none : (sources : Sources) → upgraded_with (map no_copies sources) sources ≡ upgraded_with [] sources
with_none sources =
    ap (λ rs. cond (list_all is_known sources) (Some (map (upgraded_among rs) sources)) None) (resources_stay sources)

pub upgraded_without : (sources : Sources) → AllByRecursion TakesNone sources
    → all_upgraded sources ≡ upgraded_with [] sources
unfolding are_known each_upgraded
upgraded_without sources none =
    let is = none_copied sources none in
    ap (λ copies. upgraded_with copies (sources_with copies sources)) is
    ∙ ap (upgraded_with (map no_copies sources)) (sources_stay sources) ∙ with_none sources

-- ---- documents of 2020-12 take no copies

takes_none : (root : Value) → takes_copies Draft2020 root ≡ false
takes_none (object ms) = refl
takes_none null = refl
takes_none (truth b) = refl
takes_none (whole z) = refl
takes_none (text t) = refl
takes_none (list vs) = refl

pub current_takes_none : (s : SourceDocument) → IsCurrentSource s → TakesNone s
current_takes_none s c =
    ap (λ d. takes_copies (unwrap_or d s.assumed) s.root) c.1 ∙ takes_none s.root

pub all_take_none : (sources : Sources) → AllByRecursion IsCurrentSource sources → AllByRecursion TakesNone sources
all_take_none [] c = tt
all_take_none (s ∷ sources) c = (current_takes_none s c.0, all_take_none sources c.1)

-- ---- without copies the tokens stay

none_there : (o : Option Text) → option_and_then (if_there []) o ≡ None
none_there None = refl
none_there (Some t) = refl

pub redirected_none : (d : Dialect) (tokens : Tokens) → redirected d [] tokens ≡ tokens
redirected_none d tokens =
    ap (λ o. at_copy d tokens (first_of o (if_there [] (pointer_text tokens)))) (none_there (kept_name tokens))
