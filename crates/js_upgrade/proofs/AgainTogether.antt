-- Documents that were upgraded together stay as they are, and so do their references.
use Rattle.std.proofs.Common.{◌≡◌, ℕ, List, [], ◌∷◌, ◌++◌, Bool, true, false, ◌&&◌, Option, Some, None, cond, map}
use Rattle.std.proofs.Common.{is_some, option_and_then, refl, sym, ap, ap₂, ◌∙◌, subst, codes, bytes_eq}
use Rattle.std.specs.List.{AllByRecursion, list_all}
use Rattle.std.proofs.lemmas.Bool.{and_parts}
use Rattle.url.specs.Parts.{Parts}
use Rattle.js_doc.specs.Lawful.{IsLawful}
use Rattle.js_doc.specs.Lookup.{item_named, part_named}
use Rattle.js_doc.specs.Members.{get, put, NamesAscend, NamesAscendInMembers}
use Rattle.js_doc.specs.Parts.{member_list}
use Rattle.js_doc.specs.Pointer.{Tokens}
use Rattle.js_doc.specs.Value.{Value, null, truth, whole, text, list, object, Members, members, Values, Named}
use Rattle.js_doc.proofs.FiniteMaps.{get-put_other}
use Rattle.js_doc.proofs.PartLists.{member_list-members}
use Rattle.js_upgrade.specs.Copies.{Copies, copies_of, sources_with}
use Rattle.js_upgrade.specs.CopyName.{redirected}
use Rattle.js_upgrade.specs.Current.{IsCurrent}
use Rattle.js_upgrade.specs.Dialect.{is_before}
use Rattle.js_upgrade.specs.Documents.{SourceDocument, all_resources, all_upgraded, anchored, are_known, each_upgraded}
use Rattle.js_upgrade.specs.Documents.{is_known, source_dialect}
use Rattle.js_upgrade.specs.Documents.{source_resources, upgraded_among, upgraded_by_dialect, with_anchor}
use Rattle.js_upgrade.specs.Keyword.{applicator_change, assertion_change, core_change}
use Rattle.js_upgrade.specs.Laws.{AllTwiceIsOnce, IsCurrentSource, sources_with_roots}
use Rattle.js_upgrade.specs.Moved.{both, just, moved_tokens}
use Rattle.js_upgrade.specs.Resource.{Resource, has_recursion, is_recursive}
use Rattle.js_upgrade.specs.Schema.{recursive_name}
use Rattle.js_upgrade.specs.Source.{source_with_root}
use Rattle.js_upgrade.specs.Upgrade.{dialect_found, document_dialect, own_dialect, root_upgraded}
use Rattle.js_upgrade.specs.declared.dialect.Dialect.{Dialect}
use Rattle.js_upgrade.specs.declared.dialect.Dialect.TheVariants.{Draft03, Draft04, Draft06}
use Rattle.js_upgrade.specs.declared.dialect.Dialect.TheVariants.{Draft07, Draft2019, Draft2020}
use Rattle.js_upgrade.specs.declared.holding.SchemaHolding.TheVariants.{One, Nothing}
use Rattle.js_upgrade.proofs.ByCases.{by_dialect}
use Rattle.js_upgrade.proofs.Again.{current, in_2020, made, own_by, same_declared, uri_current, uri_declared, with_uri}
use Rattle.js_upgrade.proofs.CopiesAscend.{copied_ascend}
use Rattle.js_upgrade.proofs.Each.{are_current, each_current, each_put}
use Rattle.js_upgrade.proofs.MovedParts.{both_are, tokens_of}
use Rattle.js_upgrade.proofs.Relocated.{relocated_ascends, schema_got, schema_members}
use Rattle.js_upgrade.proofs.StayingTogether.{IsStill, source_current, source_stays, stills}
use Rattle.js_upgrade.proofs.WithoutCopies.{TakesNone, current_takes_none, redirected_none, upgraded_without}

-- ---- a document that stays, whatever it is upgraded with

abbrev Stays : SourceDocument → Type 0
Stays s =
    (is_known s ≡ true) × AllByRecursion IsStill (source_resources [] s)
    × ((all : List Resource) → AllByRecursion IsStill all → upgraded_among all s ≡ s.root) × TakesNone s

current_source : (s : SourceDocument) → IsCurrentSource s → Stays s
current_source s c = (
  ap is_some c.1,
  stills (source_resources [] s) (source_current s c),
  λ all still. source_stays all still s c,
  current_takes_none s c,
)

-- ---- a root that is no object

abbrev holds_members : Value → Bool
holds_members (object ms) = true
holds_members _ = false

none_recursive : (d : Dialect) → is_recursive d [] ≡ false
none_recursive d = by_dialect (λ e. is_recursive e [] ≡ false) refl refl refl refl refl refl d

one_moves : (token : List ℕ) (rest : Tokens) (d : Dialect) (new : Tokens)
    → ((w : Value) (inner : Tokens) → moved_tokens Nothing d w rest ≡ Some inner → rest ≡ inner)
    → (found : Option Value)
    → option_and_then (λ part. both (just token) (moved_tokens Nothing d part rest)) found ≡ Some new → token
    ∷ rest ≡ new
one_moves token rest d new more None e = absurd (cc)
one_moves token rest d new more (Some part) e =
    let b = both_are (just token) (moved_tokens Nothing d part rest) new e in
    ap (λ ts. token ∷ ts) (more part b.1 b.3) ∙ ap (λ ts. ts ++ b.1) (ap tokens_of b.2) ∙ b.4

nothing_by : (token : List ℕ) (rest : Tokens) (d : Dialect) (v : Value)
    → moved_tokens Nothing d v (token ∷ rest)
    ≡ option_and_then (λ part. both (just token) (moved_tokens Nothing d part rest)) (part_named token v)
nothing_by token rest d null = refl
nothing_by token rest d (truth b) = refl
nothing_by token rest d (whole z) = refl
nothing_by token rest d (text t) = refl
nothing_by token rest d (list vs) = refl
nothing_by token rest d (object ms) = refl

nothing_moves : (tokens : Tokens) (d : Dialect) (v : Value) (new : Tokens) → moved_tokens Nothing d v tokens ≡ Some new
    → tokens ≡ new
nothing_moves [] d v new e = ap tokens_of e
nothing_moves (token ∷ rest) d v new e =
    one_moves token rest d new (λ w inner is. nothing_moves rest d w inner is) (part_named token v)
    (sym (nothing_by token rest d v) ∙ e)

simple_moves : (d : Dialect) (v : Value) → holds_members v ≡ false → (tokens new : Tokens)
    → moved_tokens One d v tokens ≡ Some new → tokens ≡ new
simple_moves d v simple [] new e = ap tokens_of e
simple_moves d null simple (token ∷ rest) new e = absurd (cc)
simple_moves d (truth b) simple (token ∷ rest) new e = absurd (cc)
simple_moves d (whole z) simple (token ∷ rest) new e = absurd (cc)
simple_moves d (text t) simple (token ∷ rest) new e = absurd (cc)
simple_moves d (list vs) simple (token ∷ rest) new e =
    one_moves token rest d new (λ w inner is. nothing_moves rest d w inner is) (item_named token 0 vs) e
simple_moves d (object ms) simple (token ∷ rest) new e = absurd (cc)

still_moves : (d : Dialect) (v : Value) → holds_members v ≡ false → (tokens new : Tokens)
    → moved_tokens One d v (redirected d [] tokens) ≡ Some new → tokens ≡ new
still_moves d v simple tokens new is =
    simple_moves d v simple tokens new (sym (ap (moved_tokens One d v) (redirected_none d tokens)) ∙ is)

simple_made : (a b : Bool) (v : Value) → with_anchor v ≡ v → anchored a (cond b v v) ≡ v
simple_made true true v e = e
simple_made true false v e = e
simple_made false true v e = refl
simple_made false false v e = refl

abbrev of_root : Parts → Dialect → Value → SourceDocument
of_root uri assumed root = record { uri = uri; assumed = assumed; root = root }

simple_stays : (uri : Parts) (d : Dialect) (v : Value) → holds_members v ≡ false → Stays (of_root uri d v)
simple_stays uri d null simple = (
  refl,
  ((still_moves d null simple, none_recursive d, refl), tt),
  λ all still. simple_made (has_recursion d null) (is_before d Draft2020) null refl,
  refl,
)
simple_stays uri d (truth b) simple = (
  refl,
  ((still_moves d (truth b) simple, none_recursive d, refl), tt),
  λ all still. simple_made (has_recursion d (truth b)) (is_before d Draft2020) (truth b) refl,
  refl,
)
simple_stays uri d (whole z) simple = (
  refl,
  ((still_moves d (whole z) simple, none_recursive d, refl), tt),
  λ all still. simple_made (has_recursion d (whole z)) (is_before d Draft2020) (whole z) refl,
  refl,
)
simple_stays uri d (text t) simple = (
  refl,
  ((still_moves d (text t) simple, none_recursive d, refl), tt),
  λ all still. simple_made (has_recursion d (text t)) (is_before d Draft2020) (text t) refl,
  refl,
)
simple_stays uri d (list vs) simple = (
  refl,
  ((still_moves d (list vs) simple, none_recursive d, refl), tt),
  λ all still. simple_made (has_recursion d (list vs)) (is_before d Draft2020) (list vs) refl,
  refl,
)
simple_stays uri d (object ms) simple = absurd (cc)

-- ---- a root that is an object is of 2020-12 afterwards

abbrev IsMade : Dialect → Value → Type 0
IsMade assumed v = (document_dialect assumed v ≡ Some Draft2020) × IsCurrent One v

abbrev Root : Dialect → Dialect → Members → Type 0
Root d assumed ns = (out : Members) × (root_upgraded d (object ns) ≡ object out) × IsMade assumed (object out)

older : (d assumed : Dialect) (ns : Members) → root_upgraded d (object ns)
    ≡ object (members (with_uri (members (made (own_dialect d (member_list ns)) ns)))) → NamesAscendInMembers ns
    → Root d assumed ns
older d assumed ns is s =
    let out = members (made (own_dialect d (member_list ns)) ns) in
    (members (with_uri out), is, (uri_declared assumed out, uri_current out (current One d (object ns) s)))

root_made : (d assumed : Dialect) (ns : Members) → document_dialect assumed (object ns) ≡ Some d
    → NamesAscendInMembers ns → Root d assumed ns
root_made Draft03 assumed ns is s = older Draft03 assumed ns refl s
root_made Draft04 assumed ns is s = older Draft04 assumed ns refl s
root_made Draft06 assumed ns is s = older Draft06 assumed ns refl s
root_made Draft07 assumed ns is s = older Draft07 assumed ns refl s
root_made Draft2019 assumed ns is s = older Draft2019 assumed ns refl s
root_made Draft2020 assumed ns is s = (
  members (made (own_dialect Draft2020 (member_list ns)) ns),
  refl,
  (same_declared assumed ns s is, current One Draft2020 (object ns) s),
)

schema_differs : ¬ (codes "$schema" ≡ codes "$dynamicAnchor")
schema_differs same =
    let wrong : false ≡ true = ap (λ n. bytes_eq n (codes "$dynamicAnchor")) same in absurd (cc)

abbrev respelled : Members → Named
respelled ms = put (codes "$dynamicAnchor") recursive_name (member_list ms)

anchor_got : (ms : Members)
    → get (codes "$schema") (member_list (members (respelled ms))) ≡ get (codes "$schema") (member_list ms)
anchor_got ms =
    ap (get (codes "$schema")) (member_list-members (respelled ms))
    ∙ get-put_other (codes "$dynamicAnchor") (codes "$schema") recursive_name (member_list ms) schema_differs

anchored_made : (recursive : Bool) (assumed : Dialect) (ms : Members) → IsMade assumed (object ms)
    → IsMade assumed (anchored recursive (object ms))
unfolding core_change applicator_change assertion_change
anchored_made false assumed ms m = m
anchored_made true assumed ms m =
    let ns = member_list (members (respelled ms)) in
    let is : dialect_found assumed (get (codes "$schema") ns) ≡ Some Draft2020 =
    ap (dialect_found assumed) (anchor_got ms) ∙ m.0 in (
      is,
      (
        own_by assumed ns (get (codes "$schema") ns) is,
        are_current in_2020 (respelled ms)
            (each_put (λ k v. IsCurrent (in_2020 k) v) (codes "$dynamicAnchor") recursive_name (member_list ms) tt
            (each_current in_2020 ms m.1.1)),
      ),
    )

module _ (all : List Resource) (uri : Parts) (assumed : Dialect) where
  object_made : (d : Dialect) (ms : Members) → document_dialect assumed (object ms) ≡ Some d → NamesAscendInMembers ms
      → IsMade assumed (upgraded_by_dialect all (of_root uri assumed (object ms)) (Some d))
  object_made d ms is s =
      let kept = schema_members all d uri ms in
      let r = root_made d assumed (members kept)
      (ap (dialect_found assumed) (ap (get (codes "$schema")) (member_list-members kept) ∙ schema_got all d uri ms)
      ∙ is)
      (relocated_ascends all One d uri (object ms) s) in
      subst (λ v. IsMade assumed (anchored (has_recursion d (object ms)) v)) (sym r.1)
      (anchored_made (has_recursion d (object ms)) assumed r.0 r.2)

  simple_again : (d : Dialect) (v u : Value) → u ≡ v → holds_members v ≡ false → Stays (of_root uri assumed u)
  simple_again d v u same simple =
      subst (λ w. Stays (of_root uri assumed w)) (sym same) (simple_stays uri assumed v simple)

  root_stays : (root : Value) (found : Option Dialect) → document_dialect assumed root ≡ found → is_some found ≡ true
      → NamesAscend root → IsLawful (upgraded_by_dialect all (of_root uri assumed root) found)
      → Stays (of_root uri assumed (upgraded_by_dialect all (of_root uri assumed root) found))
  root_stays root None is known s l = absurd (cc)
  root_stays (object ms) (Some d) is known s l =
      let m = object_made d ms is s in current_source (of_root uri assumed
      (upgraded_by_dialect all (of_root uri assumed (object ms)) (Some d))) (l, m.0, m.1)
  root_stays null (Some d) is known s l =
      simple_again d null _ (simple_made (has_recursion d null) (is_before d Draft2020) null refl) refl
  root_stays (truth b) (Some d) is known s l =
      simple_again d (truth b) _ (simple_made (has_recursion d (truth b)) (is_before d Draft2020) (truth b) refl) refl
  root_stays (whole z) (Some d) is known s l =
      simple_again d (whole z) _ (simple_made (has_recursion d (whole z)) (is_before d Draft2020) (whole z) refl) refl
  root_stays (text t) (Some d) is known s l =
      simple_again d (text t) _ (simple_made (has_recursion d (text t)) (is_before d Draft2020) (text t) refl) refl
  root_stays (list vs) (Some d) is known s l =
      simple_again d (list vs) _ (simple_made (has_recursion d (list vs)) (is_before d Draft2020) (list vs) refl) refl

-- ---- all documents

all_stay : (all : List Resource) (sources : List SourceDocument) → list_all is_known sources ≡ true
    → AllByRecursion (λ s. NamesAscend s.root) sources → AllByRecursion IsLawful (map (upgraded_among all) sources)
    → AllByRecursion Stays (sources_with_roots sources (map (upgraded_among all) sources))
all_stay all [] known l m = tt
all_stay all (s ∷ sources) known l m =
    let p = and_parts (is_known s) (list_all is_known sources) known in (
      root_stays all s.uri s.assumed s.root (source_dialect s) refl p.0 l.0 m.0,
      all_stay all sources p.1 l.1 m.1,
    )

all_known : (sources : List SourceDocument) → AllByRecursion Stays sources → list_all is_known sources ≡ true
all_known [] c = refl
all_known (s ∷ sources) c = ap (λ b. b && list_all is_known sources) c.0.0 ∙ all_known sources c.1

still_append : (xs ys : List Resource) → AllByRecursion IsStill xs → AllByRecursion IsStill ys
    → AllByRecursion IsStill (xs ++ ys)
still_append [] ys c d = d
still_append (x ∷ xs) ys c d = (c.0, still_append xs ys c.1 d)

all_still : (sources : List SourceDocument) → AllByRecursion Stays sources
    → AllByRecursion IsStill (all_resources [] sources)
all_still [] c = tt
all_still (s ∷ sources) c =
    still_append (source_resources [] s) (all_resources [] sources) c.0.1 (all_still sources c.1)

take_none : (sources : List SourceDocument) → AllByRecursion Stays sources → AllByRecursion TakesNone sources
take_none [] c = tt
take_none (s ∷ sources) c = (c.0.3, take_none sources c.1)

same_roots : (all : List Resource) → AllByRecursion IsStill all → (sources : List SourceDocument)
    → AllByRecursion Stays sources → map (upgraded_among all) sources ≡ map (λ s. s.root) sources
same_roots all still [] c = refl
same_roots all still (s ∷ sources) c = ap₂ (λ v vs. v ∷ vs) (c.0.2 all still) (same_roots all still sources c.1)

roots_given : (f : SourceDocument → Value) (sources : List SourceDocument)
    → map (λ s. s.root) (sources_with_roots sources (map f sources)) ≡ map f sources
roots_given f [] = refl
roots_given f (s ∷ sources) = ap (λ vs. f s ∷ vs) (roots_given f sources)

abbrev values_or : Values → Option Values → Values
values_or vs None = vs
values_or vs (Some ws) = ws

-- the documents have the copies or haven't
same_news : (copies : Copies) (sources : List SourceDocument) (once : Values)
    → sources_with_roots (sources_with copies sources) once ≡ sources_with_roots sources once
same_news copies [] once = refl
same_news [] (s ∷ sources) once = refl
same_news (c ∷ copies) (s ∷ sources) [] = refl
same_news (c ∷ copies) (s ∷ sources) (v ∷ once) =
    ap (λ ss. source_with_root s v ∷ ss) (same_news copies sources once)

twice_by : (copies : Copies) (sources : List SourceDocument) (once : Values) (b : Bool) → list_all is_known sources ≡ b
    → AllByRecursion (λ s. NamesAscend s.root) sources → AllByRecursion IsLawful once
    → cond b (Some (map (upgraded_among (all_resources copies sources)) sources)) None ≡ Some once
    → all_upgraded (sources_with_roots sources once) ≡ Some once
twice_by copies sources once false known l m e = absurd (cc)
twice_by copies sources once true known l m e =
    let all = all_resources copies sources in
    let each = map (upgraded_among all) sources in
    let same : each ≡ once = ap (values_or once) e in
    subst (λ vs. all_upgraded (sources_with_roots sources vs) ≡ Some vs) same
    (let news = sources_with_roots sources each in
    let stay = all_stay all sources known l (subst (AllByRecursion IsLawful) (sym same) m) in
    upgraded_without news (take_none news stay)
    ∙ ap (λ b. cond b (Some (map (upgraded_among (all_resources [] news)) news)) None) (all_known news stay)
    ∙ ap Some (same_roots (all_resources [] news) (all_still news stay) news stay
    ∙ roots_given (upgraded_among all) sources))

pub all_twice : AllTwiceIsOnce
unfolding are_known each_upgraded
all_twice sources once l m e =
    let copies = copies_of sources in
    let copied = sources_with copies sources in
    subst (λ ss. all_upgraded ss ≡ Some once) (same_news copies sources once)
    (twice_by copies copied once (list_all is_known copied) refl (copied_ascend sources l) m e)
