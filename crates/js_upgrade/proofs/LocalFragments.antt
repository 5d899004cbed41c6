-- A reference that is a fragment alone, joined with its base.
use Rattle.std.proofs.Common.{◌≡◌, ℕ, ◌<◌, List, [], ◌∷◌, Bool, true, false, not, ◌&&◌, ◌||◌, ◌==◌, Option, Some, None}
use Rattle.std.proofs.Common.{All, cond, Ok, length, get_or, option_and_then, codes, refl, sym, ap, ◌∙◌, arith}
use Rattle.std.proofs.Common.{nat_lt, slice_get, take_all, unwrap_or, Bor}
use Rattle.std.specs.List.{list_all, position_from, prefix_len}
use Rattle.std.specs.Prelude.{reverse, is_none, is_some, option_map, if◌then◌else◌, option_copied, ◌-◌}
use Rattle.std.specs.Str.{is_utf8}
use Rattle.std.proofs.lemmas.Bool.{agree_below, agree_below_at, and_parts, cond-false, eqb-true, lt-leb, ltb-true}
use Rattle.std.proofs.lemmas.Bool.Decides.{nat_tests}
use Rattle.std.proofs.lemmas.List.{get_or-reverse, length-reverse}
use Rattle.std.proofs.lemmas.List.Elements.{All-cons, All-weaker}
use Rattle.std.proofs.Math.Nat.{sub-zero}
use Rattle.percent_encoding.specs.AsciiSet.{should_percent_encode}
use Rattle.percent_encoding.specs.Percent.{IsKept, percent_decode, percent_encode}
use Rattle.percent_encoding.proofs.PercentLemmas.{percent_encode_unchanged}
use Rattle.url.specs.declared.sets.TheConstants.{FRAGMENT}
use Rattle.url.specs.Input.{is_c0_control_or_space, is_tab_or_new_line, split_once, strip_tabs_and_new_lines}
use Rattle.url.specs.Input.{trim_c0_control_and_space}
use Rattle.url.specs.Parser.{parse_by_scheme, parse_parts, parse_url, split_scheme, with_tail}
use Rattle.url.specs.Parts.{Parts, cannot_be_a_base, kind_of, query_set, serialize, text_between}
use Rattle.url.specs.Scheme.{scheme_len}
use Rattle.url.specs.declared.slicing.Position.TheVariants.{AfterQuery, BeforeScheme}
use Rattle.url.proofs.InputLemmas.{All_from_list_all, Passes, filter_all}
use Rattle.js_doc.specs.Pointer.{Tokens}
use Rattle.js_doc.specs.PointerReading.{pointer_of}
use Rattle.js_doc.specs.Value.{Text}
use Rattle.js_upgrade.specs.Copies.{Copies, copied_at, copied_for_uri, root_numbered}
use Rattle.js_upgrade.specs.Fault.{part_at, target_kind}
use Rattle.js_upgrade.specs.Reference.{followed, in_resource}
use Rattle.js_upgrade.specs.Resource.{Resource, resource_named}
use Rattle.js_upgrade.specs.declared.fault.UpgradeFaultKind.TheVariants.{Unresolved}
use Rattle.js_upgrade.specs.Url.{fragment_pointer, uri_joined, uri_limit, uri_parsed, uri_printed, uri_without_fragment}
use Rattle.js_upgrade.specs.code.First.{has_uri}
use Rattle.js_upgrade.proofs.Prefixes.{some_is}
use Rattle.js_upgrade.proofs.Tables.{found_at}
use Rattle.js_upgrade.specs.code.Local.{is_fragment_byte, kept_fragment, local_fragment, local_uri}

-- ---- what such a reference consists of

abbrev pub IsLocal : Text → Text → Type 0
IsLocal t fragment = (t ≡ 35 ∷ fragment) × (nat_lt uri_limit (length t) ≡ false)
    × (list_all is_fragment_byte fragment ≡ true)

kept_by : (t fragment found : Text) (long kept : Bool) → nat_lt uri_limit (length t) ≡ long
    → list_all is_fragment_byte found ≡ kept → t ≡ 35 ∷ found
    → cond (not long && kept) (Some found) None ≡ Some fragment → IsLocal t fragment
kept_by t fragment found false true short kept begins is =
    let same : found ≡ fragment = cc in
    (begins ∙ ap (λ f. 35 ∷ f) same, short, ap (list_all is_fragment_byte) (sym same) ∙ kept)
kept_by t fragment found false false short kept begins is = absurd (cc)
kept_by t fragment found true kept long all begins is = absurd (cc)

local_by : (b : ℕ) (bs fragment : Text) (mark : Bool) → (b == 35) ≡ mark
    → option_and_then (kept_fragment (b ∷ bs)) (cond mark (Some bs) None) ≡ Some fragment → IsLocal (b ∷ bs) fragment
local_by b bs fragment true is found =
    kept_by (b ∷ bs) fragment bs (nat_lt uri_limit (length (b ∷ bs))) (list_all is_fragment_byte bs) refl refl
    (ap (λ c. c ∷ bs) (eqb-true b 35 is)) found
local_by b bs fragment false is found = absurd (cc)

pub is_local : (t fragment : Text) → local_fragment t ≡ Some fragment → IsLocal t fragment
is_local [] fragment is = absurd (cc)
is_local (b ∷ bs) fragment is = local_by b bs fragment (b == 35) refl is

-- ---- its bytes stay

kept_or : (kept escaped : Bool) → (kept && escaped) ≡ false → kept ≡ true → escaped ≡ false
kept_or true escaped none is = none
kept_or false escaped none is = absurd (cc)

below : (b : ℕ) → is_fragment_byte b ≡ true → b < 128
below b is =
    let parts = and_parts (nat_lt 32 b) (nat_lt b 127 && not (b == 34 || (b == 60 || (b == 62 || b == 96)))) is in
    let under = and_parts (nat_lt b 127) (not (b == 34 || (b == 60 || (b == 62 || b == 96)))) parts.1 in
    omega (arith, ltb-true b 127 under.0)

above : (b : ℕ) → is_fragment_byte b ≡ true → 32 < b
above b is =
    let parts = and_parts (nat_lt 32 b) (nat_lt b 127 && not (b == 34 || (b == 60 || (b == 62 || b == 96)))) is in
    ltb-true 32 b parts.0

none_escaped : agree_below (λ n. is_fragment_byte n && should_percent_encode FRAGMENT n) (λ n. false) 128 ≡ true
unfolding should_percent_encode
none_escaped = refl

stays : (b : ℕ) → is_fragment_byte b ≡ true → IsKept FRAGMENT b
stays b is =
    kept_or (is_fragment_byte b) (should_percent_encode FRAGMENT b)
    (agree_below_at (λ n. is_fragment_byte n && should_percent_encode FRAGMENT n) (λ n. false) 128 b none_escaped
    (below b is)) is

pub unescaped : (fragment : Text) → list_all is_fragment_byte fragment ≡ true → percent_encode FRAGMENT fragment
    ≡ fragment
unescaped fragment kept =
    percent_encode_unchanged FRAGMENT fragment
    (All-weaker (Passes is_fragment_byte) (IsKept FRAGMENT) stays fragment
    (All_from_list_all is_fragment_byte fragment kept))

-- ---- nothing is trimmed or taken out

abbrev IsVisible : ℕ → Type 0
IsVisible b = 32 < b

visible : (fragment : Text) → list_all is_fragment_byte fragment ≡ true → All IsVisible (35 ∷ fragment)
visible fragment kept =
    All-cons IsVisible 35 fragment (omega arith)
    (All-weaker (Passes is_fragment_byte) IsVisible above fragment (All_from_list_all is_fragment_byte fragment kept))

none_at_front : (xs : List ℕ) → (0 < length xs → 32 < get_or xs 0 0) → prefix_len is_c0_control_or_space xs ≡ 0
none_at_front [] first = refl
none_at_front (x ∷ xs) first = cond-false _ _ _ (lt-leb x 32 (first (omega arith)))

untrimmed : (xs : List ℕ) → All IsVisible xs → trim_c0_control_and_space xs ≡ xs
unfolding trim_c0_control_and_space
untrimmed xs seen =
    let start = none_at_front xs (λ inside. seen 0 0 inside) in
    let len = length-reverse xs in
    let end = none_at_front (reverse xs) (λ inside. rw (get_or-reverse xs 0 0 (omega arith), sub-zero)
    (seen (length xs - 1) 0 (omega arith))) in
    rw (start, end) (take_all _ xs (omega arith))

unstripped : (xs : List ℕ) → All IsVisible xs → strip_tabs_and_new_lines xs ≡ xs
unfolding strip_tabs_and_new_lines
unstripped xs seen =
    filter_all _ xs
    (All-weaker IsVisible (Passes (λ b. not (is_tab_or_new_line b))) (λ b over. grind (arith, nat_tests)) xs seen)

-- ---- joined

and_none : (b : Bool) → (b && false) ≡ false
and_none true = refl
and_none false = refl

parsed_local : (base : Parts) (fragment : Text) → list_all is_fragment_byte fragment ≡ true
    → parse_url (Some base) (35 ∷ fragment) ≡ Ok (with_tail base base.query (Some fragment))
unfolding parse_url parse_parts split_once split_scheme scheme_len
parsed_local base fragment kept =
    let seen = visible fragment kept in
    let clean : strip_tabs_and_new_lines (trim_c0_control_and_space (35 ∷ fragment)) ≡ 35 ∷ fragment =
    ap strip_tabs_and_new_lines (untrimmed (35 ∷ fragment) seen) ∙ unstripped (35 ∷ fragment) seen in
    ap (λ text. let hash = split_once 35 text in let question = split_once 63 hash.0 in
    parse_by_scheme (split_scheme question.0) (Some base) question.0 question.1 hash.1) clean
    ∙ cond-false _ _ _ (and_none (cannot_be_a_base base))

pub joined_local : (base : Parts) (t fragment : Text) → local_fragment t ≡ Some fragment
    → uri_joined base t ≡ Some (with_tail base base.query (Some fragment))
joined_local base t fragment is =
    let local = is_local t fragment is in
    ap (λ long. cond long None (uri_parsed (parse_url (Some base) t))) local.1
    ∙ ap (λ x. uri_parsed (parse_url (Some base) x)) local.0 ∙ ap uri_parsed (parsed_local base fragment local.2)

pub all_kept : (t fragment : Text) → local_fragment t ≡ Some fragment → list_all is_fragment_byte fragment ≡ true
all_kept t fragment is = (is_local t fragment is).2

-- ---- the resource that it leads to

pub local_is : (base : Parts) (fragment : Option Text)
    → uri_printed (uri_without_fragment (with_tail base base.query fragment)) ≡ local_uri base
unfolding uri_without_fragment
local_is base fragment = refl

without_tail : (base : Parts) → base.query ≡ None → base.fragment ≡ None
    → uri_without_fragment (with_tail base None None) ≡ base
unfolding uri_without_fragment
without_tail base query fragment = λ i. record base { query = sym query i; fragment = sym fragment i }

pub bare_stays : (base : Parts) → base.query ≡ None → base.fragment ≡ None → local_uri base ≡ uri_printed base
bare_stays base query fragment =
    ap (λ q. uri_printed (uri_without_fragment (with_tail base q None))) query
    ∙ ap uri_printed (without_tail base query fragment)

pub bare_itself : (base : Parts) → base.query ≡ None → base.fragment ≡ None → uri_without_fragment base ≡ base
unfolding uri_without_fragment
bare_itself base query fragment =
    ap (λ q. with_tail base q None) query ∙ (λ i. record base { query = sym query i; fragment = sym fragment i })

-- what stands before the fragment
pub bare_text : (uri : Parts) → uri.query ≡ None
    → text_between uri BeforeScheme AfterQuery ≡ uri_printed (uri_without_fragment uri)
unfolding uri_without_fragment uri_printed
bare_text uri query =
    let kind = query_set (kind_of uri) in
    ap (λ q. text_between (record uri { query = q }) BeforeScheme AfterQuery) query
    ∙ sym (ap (λ q. serialize (record uri { query = option_map (percent_encode kind) q; fragment = None })) query)

pub none_there : (o : Option (Bor Text)) (q : Option Text) (b : Bool) → option_copied o ≡ q → is_some o ≡ not b
    → b ≡ true → q ≡ None
none_there None q b seen none is = sym seen
none_there (Some x) q b seen none is = let wrong : true ≡ false = none ∙ ap not is in absurd (cc)

pub local_named : (base : Parts) (uri : Parts) → Some uri ≡ uri_joined base (codes "#")
    → uri_printed (uri_without_fragment uri) ≡ local_uri base
local_named base uri is =
    let same : uri ≡ with_tail base base.query (Some []) =
    some_is uri (with_tail base base.query (Some [])) (is ∙ joined_local base (codes "#") [] refl) in
    ap (λ u. uri_printed (uri_without_fragment u)) same ∙ local_is base (Some [])

pub always_joined : (base : Parts) → ¬ (None ≡ uri_joined base (codes "#"))
always_joined base is =
    let wrong : None ≡ Some (with_tail base base.query (Some [])) = is ∙ joined_local base (codes "#") [] refl in
    absurd (cc)

-- ---- where it leads

pointer_is : (base : Parts) (t fragment : Text) (pointer : Option Tokens) → Some fragment ≡ local_fragment t
    → pointer ≡ (if is_utf8 (percent_decode fragment) then pointer_of (percent_decode fragment) else None)
    → pointer ≡ fragment_pointer (with_tail base base.query (Some fragment))
pointer_is base t fragment pointer is read =
    read ∙ ap (λ f. if is_utf8 (percent_decode f) then pointer_of (percent_decode f) else None)
    (sym (unescaped fragment (all_kept t fragment (sym is))))

pub local_copied : (roots : List Resource) (base : Parts) (t fragment : Text) (pointer : Option Tokens)
    (number : Option ℕ) (copies : Copies) → Some fragment ≡ local_fragment t
    → pointer ≡ (if is_utf8 (percent_decode fragment) then pointer_of (percent_decode fragment) else None)
    → number ≡ position_from (has_uri (local_uri base)) 0 roots
    → copied_at roots pointer number copies ≡ copied_for_uri roots (uri_joined base t) copies
local_copied roots base t fragment pointer number copies is read named =
    ap (λ p. copied_at roots p number copies) (pointer_is base t fragment pointer is read)
    ∙ ap (λ n. copied_at roots (fragment_pointer (with_tail base base.query (Some fragment))) n copies)
    (named ∙ ap (root_numbered roots) (sym (local_is base (Some fragment))))
    ∙ sym (ap (λ u. copied_for_uri roots u copies) (joined_local base t fragment (sym is)))

module _ (all : List Resource) (base : Parts) (t fragment : Text) (pointer : Option Tokens) (here : Option Resource)
    (is : Some fragment ≡ local_fragment t)
    (read : pointer ≡ (if is_utf8 (percent_decode fragment) then pointer_of (percent_decode fragment) else None))
    (number : Option ℕ) (numbered : here ≡ option_and_then (slice_get all) number)
    (named : number ≡ position_from (has_uri (local_uri base)) 0 all) where
  abbrev uri : Parts
  uri = with_tail base base.query (Some fragment)

  its_pointer : pointer ≡ fragment_pointer uri
  its_pointer = pointer_is base t fragment pointer is read

  its_resource : here ≡ resource_named all (uri_printed (uri_without_fragment uri))
  its_resource =
      numbered ∙ ap (option_and_then (slice_get all)) named ∙ found_at (has_uri (local_uri base)) all
      ∙ ap (resource_named all) (sym (local_is base (Some fragment)))

  its_fragment : fragment ≡ unwrap_or uri.fragment []
  its_fragment = sym (unescaped fragment (all_kept t fragment (sym is)))

  pub local_followed : in_resource t fragment pointer here ≡ followed all t (uri_joined base t)
  local_followed =
      ap (λ f. in_resource t f pointer here) its_fragment
      ∙ ap (λ p. in_resource t (unwrap_or uri.fragment []) p here) its_pointer
      ∙ ap (in_resource t (unwrap_or uri.fragment []) (fragment_pointer uri)) its_resource
      ∙ sym (ap (followed all t) (joined_local base t fragment (sym is)))

  pub local_kind : (if is_none (option_and_then (part_at pointer) here) then Some Unresolved else None)
      ≡ target_kind all (uri_joined base t)
  local_kind =
      ap (λ p. if is_none (option_and_then (part_at p) here) then Some Unresolved else None) its_pointer
      ∙ ap (λ r. if is_none (option_and_then (part_at (fragment_pointer uri)) r) then Some Unresolved else None)
      its_resource
      ∙ sym (ap (target_kind all) (joined_local base t fragment (sym is)))
