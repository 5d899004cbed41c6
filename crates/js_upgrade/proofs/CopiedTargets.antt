-- A reference to what was copied leads to the copy, whose name is the text of its pointer.
use Rattle.std.proofs.Common.{◌≡◌, ℕ, List, [], ◌∷◌, ◌++◌, Bool, true, false, not, ◌&&◌, Option, Some, None}
use Rattle.std.proofs.Common.{cond, codes, refl, sym, ap, ◌∙◌, arith}
use Rattle.std.specs.Prelude.{◌==◌, bytes_eq, is_none, option_and_then, option_map, slice_get, if◌then◌else◌}
use Rattle.std.specs.List.{list_all, position_from}
use Rattle.std.specs.Str.{is_utf8}
use Rattle.std.proofs.lemmas.Bool.{and_parts}
use Rattle.std.proofs.lemmas.Bool.Decides.{nat_tests}
use Rattle.std.proofs.lemmas.Str.{IsUtf8-from_ascii, is_utf8-from_IsUtf8}
use Rattle.percent_encoding.specs.Percent.{percent_decode}
use Rattle.percent_encoding.proofs.PercentLemmas.{percent_decode-nil, percent_decode_not_percent}
use Rattle.url.specs.Parts.{Parts}
use Rattle.js_doc.specs.Pointer.{Tokens, pointer_text, token_text}
use Rattle.js_doc.specs.PointerReading.{pointer_of, tokens_read}
use Rattle.js_doc.specs.Value.{Text}
use Rattle.js_doc.proofs.PointerTexts.{pointer_of-sound}
use Rattle.js_doc.proofs.TokenLookup.{is_text-sound}
use Rattle.js_upgrade.specs.Apart.{definitions_of}
use Rattle.js_upgrade.specs.CopyName.{at_copy, copied_name, if_there, is_rooted, kept_name}
use Rattle.js_upgrade.specs.Dialect.{after_prefix, first_of}
use Rattle.js_upgrade.specs.Fault.{target_kind}
use Rattle.js_upgrade.specs.Moved.{moved_tokens}
use Rattle.js_upgrade.specs.Reference.{are_same_tokens, followed, in_resource, moved_in, with_pointer, with_target}
use Rattle.js_upgrade.specs.Resource.{Resource}
use Rattle.js_upgrade.specs.Url.{uri_joined}
use Rattle.js_upgrade.specs.code.CopiedTarget.{IsCopiedTarget, copied_text, is_path_byte}
use Rattle.js_upgrade.specs.code.First.{has_uri}
use Rattle.js_upgrade.specs.code.Local.{local_fragment, local_uri}
use Rattle.js_upgrade.specs.declared.fault.UpgradeFaultKind.TheVariants.{Unresolved}
use Rattle.js_upgrade.specs.declared.holding.SchemaHolding.TheVariants.{One}
use Rattle.js_upgrade.proofs.LocalFragments.{is_local, local_followed, local_kind}
use Rattle.js_upgrade.proofs.UsualReferences.{all_ascii}
use Rattle.js_upgrade.proofs.UsualTargets.{defs_tokens, its_definitions, its_dialect, moved_from, not_so}

-- ---- the pointer that the fragment is

undecoded : (bs : Text) → list_all is_path_byte bs ≡ true → percent_decode bs ≡ bs
undecoded [] is = percent_decode-nil
undecoded (b ∷ bs) is =
    let parts = and_parts (is_path_byte b) (list_all is_path_byte bs) is in
    let other = (and_parts (not (b == 37)) (not (b == 126)) parts.0).0 in
    percent_decode_not_percent b bs (grind (arith, nat_tests)) ∙ ap (λ cs. b ∷ cs) (undecoded bs parts.1)

abbrev IsRead : Text → Text → Type 0
IsRead token bs = (tokens : Tokens) × (tokens_read false token bs ≡ Some tokens)

untilded : (token : Text) (b : ℕ) (bs : Text) (slash : Bool) → (b == 47) ≡ slash → (b == 126) ≡ false
    → tokens_read false token (b ∷ bs)
    ≡ cond slash (option_map (λ p. token ∷ p) (tokens_read false [] bs)) (tokens_read false (token ++ b ∷ []) bs)
untilded token b bs slash is tilde =
    let on = λ (c : Bool). cond c (option_map (λ p. token ∷ p) (tokens_read false [] bs))
    (tokens_read false (token ++ b ∷ []) bs) in
    ap (λ c. cond c (tokens_read true token bs) (on (b == 47))) tilde ∙ ap on is

read_by : (token : Text) (b : ℕ) (bs : Text) (slash : Bool) → (b == 47) ≡ slash → (b == 126) ≡ false → IsRead [] bs
    → IsRead (token ++ b ∷ []) bs → IsRead token (b ∷ bs)
read_by token b bs true is tilde below on =
    (token ∷ below.0, untilded token b bs true is tilde ∙ ap (option_map (λ p. token ∷ p)) below.1)
read_by token b bs false is tilde below on = (on.0, untilded token b bs false is tilde ∙ on.1)

all_read : (token bs : Text) → list_all is_path_byte bs ≡ true → IsRead token bs
all_read token [] is = (token ∷ [], refl)
all_read token (b ∷ bs) is =
    let parts = and_parts (is_path_byte b) (list_all is_path_byte bs) is in
    read_by token b bs (b == 47) refl (not_so (b == 126) (and_parts (not (b == 37)) (not (b == 126)) parts.0).1)
    (all_read [] bs parts.1) (all_read (token ++ b ∷ []) bs parts.1)

abbrev IsPointer : Text → Type 0
IsPointer fragment = (tokens : Tokens) × (pointer_of fragment ≡ Some tokens)

pointer_there : (fragment : Text) → is_rooted fragment ≡ true → list_all is_path_byte fragment ≡ true
    → IsPointer fragment
pointer_there [] rooted plain = absurd (cc)
pointer_there (b ∷ bs) rooted plain =
    let below = all_read [] bs (and_parts (is_path_byte b) (list_all is_path_byte bs) plain).1 in
    (below.0, ap (λ c. cond c (tokens_read false [] bs) None) rooted ∙ below.1)

-- ---- it isn't below `$defs`

other_by : (k : Text) (rest : Tokens) (fragment : Text) (same : Bool) → bytes_eq k (codes "$defs") ≡ same
    → pointer_text (k ∷ rest) ≡ fragment → is_none (after_prefix (codes "/$defs") fragment) ≡ true → same ≡ false
other_by k rest fragment false is text none = refl
other_by k rest fragment true is text none =
    let begins = ap (λ t. token_text t ++ pointer_text rest) (sym (is_text-sound k (codes "$defs") is)) ∙ text in
    let wrong : is_none (Some (pointer_text rest)) ≡ true =
    ap (λ t. is_none (after_prefix (codes "/$defs") t)) begins ∙ none in
    absurd (cc)

module _ (fragment : Text) (none : is_none (after_prefix (codes "/$defs") fragment) ≡ true) where
  other_begin : (k : Text) (rest : Tokens) → pointer_text (k ∷ rest) ≡ fragment → bytes_eq k (codes "$defs") ≡ false
  other_begin k rest text =
      let b = bytes_eq k (codes "$defs") in other_by k rest fragment b refl text none

  not_kept : (tokens : Tokens) → pointer_text tokens ≡ fragment → kept_name tokens ≡ None
  not_kept [] text = refl
  not_kept (k ∷ []) text = refl
  not_kept (k ∷ n ∷ []) text =
      ap (λ b. cond (b && not (is_rooted n)) (Some n) None) (other_begin k (n ∷ []) text)
  not_kept (k ∷ n ∷ m ∷ rest) text = refl

  not_same : (tokens : Tokens) → pointer_text tokens ≡ fragment
      → are_same_tokens tokens (defs_tokens fragment) ≡ false
  not_same [] text = refl
  not_same (k ∷ rest) text =
      ap (λ b. b && are_same_tokens rest (fragment ∷ [])) (other_begin k rest text)

-- ---- where it leads

module _ (r : Resource) (fragment : Text) (known : IsCopiedTarget r fragment) where
  path_parts : (list_all is_path_byte fragment ≡ true)
      × (is_none (after_prefix (codes "/$defs") fragment) ≡ true)
  path_parts =
      and_parts (list_all is_path_byte fragment) (is_none (after_prefix (codes "/$defs") fragment))
      (and_parts (is_rooted fragment)
      (list_all is_path_byte fragment && is_none (after_prefix (codes "/$defs") fragment)) known.2).1

  its_pointer : IsPointer fragment
  its_pointer =
      pointer_there fragment (and_parts (is_rooted fragment)
      (list_all is_path_byte fragment && is_none (after_prefix (codes "/$defs") fragment)) known.2).0 path_parts.0

  abbrev tokens : Tokens
  tokens = its_pointer.0

  its_text : pointer_text tokens ≡ fragment
  its_text = pointer_of-sound fragment tokens its_pointer.1

  its_name : copied_name r.copies tokens ≡ Some fragment
  its_name =
      ap (λ k. first_of (option_and_then (if_there r.copies) k) (if_there r.copies (pointer_text tokens)))
      (not_kept fragment path_parts.1 tokens its_text)
      ∙ ap (if_there r.copies) its_text ∙ ap (λ b. cond b (Some fragment) None) known.1

  moved_here : moved_in r tokens ≡ Some (defs_tokens fragment)
  moved_here =
      ap (λ n. moved_tokens One r.dialect r.root (at_copy r.dialect tokens n)) its_name
      ∙ moved_from r.dialect r.root fragment (definitions_of r.dialect r.root) (its_dialect r known.0)
      (its_definitions r known.0) known.3

  module _ (t : Text) (local : local_fragment t ≡ Some fragment) where
    text_here : in_resource t fragment (Some tokens) (Some r) ≡ copied_text fragment
    text_here =
        ap (with_target t tokens) moved_here
        ∙ ap (λ b. cond b t (with_pointer t (defs_tokens fragment)))
        (not_same fragment path_parts.1 tokens its_text)
        ∙ ap (λ u. with_pointer u (defs_tokens fragment)) (is_local t fragment local).0

    utf8 : is_utf8 fragment ≡ true
    utf8 =
        is_utf8-from_IsUtf8 fragment (IsUtf8-from_ascii fragment (all_ascii fragment (is_local t fragment local).2))

    read : Some tokens
        ≡ (if is_utf8 (percent_decode fragment) then pointer_of (percent_decode fragment) else None)
    read =
        sym its_pointer.1
        ∙ sym (ap (λ f. if is_utf8 f then pointer_of f else None) (undecoded fragment path_parts.0)
        ∙ ap (λ b. cond b (pointer_of fragment) None) utf8)

    module _ (all : List Resource) (base : Parts) (number : Option ℕ)
        (named : number ≡ position_from (has_uri (local_uri base)) 0 all)
        (there : Some r ≡ option_and_then (slice_get all) number) where
      pub copy_followed : followed all t (uri_joined base t) ≡ copied_text fragment
      copy_followed =
          sym (local_followed all base t fragment (Some tokens) (Some r) (sym local) read number there named)
          ∙ text_here

      pub copy_leads : target_kind all (uri_joined base t) ≡ None
      copy_leads =
          sym (local_kind all base t fragment (Some tokens) (Some r) (sym local) read number there named)
          ∙ ap (λ o. if is_none o then Some Unresolved else None) moved_here
