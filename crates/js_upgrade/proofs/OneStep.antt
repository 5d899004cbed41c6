-- What stands at tokens, step by step.
use Rattle.std.proofs.Common.{◌≡◌, ℕ, ◌+◌, ◌<◌, List, [], ◌∷◌, ◌++◌, Option, Some, None, option_map, option_and_then}
use Rattle.std.proofs.Common.{get_or, length, drop, refl, sym, ap, ◌∙◌, append_assoc, true, false, Bool, cond}
use Rattle.std.proofs.Common.{codes, map}
use Rattle.std.specs.List.{list_any}
use Rattle.std.proofs.lemmas.List.{append-nil, drop_more}
use Rattle.js_doc.specs.Lookup.{at, part_named}
use Rattle.js_doc.specs.Pointer.{Tokens}
use Rattle.js_doc.specs.Seen.{value_of}
use Rattle.js_doc.specs.Value.{Value, list, items, Text, Values}
use Rattle.js_doc.specs.declared.doc.Doc.{Doc}
use Rattle.js_doc.proofs.PartLists.{item_list-items}
use Rattle.js_doc.proofs.TokenLookup.{member_is}
use Rattle.js_upgrade.specs.Moved.{alternative_under, both, just, listed_under, moved_tokens, negated, step}
use Rattle.js_upgrade.specs.Moved.{types_under}
use Rattle.js_upgrade.specs.Schema.{is_any}
use Rattle.js_upgrade.specs.code.Pushed.{IsPushed, IsStepped}
use Rattle.js_upgrade.specs.declared.dialect.Dialect.{Dialect}
use Rattle.js_upgrade.specs.declared.holding.SchemaHolding.{SchemaHolding}
use Rattle.js_upgrade.specs.declared.moving.Held.{Held}
use Rattle.js_upgrade.proofs.Alternatives.{any_map}

some_or_none : {A : Type 0} (found : Option A) → option_and_then (λ x. Some x) found ≡ found
some_or_none None = refl
some_or_none (Some x) = refl

pub at_one : (token : Text) (v : Value) → at (token ∷ []) v ≡ part_named token v
at_one token v = some_or_none (part_named token v)

pub ruleset part_rules = (member_is, at_one)

-- ---- what stands in place of a keyword's name

pub listed_some : (name : Text) (other : Tokens) (vs : Values) → ¬ (vs ≡ [])
    → listed_under name other (list (items vs)) ≡ just name
listed_some name other [] some = absurd (some refl)
listed_some name other (v ∷ vs) some = refl

any_by : (vs : Values) (rest : Tokens) → list_any is_any vs ≡ true → types_under (list (items vs)) rest ≡ None
any_by vs [] e = refl
any_by vs (index ∷ rest) e =
    ap (λ b. cond b None (alternative_under (part_named index (list (items vs)))))
    (ap (list_any is_any) (item_list-items vs) ∙ e)

kept : (ds : List Doc) (vs : Values) (b : Bool) → map value_of ds ≡ vs → list_any (λ d. is_any (value_of d)) ds ≡ b
    → list_any is_any vs ≡ b
kept ds vs b is e = ap (list_any is_any) (sym is) ∙ any_map ds ∙ e

pub any_types : (ds : List Doc) (vs : Values) (rest : Tokens) → map value_of ds ≡ vs
    → list_any (λ d. is_any (value_of d)) ds ≡ true → types_under (list (items vs)) rest ≡ None
any_types ds vs rest is e = any_by vs rest (kept ds vs true is e)

pub types_found : (ds : List Doc) (vs : Values) (index : Text) (rest : Tokens) → map value_of ds ≡ vs
    → list_any (λ d. is_any (value_of d)) ds ≡ false
    → types_under (list (items vs)) (index ∷ rest) ≡ alternative_under (part_named index (list (items vs)))
types_found ds vs index rest is e =
    ap (λ b. cond b None (alternative_under (part_named index (list (items vs)))))
    (ap (list_any is_any) (item_list-items vs) ∙ kept ds vs false is e)

-- ---- what is added behind `not`

put_behind : (name : Text) (old new : Tokens) (found : Option Tokens)
    → option_map (λ ts. (old ++ name ∷ []) ++ ts) found ≡ Some new
    → option_map (λ ts. old ++ ts) (option_map (λ ts. name ∷ ts) found) ≡ Some new
put_behind name old new None e = absurd (cc)
put_behind name old new (Some ts) e = ap Some (sym (append_assoc old (name ∷ []) ts)) ∙ e

none_behind : (name : Text) (found : Option Tokens) → found ≡ None → option_map (λ ts. name ∷ ts) found ≡ None
none_behind name found e = ap (option_map (λ ts. name ∷ ts)) e

pub negated_pushed : (old first new : Tokens) (found : Option Tokens) (b : Bool) → first ≡ old ++ codes "not" ∷ []
    → IsPushed first new found b → IsPushed old new (negated found) b
negated_pushed old first new found true is p =
    put_behind (codes "not") old new found (ap (λ ts. option_map (λ us. ts ++ us) found) (sym is) ∙ p)
negated_pushed old first new found false is p = none_behind (codes "not") found p

-- ---- one token more

joins : (out new : Tokens) (into found : Option Tokens) → option_map (λ ts. out ++ ts) into ≡ Some new
    → both (Some out) (both into found) ≡ both (Some new) found
joins out new None found e = absurd (cc)
joins out new (Some ts) None e = refl
joins out new (Some ts) (Some more) e =
    ap Some (sym (append_assoc out ts more)) ∙ ap (option_map (λ us. us ++ more)) e

-- what is left of the tokens, at the part
abbrev onward : SchemaHolding → Dialect → Value → Text → Tokens → Option Value → Option Tokens
onward h d v token rest found =
    option_and_then
    (λ part. both (step h d v token part rest).into
    (moved_tokens (step h d v token part rest).holding (step h d v token part rest).dialect part rest)) found

here : (tokens : Tokens) (i : ℕ) (token : Text) → i < length tokens → token ≡ get_or tokens i token
    → drop i tokens ≡ token ∷ drop (i + 1) tokens
here tokens i token low is = drop_more tokens i token low ∙ ap (λ t. t ∷ drop (i + 1) tokens) (sym is)

-- the next token, where the part is found or isn't
at_token : (h : SchemaHolding) (d : Dialect) (v : Value) (tokens : Tokens) (i : ℕ) (token : Text) (found : Option Value)
    → i < length tokens → token ≡ get_or tokens i token → found ≡ part_named token v
    → moved_tokens h d v (drop i tokens) ≡ onward h d v token (drop (i + 1) tokens) found
at_token h d v tokens i token found low is same =
    ap (moved_tokens h d v) (here tokens i token low is)
    ∙ ap (onward h d v token (drop (i + 1) tokens)) (sym same)

module _ (out : Tokens) (h : SchemaHolding) (d : Dialect) (v : Value) (tokens : Tokens) (i : ℕ) (token : Text)
    (whole : Option Tokens) (low : i < length tokens) (is : token ≡ get_or tokens i token)
    (before : both (Some out) (moved_tokens h d v (drop i tokens)) ≡ whole) where
  pub no_part : None ≡ part_named token v → None ≡ whole
  no_part none = sym (ap (both (Some out)) (at_token h d v tokens i token None low is none)) ∙ before

  pub no_step : (part : Value) → Some part ≡ part_named token v
      → (step h d v token part (drop (i + 1) tokens)).into ≡ None → None ≡ whole
  no_step part same none =
      let rest = drop (i + 1) tokens in
      let s = step h d v token part rest in
      sym (ap (both (Some out)) (at_token h d v tokens i token (Some part) low is same)
      ∙ ap (λ o. both (Some out) (both o (moved_tokens s.holding s.dialect part rest))) none) ∙ before

  pub step_made : (new : Tokens) (held : Held) (part : Value) → Some part ≡ part_named token v
      → IsStepped out new (step h d v token part (drop (i + 1) tokens)) (Some held)
      → both (Some new) (moved_tokens held.holding held.dialect part (drop (i + 1) tokens)) ≡ whole
  step_made new held part same stepped =
      let rest = drop (i + 1) tokens in
      let s = step h d v token part rest in
      ap (λ k. both (Some new) (moved_tokens k held.dialect part rest)) stepped.0
      ∙ ap (λ e. both (Some new) (moved_tokens s.holding e part rest)) stepped.1
      ∙ sym (joins out new s.into (moved_tokens s.holding s.dialect part rest) stepped.2)
      ∙ sym (ap (both (Some out)) (at_token h d v tokens i token (Some part) low is same)) ∙ before

pub all_moved : (out : Tokens) (h : SchemaHolding) (d : Dialect) (v : Value) (left : Tokens) (whole : Option Tokens)
    → left ≡ [] → both (Some out) (moved_tokens h d v left) ≡ whole → Some out ≡ whole
all_moved out h d v left whole none before =
    ap Some (sym (append-nil out)) ∙ sym (ap (λ ts. both (Some out) (moved_tokens h d v ts)) none) ∙ before
