-- Where what stands in an upgraded value comes from in the value as it was: token by token, back by the same tables.
use Rattle.std.specs.Prelude.{[], ◌∷◌, ◌++◌, Bool, ◌||◌, Option, Some, None, codes, bytes_eq}
use Rattle.std.specs.Prelude.{option_and_then, option_map, if◌then◌else◌}
use Rattle.js_doc.specs.Lookup.{part_named}
use Rattle.js_doc.specs.Members.{get}
use Rattle.js_doc.specs.Parts.{member_list}
use Rattle.js_doc.specs.Pointer.{Tokens}
use Rattle.js_doc.specs.Value.{Value, text, list, object, Text, Named}
use Rattle.js_upgrade.specs.Apart.{copy_of}
use Rattle.js_upgrade.specs.CopyName.{place_named}
use Rattle.js_upgrade.specs.Dialect.{first_of}
use Rattle.js_upgrade.specs.Origin.{origin}
use Rattle.js_upgrade.specs.Schema.{change_of}
use Rattle.js_upgrade.specs.Upgrade.{document_dialect, holding_by_change, own_dialect}
use Rattle.js_upgrade.specs.declared.dialect.Dialect.{Dialect}
use Rattle.js_upgrade.specs.declared.holding.SchemaHolding.{SchemaHolding}
use Rattle.js_upgrade.specs.declared.holding.SchemaHolding.TheVariants.{One, Listed, Named as ByName, OneOrListed}
use Rattle.js_upgrade.specs.declared.holding.SchemaHolding.TheVariants.{Nothing}
use Rattle.js_upgrade.specs.declared.keyword.Change.{Change}
use Rattle.js_upgrade.specs.declared.keyword.Change.TheVariants.{Contains, Dependencies, Disallowed, Extended}
use Rattle.js_upgrade.specs.declared.keyword.Change.TheVariants.{Properties, Types}
use Rattle.js_upgrade.specs.declared.originals.Way.{Way}
use Rattle.js_upgrade.specs.declared.originals.Way.TheVariants.{Alternatives, Held, Names, Negated, Within, Wrapped}

-- ---- one token back

-- the value that the token leads to, how it is read on, the dialect there, and what stands in place of the token
pub record Back : Type 0 where
  pub way : Way
  pub dialect : Dialect
  pub value : Value
  pub into : Tokens

-- the upgrade put the token in front of the value
abbrev pub stay : Way → Dialect → Value → Option Back
stay w d v = Some (record { way = w; dialect = d; value = v; into = [] })

-- the part stands under the name
abbrev pub lead : Way → Dialect → Text → Option Value → Option Back
lead w d name found =
    option_map (λ part. record { way = w; dialect = d; value = part; into = name ∷ [] }) found

-- how the argument of a keyword is read that has become the one with this name
abbrev pub way_of : Text → Change → Way
way_of name Types = Alternatives
way_of name Extended = Alternatives
way_of name Disallowed = Negated
way_of name Dependencies = if bytes_eq name (codes "dependentRequired") then Names else Held ByName
way_of name Properties = if bytes_eq name (codes "required") then Within else Held ByName
way_of name change = Held (holding_by_change change)

-- the argument of the keyword with this name, of which the one with the other name was made
abbrev pub argument_back : Dialect → Value → Text → Text → Option Value → Change → Option Back
argument_back d v new name None change = None
argument_back d v new name (Some argument) Contains = stay Wrapped d v
argument_back d v new name (Some argument) change = lead (way_of new change) d name (Some argument)

abbrev pub keyword_from : Dialect → Named → Value → Text → Text → Option Back
keyword_from d siblings v new name = argument_back d v new name (get name siblings) (change_of d siblings name)

abbrev pub keyword_back : Dialect → Named → Value → Text → Option Back
keyword_back d siblings v new = keyword_from d siblings v new (origin d siblings new)

-- in the value, as it is held; in a type's name stands what was made of it
abbrev pub held_back : SchemaHolding → Dialect → Value → Text → Option Back
held_back One d (object ms) token =
    keyword_back (own_dialect d (member_list ms)) (member_list ms) (object ms) token
held_back OneOrListed d (object ms) token =
    keyword_back (own_dialect d (member_list ms)) (member_list ms) (object ms) token
held_back ByName d (object ms) token = lead (Held One) d token (part_named token (object ms))
held_back Listed d (list vs) token = lead (Held One) d token (part_named token (list vs))
held_back OneOrListed d (list vs) token = lead (Held One) d token (part_named token (list vs))
held_back One d (text s) token = stay Within d (text s)
held_back h d v token = lead (Held Nothing) d token (part_named token v)

-- an item, or the value as the only one
abbrev pub item_back : Dialect → Value → Text → Option Back
item_back d (list vs) token = lead (Held One) d token (part_named token (list vs))
item_back d v token = stay (Held One) d v

-- the tokens in front of `contains` of 2019-09 and its limits
abbrev pub is_wrapper : Text → Bool
is_wrapper token = bytes_eq token (codes "0") || bytes_eq token (codes "not")

abbrev pub step_back : Way → Dialect → Value → Text → Option Back
step_back (Held h) d v token = held_back h d v token
step_back Alternatives d v token = item_back d v token
step_back Negated d v token = stay Alternatives d v
step_back Wrapped d v token =
    if is_wrapper token then stay Wrapped d v else lead (Held One) d token (part_named token v)
step_back Names d v token = lead Within d token (part_named token v)
step_back Within d v token = stay Within d v

-- ---- all tokens

-- what is around `contains` comes from it
abbrev pub at_end : Way → Tokens
at_end Wrapped = codes "contains" ∷ []
at_end w = []

abbrev pub joined_tokens : Tokens → Option Tokens → Option Tokens
joined_tokens before found = option_map (λ more. before ++ more) found

-- none where nothing stands at the tokens
abbrev pub original : Way → Dialect → Value → Tokens → Option Tokens
original w d v [] = Some (at_end w)
original w d v (token ∷ rest) =
    option_and_then (λ b. joined_tokens b.into (original b.way b.dialect b.value rest)) (step_back w d v token)

-- ---- in a document, which may have copies of what its references lead to

abbrev pub if_named : Text → Text × Value → Option Value
if_named name m = if bytes_eq name m.0 then Some m.1 else None

-- what stands there, if it is copied under the name
abbrev pub copied_part : Dialect → Value → Text → Tokens → Option Value
copied_part d root name place = option_and_then (if_named name) (copy_of d root place)

abbrev pub copy_original : Dialect → Value → Text → Tokens → Tokens → Option Tokens
copy_original d root name rest place =
    option_and_then (λ v. joined_tokens place (original (Held One) d v rest)) (copied_part d root name place)

-- at the copy itself, or further down
abbrev pub copied_original : Dialect → Value → Tokens → Option Tokens
copied_original d root (keyword ∷ name ∷ rest) =
    if bytes_eq keyword (codes "$defs")
    then option_and_then (copy_original d root name rest) (place_named name) else None
copied_original d root _ = None

abbrev pub original_from : Dialect → Value → Tokens → Option Tokens
original_from d root tokens = first_of (copied_original d root tokens) (original (Held One) d root tokens)

-- none where the dialect isn't known
abbrev pub original_in : Dialect → Value → Tokens → Option Tokens
original_in assumed root tokens = option_and_then (λ d. original_from d root tokens) (document_dialect assumed root)
