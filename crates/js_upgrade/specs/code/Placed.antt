-- A value whose schemas are upgraded, with their references rewritten where it is known to what they may lead.
use Rattle.std.specs.Prelude.{List, [], ◌∷◌, Option, Some, None, option_map}
use denote.Ref.{Bor}
use Rattle.url.specs.Parts.{Parts}
use Rattle.js_doc.specs.Parts.{member_list}
use Rattle.js_doc.specs.Value.{Value, list, object, Items, no_items, item, Members, no_members, member}
use Rattle.js_doc.specs.Value.{Text, Values, Named, items, members}
use Rattle.js_upgrade.specs.Reference.{argument_rewritten, as_it_is}
use Rattle.js_upgrade.specs.Resource.{Resource, own_base}
use Rattle.js_upgrade.specs.Schema.{change_of}
use Rattle.js_upgrade.specs.Upgrade.{holding_in, keywords_upgraded, own_dialect}
use Rattle.js_upgrade.specs.code.Table.{all_of}
use Rattle.js_upgrade.specs.declared.dialect.Dialect.{Dialect}
use Rattle.js_upgrade.specs.declared.holding.SchemaHolding.{SchemaHolding}
use Rattle.js_upgrade.specs.declared.holding.SchemaHolding.TheVariants.{One, Listed, Named as ByName, OneOrListed}
use Rattle.js_upgrade.specs.declared.keyword.Change.{Change}
use Rattle.js_upgrade.specs.declared.scope.Scope.{Scope}

-- among which resources, and below which base; none where references stay
abbrev pub ScopeSeen : Type 0
ScopeSeen = Option (List Resource × Parts)

abbrev pub scope_seen : Scope → List Resource × Parts
scope_seen scope = (all_of scope.resources.now, scope.base.now)

abbrev pub scope_at : Option (Bor Scope) → ScopeSeen
scope_at scope = option_map (λ s. scope_seen s.now) scope

abbrev pub argument_at : ScopeSeen → Change → Value → Value → Value
argument_at None change v w = w
argument_at (Some p) change v w = argument_rewritten p.0 change p.1 v w

-- in a schema of this dialect
abbrev pub place_below : ScopeSeen → Dialect → Named → ScopeSeen
place_below None own siblings = None
place_below (Some p) own siblings = Some (p.0, own_base own p.1 siblings)

abbrev mutual
  pub placed : SchemaHolding → Dialect → ScopeSeen → Value → Value
  placed One d p (object ms) =
      let own = own_dialect d (member_list ms) in
      let q = place_below p own (member_list ms) in
      object (members (keywords_upgraded own (member_list ms) (members_placed (holding_in own (member_list ms))
      (λ name. argument_at q (change_of own (member_list ms) name)) own q ms)))
  placed OneOrListed d p (object ms) =
      let own = own_dialect d (member_list ms) in
      let q = place_below p own (member_list ms) in
      object (members (keywords_upgraded own (member_list ms) (members_placed (holding_in own (member_list ms))
      (λ name. argument_at q (change_of own (member_list ms) name)) own q ms)))
  placed ByName d p (object ms) = object (members (members_placed (λ name. One) as_it_is d p ms))
  placed Listed d p (list vs) = list (items (items_placed d p vs))
  placed OneOrListed d p (list vs) = list (items (items_placed d p vs))
  placed _ d p v = v

  pub items_placed : Dialect → ScopeSeen → Items → Values
  items_placed d p no_items = []
  items_placed d p (item v vs) = placed One d p v ∷ items_placed d p vs

  -- each under its name, as its keyword has it
  pub members_placed : (Text → SchemaHolding) → (Text → Value → Value → Value) → Dialect → ScopeSeen → Members → Named
  members_placed held argument d p no_members = []
  members_placed held argument d p (member name v ms) =
      (name, argument name v (placed (held name) d p v)) ∷ members_placed held argument d p ms

-- the keywords of a schema of this dialect, at its own place
abbrev pub keywords_placed : Dialect → ScopeSeen → Named → Named
keywords_placed own q siblings =
    keywords_upgraded own siblings (members_placed (holding_in own siblings)
    (λ name. argument_at q (change_of own siblings name)) own q (members siblings))
