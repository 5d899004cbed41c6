-- The scan, with the base scope of a place passed down to the places below it. `proofs/Scanned` shows that it lists the
-- sites of the places, in their order.
use Rattle.std.specs.Prelude.{◌≡◌, ℕ, suc, List, [], ◌∷◌, ◌++◌, take, decimal, codes, if◌then◌else◌, is_some}
use Rattle.js_doc.specs.Pointer.{Tokens}
use Rattle.js_doc.specs.Seen.{value_of}
use Rattle.js_doc.specs.Value.{Value, list, object, Items, no_items, item, Members, no_members, member}
use Rattle.js_keyword.specs.declared.argument_form.Holding.{Holding}
use Rattle.js_keyword.specs.declared.argument_form.Holding.TheVariants.{One, Listed, Named, Nothing}
use Rattle.js_bundle.specs.declared.scan.holding.Role.{Role}
use Rattle.js_bundle.specs.declared.scan.holding.Role.TheVariants.{Keywords, Schemas}
use Rattle.js_bundle.specs.declared.scan.base_scope.BaseScope.{BaseScope}
use Rattle.js_bundle.specs.declared.scan.site.Site as rust
use Rattle.js_bundle.specs.Document.{Documents}
use Rattle.js_bundle.specs.Keyword.{Text, has_argument}
use Rattle.js_bundle.specs.Place.{holding}
use Rattle.js_bundle.specs.Resource.{Site, sites, identified, scope_below, root_scope}

abbrev pub site_of : rust.Site → Site
site_of s = record {
  document = s.document;
  pointer = s.pointer.value;
  above = s.above.value;
  own = s.own.value;
  identifies = s.identifies;
  schema = value_of s.schema.now;
}

-- ---- the scan, with the scope passed down

abbrev pub passed_down : BaseScope → Tokens → Value → BaseScope
passed_down above p v = scope_below above (record { pointer = p; schema = v })

abbrev pub own_scope : BaseScope → Tokens → Value → BaseScope
own_scope above p v = record
    { resource = if has_argument (codes "$id") v then p else above.resource; base = (passed_down above p v).base }

abbrev pub site_scanned : ℕ → BaseScope → Tokens → Value → Site
site_scanned d above p v = record {
  document = d;
  pointer = p;
  above = above;
  own = own_scope above p v;
  identifies = is_some (identified above.base v);
  schema = v;
}

-- how a member holds schemas: by its name if it is a keyword
abbrev pub holding_as : Role → Text → Holding
holding_as Keywords name = holding name
holding_as Schemas name = One

abbrev pub sites_held : Holding → List Site → List Site → List Site → List Site
sites_held One one listed named = one
sites_held Listed one listed named = listed
sites_held Named one listed named = named
sites_held Nothing one listed named = []

abbrev mutual
  pub sites_at : ℕ → BaseScope → Tokens → Value → List Site
  sites_at d above p (object ms) = site_scanned d above p (object ms)
      ∷ sites_of_members Keywords d (passed_down above p (object ms)) p ms
  sites_at d above p v = site_scanned d above p v ∷ []

  pub sites_of_members : Role → ℕ → BaseScope → Tokens → Members → List Site
  sites_of_members r d above p no_members = []
  sites_of_members r d above p (member k v ms) =
      sites_held (holding_as r k) (sites_at d above (p ++ k ∷ []) v) (sites_in_list d above (p ++ k ∷ []) v)
      (sites_in_object d above (p ++ k ∷ []) v)
      ++ sites_of_members r d above p ms

  pub sites_in_list : ℕ → BaseScope → Tokens → Value → List Site
  sites_in_list d above p (list vs) = sites_of_items d above p 0 vs
  sites_in_list d above p _ = []

  pub sites_of_items : ℕ → BaseScope → Tokens → ℕ → Items → List Site
  sites_of_items d above p i no_items = []
  sites_of_items d above p i (item v vs) = sites_at d above (p ++ decimal i ∷ []) v
      ++ sites_of_items d above p (suc i) vs

  pub sites_in_object : ℕ → BaseScope → Tokens → Value → List Site
  sites_in_object d above p (object ms) = sites_of_members Schemas d above p ms
  sites_in_object d above p _ = []

-- the sites of what one member holds
abbrev pub sites_of_member : Role → ℕ → BaseScope → Tokens → Text → Value → List Site
sites_of_member r d above p k v = sites_held (holding_as r k) (sites_at d above (p ++ k ∷ []) v)
    (sites_in_list d above (p ++ k ∷ []) v) (sites_in_object d above (p ++ k ∷ []) v)

abbrev pub sites_from : ℕ → Documents → List Site
sites_from n [] = []
sites_from n (d ∷ ds) = sites_at n (root_scope d.uri) [] d.root ++ sites_from (suc n) ds

-- ---- a scan that may stop

-- no more sites are listed: one above the most places that a bundle may have
abbrev pub most_sites : ℕ
most_sites = 100001

-- the lists agree as far as that
pub record SameFront (xs ys : List Site) : Type 0 where
  pub front : take most_sites xs ≡ take most_sites ys

-- what the scan answers: the sites of the places, as many as that
unfoldable pub scanned : Documents → List Site
scanned documents = take most_sites (sites documents)
