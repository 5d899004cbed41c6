-- The scan lists the places: what it hands down is what the places above a place make.
use Rattle.std.proofs.Common.{◌≡◌, ℕ, suc, List, [], ◌∷◌, ◌++◌, map, decimal, refl, sym, ap, ap₂, ◌∙◌}
use Rattle.std.specs.List.{fold}
use Rattle.std.proofs.lemmas.List.{map-append}
use Rattle.url.specs.Parts.{Parts}
use Rattle.js_doc.specs.Pointer.{Tokens}
use Rattle.js_doc.specs.Value.{Value, null, truth, whole, text, list, object, Items}
use Rattle.js_doc.specs.Value.{no_items, item, Members, no_members, member}
use Rattle.js_keyword.specs.declared.argument_form.Holding.{Holding}
use Rattle.js_keyword.specs.declared.argument_form.Holding.TheVariants.{One, Listed, Named, Nothing}
use Rattle.js_bundle.specs.declared.scan.base_scope.BaseScope.{BaseScope}
use Rattle.js_bundle.specs.Document.{Documents}
use Rattle.js_bundle.specs.Place.{Located, SchemaPlace, holding, places_held, places_at, places_of_keywords}
use Rattle.js_bundle.specs.Place.{places_in_list, places_of_items, places_in_object, places_of_members, places_from}
use Rattle.js_bundle.specs.Resource.{Site, site, scope_below, root_scope}
use Rattle.js_bundle.specs.declared.scan.holding.Role.TheVariants.{Keywords, Schemas}
use Rattle.js_bundle.specs.code.Scan.{site_scanned, sites_held, sites_at, sites_in_list, sites_of_items}
use Rattle.js_bundle.specs.code.Scan.{sites_in_object, sites_of_members, sites_from}

fold_last : {A B : Type 0} (f : B → A → B) (b : B) (xs : List A) (x : A) → fold f b (xs ++ x ∷ []) ≡ f (fold f b xs) x
fold_last f b [] x = refl
fold_last f b (y ∷ xs) x = fold_last f (f b y) xs x

held-map : (h : Holding) (a b c : List Site) (p q r : List SchemaPlace) → a ≡ map site p → b ≡ map site q
    → c ≡ map site r → sites_held h a b c ≡ map site (places_held h p q r)
held-map One a b c p q r e f g = e
held-map Listed a b c p q r e f g = f
held-map Named a b c p q r e f g = g
held-map Nothing a b c p q r e f g = refl

both : (a b : List Site) (p q : List SchemaPlace) → a ≡ map site p → b ≡ map site q → a ++ b ≡ map site (p ++ q)
both a b p q e f = ap₂ (λ x y. x ++ y) e f ∙ sym (map-append site p q)

module _ (d : ℕ) (uri : Parts) where
  abbrev scope : List Located → BaseScope
  scope above = fold scope_below (root_scope uri) above

  mutual
    pub kept_at : (v : Value) (above : List Located) (p : Tokens)
        → sites_at d (scope above) p v ≡ map site (places_at d uri above p v)
    kept_at null above p = refl
    kept_at (truth b) above p = refl
    kept_at (whole z) above p = refl
    kept_at (text s) above p = refl
    kept_at (list vs) above p = refl
    kept_at (object ms) above p =
        ap (λ r. site_scanned d (scope above) p (object ms) ∷ r) (ap (λ a. sites_of_members Keywords d a p ms)
        (sym (fold_last scope_below (root_scope uri) above (record { pointer = p; schema = object ms })))
        ∙ kept_keywords ms (above ++ record { pointer = p; schema = object ms } ∷ []) p)

    kept_keywords : (ms : Members) (above : List Located) (p : Tokens)
        → sites_of_members Keywords d (scope above) p ms ≡ map site (places_of_keywords d uri above p ms)
    kept_keywords no_members above p = refl
    kept_keywords (member k v ms) above p =
        let q = p ++ k ∷ [] in
        both
        (sites_held (holding k) (sites_at d (scope above) q v) (sites_in_list d (scope above) q v)
        (sites_in_object d (scope above) q v)) (sites_of_members Keywords d (scope above) p ms)
        (places_held (holding k) (places_at d uri above q v) (places_in_list d uri above q v)
        (places_in_object d uri above q v)) (places_of_keywords d uri above p ms)
        (held-map (holding k) _ _ _ _ _ _ (kept_at v above q) (kept_list v above q) (kept_object v above q))
        (kept_keywords ms above p)

    kept_list : (v : Value) (above : List Located) (p : Tokens)
        → sites_in_list d (scope above) p v ≡ map site (places_in_list d uri above p v)
    kept_list (list vs) above p = kept_items vs above p 0
    kept_list _ above p = refl

    kept_items : (vs : Items) (above : List Located) (p : Tokens) (i : ℕ)
        → sites_of_items d (scope above) p i vs ≡ map site (places_of_items d uri above p i vs)
    kept_items no_items above p i = refl
    kept_items (item v vs) above p i =
        both _ _ _ _ (kept_at v above (p ++ decimal i ∷ [])) (kept_items vs above p (suc i))

    kept_object : (v : Value) (above : List Located) (p : Tokens)
        → sites_in_object d (scope above) p v ≡ map site (places_in_object d uri above p v)
    kept_object (object ms) above p = kept_members ms above p
    kept_object _ above p = refl

    kept_members : (ms : Members) (above : List Located) (p : Tokens)
        → sites_of_members Schemas d (scope above) p ms ≡ map site (places_of_members d uri above p ms)
    kept_members no_members above p = refl
    kept_members (member n v ms) above p = both _ _ _ _ (kept_at v above (p ++ n ∷ [])) (kept_members ms above p)

pub kept_from : (n : ℕ) (ds : Documents) → sites_from n ds ≡ map site (places_from n ds)
kept_from n [] = refl
kept_from n (d ∷ ds) = both _ _ _ _ (kept_at n d.uri d.root [] []) (kept_from (suc n) ds)
