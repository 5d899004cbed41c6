use Rattle.std.proofs.Common.{◌∷◌, ◌++◌, [], sym, ap, subst, ◌∙◌, rules}
use Rattle.std.proofs.lemmas.List.{length-map}
use Rattle.js_bundle.specs.code.Index.{HasPlaceAdded}
use Rattle.js_bundle.specs.code.Scan.{site_of}
use Rattle.js_bundle.proofs.index.positions.Positions.add_position.Goals as goal

pub returns-clause-positions : goal.returns-clause-positions
returns-clause-positions c =
    let old = c.args.self.now in
    let site = site_of c.args.site.now in
    record {
      index = subst (λ n. HasPlaceAdded old.index site n c.add_place.new.self)
          (sym (length-map c.args.earlier.now site_of)) c.in_ok-add_place.ensures;
      roots = (search rules);
      locations = (search rules) ∙ ap (λ t. old.locations.items ++ t ∷ []) c.in_ok-location.ensures.location;
    }
