use Rattle.js_bundle.proofs.Listing.AllPlaces.{lists_all_places}
use Rattle.js_bundle.proofs.place_laws.the_list_has_the_places_of_all.Goals as goal

pub returns : goal.returns
returns c = lists_all_places
