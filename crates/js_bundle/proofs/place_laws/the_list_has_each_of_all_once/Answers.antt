use Rattle.js_bundle.proofs.Listing.AllPlaces.{each_once}
use Rattle.js_bundle.proofs.place_laws.the_list_has_each_of_all_once.Goals as goal

pub returns : goal.returns
returns c = each_once
