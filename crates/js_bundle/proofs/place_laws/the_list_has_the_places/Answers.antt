use Rattle.js_bundle.proofs.Listing.LeastSetListed.{listing}
use Rattle.js_bundle.proofs.place_laws.the_list_has_the_places.Goals as goal

pub returns : goal.returns
returns c = listing
