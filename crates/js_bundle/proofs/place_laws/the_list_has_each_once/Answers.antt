use Rattle.std.proofs.Common.{[]}
use Rattle.js_bundle.proofs.Listing.PlacesApart.{apart_at}
use Rattle.js_bundle.proofs.place_laws.the_list_has_each_once.Goals as goal

pub returns : goal.returns
returns c = λ number uri root a s. apart_at number uri root [] [] a s
