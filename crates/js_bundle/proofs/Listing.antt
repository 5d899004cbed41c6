-- The list of places: what it has, and how the scan makes it.
pub mod LeastSetListed
pub mod PlacesApart
pub mod AllPlaces
pub mod EachListedOnce
pub mod Scanned
pub mod ScanNext
pub mod PlacesCounted
pub mod RootsOfResources
