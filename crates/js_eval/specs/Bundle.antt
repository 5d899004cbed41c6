-- The set of schemas that documents make: its places are those of the documents, and what it answers of them are
-- js_bundle's definitions. Where no place is found it answers the place itself. In documents that are accepted that
-- never happens to a keyword that asks (`NothingStandsIn` in Laws).
use Rattle.std.specs.Prelude.{unwrap_or, option_to_list}
use Rattle.js_bundle.specs.Document.{Documents}
use Rattle.js_bundle.specs.Location.{absolute_location}
use Rattle.js_bundle.specs.Resource.{Site, sites}
use Rattle.js_bundle.specs.Schemas as bundle
use Rattle.js_bundle.specs.Target.{ref_target, dynamic_ref_target}
use Rattle.js_eval.specs.SchemaSet.{SchemaSet}

abbrev pub schemas_of : Documents → SchemaSet Site
schemas_of documents =
    record {
      schema = λ place. place.schema;
      below = λ place keyword step. unwrap_or (bundle.below documents place keyword step) place;
      target = λ place. unwrap_or (ref_target (sites documents) place) place;
      dynamic_target = λ path place. unwrap_or (dynamic_ref_target (sites documents) path place) place;
      absolute = λ place keyword. absolute_location place (option_to_list keyword);
    }
