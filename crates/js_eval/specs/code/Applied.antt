-- What contracts see of the walk's applications: a place's number stands for the place.
use Rattle.std.specs.Prelude.{ℕ, unwrap_or}
use Rattle.js_doc.specs.Seen.{value_of}
use Rattle.js_doc.specs.Members.{get}
use Rattle.js_doc.specs.Value.{Value, Named, text}
use Rattle.js_bundle.specs.Document.{Documents}
use Rattle.js_bundle.specs.Resource.{Site}
use Rattle.js_eval.specs.Applications.{Application}
use Rattle.js_eval.specs.Bundle.{schemas_of}
use Rattle.js_eval.specs.code.Standing.{IsSchemaAt}
use Rattle.js_eval.specs.SchemaSet.{Step, Alone, Index, Name}
use Rattle.js_eval.specs.Seen.{step_of, instance_of}
use Rattle.js_eval.specs.Sited.{numbered_site}
use Rattle.js_eval.specs.declared.instance.Applied.{Applied}
use Rattle.js_eval.specs.declared.cursors.application.Subschemas.{Subschemas}
use Rattle.js_eval.specs.declared.cursors.application.Subschemas.TheVariants.{One, Each}
use Rattle.js_eval.specs.declared.cursors.application.AppliedTo.{AppliedTo}
use Rattle.js_eval.specs.declared.cursors.application.AppliedTo.TheVariants as to

abbrev pub applied_of : Documents → Applied → Application Site
applied_of documents a = record
    { place = numbered_site documents a.place; step = step_of a.step; at = step_of a.at; value = instance_of a.value }

-- ---- the schema for the part of a value to which a step leads

-- the stored place, and the schema there
abbrev pub kept_place : Subschemas → ℕ
kept_place (One place schema) = place
kept_place (Each place schema keyword) = place

abbrev pub kept_schema : Subschemas → Value
kept_schema (One place schema) = value_of schema.now
kept_schema (Each place schema keyword) = value_of schema.now

abbrev pub IsHeld : Documents → Subschemas → Type 0
IsHeld documents held = IsSchemaAt documents (kept_place held) (kept_schema held)

abbrev pub site_in : Documents → Subschemas → Step → Site
site_in documents (One place schema) step = numbered_site documents place
site_in documents (Each place schema keyword) step =
    (schemas_of documents).below (numbered_site documents place) keyword.now step

abbrev pub step_in : Subschemas → Step → Step
step_in (One place schema) step = Alone
step_in (Each place schema keyword) step = step

-- ---- what it is applied to

-- the member with this name; the part itself, if no member has it
abbrev pub namesake : Named → Step → Value → Value
namesake members (Name name) part = unwrap_or (get name members) part
namesake members Alone part = part
namesake members (Index i) part = part

abbrev pub at_in : AppliedTo → Step → Step
at_in to.Part step = step
at_in to.Name step = step
at_in (to.Whole value) step = Alone

abbrev pub applied_value : AppliedTo → Step → Value → Value
applied_value to.Part step part = part
applied_value to.Name (Name name) part = text name
applied_value to.Name Alone part = part
applied_value to.Name (Index i) part = part
applied_value (to.Whole value) step part = instance_of value

abbrev pub applied : Documents → Subschemas → AppliedTo → Step → Value → Application Site
applied documents held on step part =
    record {
      place = site_in documents held step;
      step = step_in held step;
      at = at_in on step;
      value = applied_value on step part;
    }
