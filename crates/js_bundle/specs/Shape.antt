-- The shape of each argument that isn't an assertion's (JSON Schema Core, sections 8, 10 and 11).
use Rattle.std.specs.Prelude.{Bool, true, false, ◌||◌}
use Rattle.js_doc.specs.Value.{Value, list, object, item}
use Rattle.js_keyword.specs.declared.argument_form.ArgumentForm.{ArgumentForm}
use Rattle.js_keyword.specs.declared.argument_form.ArgumentForm.TheVariants as form
use Rattle.js_keyword.specs.Keyword.{row_of, which_keyword}
use Rattle.js_assert.specs.Shape.{is_boolean, is_string}
use Rattle.js_bundle.specs.Keyword.{Text}

abbrev pub is_filled_list : Value → Bool
is_filled_list (list (item v vs)) = true
is_filled_list _ = false

abbrev pub is_object : Value → Bool
is_object (object ms) = true
is_object _ = false

-- a schema is an object or a boolean (section 4.3)
abbrev pub is_schema : Value → Bool
is_schema v = is_object v || is_boolean v

-- The lists of schemas aren't empty. What holds one schema takes any value here: whether it is a schema is asked of the
-- place.
abbrev pub has_form : ArgumentForm → Value → Bool
has_form form.Text argument = is_string argument
has_form form.ListedSchemas argument = is_filled_list argument
has_form form.NamedSchemas argument = is_object argument
has_form form.OneSchema argument = true
has_form form.Anything argument = true

abbrev pub is_shaped : Text → Value → Bool
is_shaped name argument = has_form (row_of (which_keyword name)).form argument
