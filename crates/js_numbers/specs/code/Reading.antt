-- Why `json` doesn't read a text, as an error of this crate.
use Rattle.json.specs.declared.error.Error.{Error}
use Rattle.json.specs.declared.error.Error.TheVariants.{Invalid, OutOfMemory, TooLong, DuplicateKey}
use Rattle.js_numbers.specs.declared.error.TextError.{TextError}
use Rattle.js_numbers.specs.declared.error.TextError.TheVariants.{Memory, NotJson, RepeatedName}

abbrev pub text_error : Error → TextError
text_error Invalid = NotJson
text_error DuplicateKey = RepeatedName
text_error OutOfMemory = Memory
text_error TooLong = Memory
