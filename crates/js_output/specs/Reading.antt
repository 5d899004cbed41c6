-- What a text is read as: its value, or why it has none.
use Rattle.std.specs.Prelude.{◌≡◌, ℕ, List, Option, Some, None, Result, Ok, Err, Bool}
use Rattle.std.specs.Prelude.{true, false, if◌then◌else◌, ⊤, refl}
use Rattle.std.specs.Str.{is_utf8}
use Rattle.std.proofs.Common.{ap}
use Rattle.std.proofs.lemmas.Str.{is_utf8-from_IsUtf8, IsUtf8-from_is_utf8}
use Rattle.serde_json.specs.Data.{Data}
use Rattle.serde_json.specs.Read.{read as read_json}
use Rattle.js_doc.specs.Value.{Value}
use Rattle.js_doc.specs.WholeNumbers.{Found, value_in}
use Rattle.js_doc.specs.Reading.{IsReadAs, IsReadFault, IsNotJson}
use Rattle.js_doc.specs.declared.reading.ReadFault.{ReadFault}
use Rattle.js_doc.specs.declared.reading.ReadFault.TheVariants.{Memory, NotJson, NotWhole}

abbrev pub whole_value : Found Value → Result Value ReadFault
whole_value (Ok v) = Ok v
whole_value (Err place) = Err (NotWhole place)

-- of what `serde_json` reads, if anything
abbrev pub value_read : Option Data → Result Value ReadFault
value_read None = Err NotJson
value_read (Some d) = whole_value (value_in d)

-- a text is UTF-8 (RFC 8259, section 8.1)
unfoldable pub reading : List ℕ → Result Value ReadFault
reading bytes = if is_utf8 bytes then value_read (read_json bytes) else Err NotJson

-- the fault, or lack of memory, which can come at any time
abbrev pub ReadsWith : Result Value ReadFault → ReadFault → Type 0
ReadsWith found Memory = ⊤
ReadsWith found fault = found ≡ Err fault

-- ---- it is what `js_doc` promises of a text

of_data : (bytes : List ℕ) (found : Found Value) → IsReadAs bytes found → reading bytes ≡ whole_value found
unfolding reading
of_data bytes found (utf8, (d, read, finds)) =
    rw (is_utf8-from_IsUtf8 bytes utf8, read) (ap whole_value finds)

pub reading-ok : (bytes : List ℕ) (v : Value) → IsReadAs bytes (Ok v) → reading bytes ≡ Ok v
reading-ok bytes v h = of_data bytes (Ok v) h

not_json : (bytes : List ℕ) (utf8 : Bool) → is_utf8 bytes ≡ utf8 → IsNotJson bytes
    → (if utf8 then value_read (read_json bytes) else Err NotJson) ≡ Err NotJson
not_json bytes true e h = ap value_read (h (IsUtf8-from_is_utf8 bytes e))
not_json bytes false e h = refl

pub reading-err : (bytes : List ℕ) (fault : ReadFault) → IsReadFault bytes fault → ReadsWith (reading bytes) fault
unfolding reading
reading-err bytes Memory h = tt
reading-err bytes NotJson h = not_json bytes (is_utf8 bytes) refl h
reading-err bytes (NotWhole place) h = of_data bytes (Err place) h
