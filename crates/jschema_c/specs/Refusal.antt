-- A refusal as C sees it: the numbers of why and of what is refused, that of the document, and the place as the text of
-- a JSON Pointer.
use Rattle.std.specs.Prelude.{◌≡◌, ℕ, List, [], ⊤}
use Rattle.js_bundle.specs.declared.refusal.EntryFault.{EntryFault}
use Rattle.js_bundle.specs.declared.refusal.EntryFault.TheVariants as entry
use Rattle.js_bundle.specs.declared.refusal.RefusalKind.{RefusalKind}
use Rattle.js_bundle.specs.declared.refusal.RefusalKind.TheVariants as kind
use Rattle.js_doc.specs.Pointer.{Tokens, pointer_text}
use Rattle.js_doc.specs.declared.reading.ReadFault.{ReadFault}
use Rattle.js_doc.specs.declared.reading.ReadFault.TheVariants as read
use Rattle.js_output.specs.declared.fault.Fault.{Fault}
use Rattle.js_output.specs.declared.fault.Fault.TheVariants as fault
use Rattle.js_output.specs.declared.fault.SuiteFault.{SuiteFault}
use Rattle.js_output.specs.declared.fault.SuiteFault.TheVariants as suite
use Rattle.jschema_c.specs.declared.refusal.RefusalParts.{RefusalParts}

-- a fault of an input, and not of memory or a device
abbrev pub IsRefusal : Fault → Type 0
IsRefusal fault.Memory = ⊥
IsRefusal fault.Read = ⊥
IsRefusal fault.Write = ⊥
IsRefusal _ = ⊤

-- ---- why

-- in the order of the kinds; 0 where memory ran out
abbrev pub kind_number : RefusalKind → ℕ
kind_number kind.Memory = 0
kind_number kind.NotJson = 1
kind_number kind.NotWhole = 2
kind_number kind.BadUri = 3
kind_number kind.TooManyDocuments = 4
kind_number kind.UriTooLong = 5
kind_number kind.NotASchema = 6
kind_number kind.BadKeyword = 7
kind_number kind.BadPattern = 8
kind_number kind.PatternTooLarge = 9
kind_number kind.BadId = 10
kind_number kind.BadAnchor = 11
kind_number kind.UnknownDialect = 12
kind_number kind.DuplicateUri = 13
kind_number kind.DuplicateAnchor = 14
kind_number kind.TooManyPlaces = 15
kind_number kind.BadReference = 16
kind_number kind.Unresolved = 17

abbrev pub input_too_large : ℕ
input_too_large = 18

abbrev pub too_large : ℕ
too_large = 19

abbrev pub bad_suite : ℕ
bad_suite = 20

abbrev pub read_number : ReadFault → ℕ
read_number read.Memory = kind_number kind.Memory
read_number read.NotJson = kind_number kind.NotJson
read_number (read.NotWhole place) = kind_number kind.NotWhole

abbrev pub entry_number : EntryFault → ℕ
entry_number entry.Memory = kind_number kind.Memory
entry_number entry.BadUri = kind_number kind.BadUri
entry_number entry.UriTooLong = kind_number kind.UriTooLong
entry_number entry.Unresolved = kind_number kind.Unresolved

abbrev pub suite_number : SuiteFault → ℕ
suite_number suite.NotJson = kind_number kind.NotJson
suite_number (suite.BadSuite place) = bad_suite

abbrev pub refusal_number : Fault → ℕ
refusal_number fault.InputTooLarge = input_too_large
refusal_number (fault.Refused r) = kind_number r.kind
refusal_number (fault.Instance e) = read_number e
refusal_number (fault.Entry e) = entry_number e
refusal_number fault.TooLarge = too_large
refusal_number (fault.Suite e) = suite_number e
refusal_number _ = kind_number kind.Memory

-- ---- what

abbrev pub subject_number : Fault → ℕ
subject_number fault.InputTooLarge = 1
subject_number (fault.Refused r) = 2
subject_number (fault.Entry e) = 3
subject_number (fault.Instance e) = 4
subject_number fault.TooLarge = 5
subject_number (fault.Suite e) = 6
subject_number _ = 0

-- ---- where

-- of an input that is no document: the greatest number of 64 bits
abbrev pub no_document : ℕ
no_document = 18446744073709551615

abbrev pub document_number : Fault → ℕ
document_number (fault.Refused r) = r.document
document_number _ = no_document

abbrev pub read_place : ReadFault → Tokens
read_place (read.NotWhole place) = place
read_place _ = []

abbrev pub suite_place : SuiteFault → Tokens
suite_place (suite.BadSuite place) = place
suite_place _ = []

-- the root where nothing says more
abbrev pub refusal_place : Fault → Tokens
refusal_place (fault.Refused r) = r.place
refusal_place (fault.Instance e) = read_place e
refusal_place (fault.Suite e) = suite_place e
refusal_place _ = []

-- ---- together

pub record HasParts (why what owner : ℕ) (tokens : Tokens) (p : RefusalParts) : Type 0 where
  pub kind : p.kind ≡ why
  pub subject : p.subject ≡ what
  pub document : p.document ≡ owner
  pub place : p.place.items ≡ pointer_text tokens

abbrev pub AreParts : Fault → RefusalParts → Type 0
AreParts f = HasParts (refusal_number f) (subject_number f) (document_number f) (refusal_place f)
