-- What contracts see of the code's notes.
use Rattle.js_doc.specs.Seen.{value_of}
use Rattle.js_tree.specs.Note as spec
use Rattle.js_tree.specs.declared.note.Note.{Note}
use Rattle.js_tree.specs.declared.note.Note.TheVariants as note

abbrev pub note_of : Note → spec.Note
note_of note.Silent = spec.silent
note_of (note.Error reason) = spec.error reason
note_of (note.Value value) = spec.value (value_of value.now)
note_of (note.Names names) = spec.names names
note_of (note.Index index) = spec.index index
note_of (note.Indexes indexes) = spec.indexes indexes
note_of note.Truth = spec.truly
