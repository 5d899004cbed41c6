-- What holds of each value that is in memory.
use Rattle.js_doc.specs.Value.{Value}
use Rattle.js_doc.specs.Members.{NamesAscend}
use Rattle.js_doc.specs.Short.{IsShort}

-- at each level an object's names ascend, each once, and a list has fewer than 2^64 items
abbrev pub IsLawful : Value → Type 0
IsLawful v = NamesAscend v × IsShort v
