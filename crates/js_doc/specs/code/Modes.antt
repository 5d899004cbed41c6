-- What the bytes passed have led into, as the lexer's mode.
use Rattle.json.specs.Lex.{Mode, between, in_word, in_string, in_escape}
use Rattle.js_doc.specs.declared.positions.starts.Within.{Within}
use Rattle.js_doc.specs.declared.positions.starts.Within.TheVariants.{Nothing, Word, Quotes, Escape}

abbrev pub mode_of : Within → Mode
mode_of Nothing = between
mode_of Word = in_word
mode_of Quotes = in_string
mode_of Escape = in_escape
