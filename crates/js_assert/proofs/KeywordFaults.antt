-- A fault of a keyword is one of its name.
use Rattle.std.proofs.Common.{◌≡◌, ℕ, List, Some, ap, ◌∙◌}
use Rattle.js_doc.specs.Value.{Value}
use Rattle.js_keyword.proofs.KeywordNames.{named-name_of}
use Rattle.js_keyword.specs.AssertionKeyword.{keyword_named}
use Rattle.js_keyword.specs.declared.assertion_keyword.AssertionKeyword.{AssertionKeyword}
use Rattle.js_keyword.specs.declared.assertion_keyword.AssertionKeyword.TheVariants.{String}
use Rattle.js_keyword.specs.declared.assertion_keyword.StringKeyword.TheVariants.{Pattern}
use Rattle.js_assert.specs.Shape.{IsFaultOf, IsKeywordFault}
use Rattle.js_assert.specs.declared.fault.KeywordFault.{KeywordFault}
use Rattle.js_assert.specs.declared.fault.KeywordFault.TheVariants.{Memory, BadKeyword, NotAPattern, PatternTooLarge}

pub fault-by_name : (name : List ℕ) (argument : Value) (k : AssertionKeyword) (f : KeywordFault)
    → keyword_named name ≡ Some k → IsFaultOf k argument f → IsKeywordFault name argument f
fault-by_name name argument k Memory e h = tt
fault-by_name name argument k BadKeyword e h = rw e h
fault-by_name name argument k NotAPattern e h =
    (named-name_of name (String Pattern) (e ∙ ap Some h.0), rw (e, h.0) h.1, h.2)
fault-by_name name argument k PatternTooLarge e h =
    (named-name_of name (String Pattern) (e ∙ ap Some h.0), rw (e, h.0) h.1, h.2)
