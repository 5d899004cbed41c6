-- What the walk of a keyword, or of a schema, ends with: it is evaluated, or no result of it is within the limits.
use Rattle.std.specs.Prelude.{ℕ, Bool, List, Option, Result, MatchResult, map, drop}
use Rattle.js_doc.specs.Value.{Value}
use Rattle.js_tree.specs.Events.{Event}
use Rattle.js_eval.specs.Applications.{Application}
use Rattle.js_eval.specs.Keywords.{Member}
use Rattle.js_eval.specs.SchemaSet.{Text, SchemaSet}
use Rattle.js_eval.specs.Walk.Steps.{KeywordDone, NodeDone}
use Rattle.js_eval.specs.Walk.Progress.{HasNone, KeywordHasNone, asked_by}
use Rattle.js_eval.specs.Fault.{OnTooLarge}
use Rattle.js_eval.specs.declared.evaluation.fault.WalkFault.{WalkFault}
use Rattle.js_eval.specs.declared.evaluation.tally.KeywordVerdict.{KeywordVerdict}
use Rattle.js_eval.specs.declared.evaluation.tally.Known.{Known}
use Rattle.js_eval.specs.declared.evaluation.walk_state.Start.{Start}
use Rattle.js_eval.specs.declared.evaluation.walk_state.WalkState.{WalkState}

-- the applications that a keyword asks for, of what has been evaluated since its schema's node opened
abbrev pub asked_since : {M H K P : Type 0} → SchemaSet P → (M → Text) → ℕ → List P → P → Value → Member → Option Bool
    → Start → WalkState M H K → List (Application P)
asked_since S text_of n path place v k condition start w =
    asked_by S n path place v k condition (map text_of (drop start.names w.names.items))
    (drop start.indexes w.indexes.items)

module _ {M H K C P : Type 0} (S : SchemaSet P) (text_of : M → Text) (takes : C → Event → C → Type 0) where
  abbrev pub KeywordEnds : (n : ℕ) (path : List P) (place : P) (v : Value) (k : Member) (known : Known) (start : Start)
      (result : Result KeywordVerdict WalkFault) (w w' : WalkState M H K) (c d : C) → Type 0
  KeywordEnds n path place v k known start result w w' c d =
      MatchResult result
      (λ j. KeywordDone S text_of takes n path place v k known.matching
      (asked_since S text_of n path place v k known.condition start w) j w w' c d)
      (λ e. OnTooLarge e (KeywordHasNone S n path place v k
      (asked_since S text_of n path place v k known.condition start w) w.left))

  abbrev pub NodeEnds : (n : ℕ) (above : List P) (place : P) (v : Value) (result : Result Bool WalkFault)
      (w w' : WalkState M H K) (c d : C) → Type 0
  NodeEnds n above place v result w w' c d =
      MatchResult result
      (λ valid. NodeDone S text_of takes n above place v valid w w' c d)
      (λ e. OnTooLarge e (HasNone S n above place v w.left))
