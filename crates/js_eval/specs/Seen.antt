-- What contracts see of the code's types.
use Rattle.std.specs.Prelude.{ℕ, List, map}
use denote.Ref.{Bor}
use Rattle.js_doc.specs.Seen.{value_of}
use Rattle.js_doc.specs.Value.{Value, text}
use Rattle.js_eval.specs.Keywords as table
pub use Rattle.js_bundle.specs.Schemas.{step_of}
use Rattle.js_eval.specs.declared.order.keyword.Member.{Member}
use Rattle.js_eval.specs.declared.instance.Instance.{Instance}
use Rattle.js_eval.specs.declared.instance.Instance.TheVariants.{Doc, Name}

abbrev pub keyword_of : Member → table.Member
keyword_of k = (k.name.now, value_of k.argument.now)

abbrev pub instance_of : Instance → Value
instance_of (Doc d) = value_of d.now
instance_of (Name n) = text n.now

abbrev pub texts_of : List (Bor (List ℕ)) → List (List ℕ)
texts_of names = map (λ name. name.now) names
