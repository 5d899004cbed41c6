-- What a handle owns beside its fields: the box at its pointer if it holds a value, and otherwise nothing. Its flag
-- says which.
use Rattle.std.specs.Prelude.{Bool, Option, Some, None, is_some}
use denote.RattleType.{RattleType}
use denote.RawPtr.{Ptr}
use base.Fml.{Fml, ftrue, feq, fex, fsep}
use Rattle.std.specs.Box.Ownership.{box_owns}
use Rattle.std.specs.declared.alloc.Global.{Global}
use Rattle.std.specs.contracts.impls.GlobalAllocator.TheImpl.{ghosts}

module _ (R : RattleType) where
  abbrev pub boxed_by : Ptr → R.Denot → Global → Fml
  boxed_by p x a = box_owns (ghosts.dealloc_token a) R p x

  abbrev pub boxed : Ptr → Option R.Denot → Fml
  boxed p None = ftrue
  boxed p (Some x) = fex Global (boxed_by p x)

  abbrev pub boxed_if : Bool → Ptr → Option R.Denot → Fml
  boxed_if full p x = fsep (feq Bool full (is_some x)) (boxed p x)
