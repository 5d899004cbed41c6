-- What threads may be sent, and what they may share: one proof serves for both laws.
use denote.RattleType.{RattleType}
use denote.Hole.{as_row}
use denote.Struct.Field.{Field}
use denote.Struct.Declared as structs
use denote.Enum.Declared as enums
use denote.Param.Send.{IsSend, IsSync}
use denote.Param.SendFields.{FieldsHave, VariantsHave, declared_send, declared_sync}
use denote.Param.SendFields.{variants_send, variants_sync, as_row_send, as_row_sync}
use Rattle.std.proofs.Crossing.{Box-send, Box-sync, Vec-send, Vec-sync}
use Rattle.std.specs.contracts.alloc.Global as Global
use Rattle.std.specs.contracts.boxed.Box as Box
use Rattle.std.specs.contracts.impls.GlobalAllocator.TheImpl.{ghosts}
use Rattle.std.specs.contracts.vec.Vec as Vec

-- a law of types, and how it comes from the parts of a type
pub record Law : Type 2 where
  pub Holds : RattleType → Type 0
  pub box : (T : RattleType) → Holds T → Holds (Box.the_row T Global.the_row ghosts)
  pub vec : (T : RattleType) → Holds T → Holds (Vec.the_row T Global.the_row ghosts)
  pub field : (F : Field) → Holds F.row → Holds (as_row F)
  pub fields : (T : structs.Declared) → FieldsHave Holds T.parts → Holds (structs.row T)
  pub variants : (N : enums.Record) → VariantsHave Holds N.parts → Holds (enums.row (enums.declared N))

abbrev pub sending : Law
sending = record {
  Holds = IsSend;
  box = Box-send;
  vec = Vec-send;
  field = as_row_send;
  fields = declared_send;
  variants = variants_send;
}

abbrev pub sharing : Law
sharing = record {
  Holds = IsSync;
  box = Box-sync;
  vec = Vec-sync;
  field = as_row_sync;
  fields = declared_sync;
  variants = variants_sync;
}
