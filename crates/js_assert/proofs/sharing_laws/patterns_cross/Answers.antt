-- A compiled pattern is plain data: its parts cross threads by `crosses`, whose fact is of a parameter, which says the
-- same of the type. It is too deep for rattle to find this by itself.
use denote.Exit.{yes}
use denote.Builtin.{u32, usize}
use denote.Hole.{as_row}
use denote.Struct.Field.{row_field, bool-field, usize-field}
use denote.Param.Send.{sendable, view_send, view_sync}
use Rattle.std.proofs.Crossing.{Vec-send, Vec-sync}
use Rattle.std.specs.contracts.alloc.Global as Global
use Rattle.std.specs.contracts.boxed.Box as Box
use Rattle.std.specs.contracts.impls.GlobalAllocator.TheImpl.{ghosts}
use Rattle.std.specs.contracts.option.Option as Option
use Rattle.std.specs.contracts.string.String as String
use Rattle.std.specs.contracts.vec.Vec as Vec
use Rattle.regex.specs.contracts.pattern.Pattern as Compiled
use Rattle.regex.specs.contracts.string.regex.Regex as Regex
use Rattle.regex_dfa.specs.contracts.dfa.Dfa as Dfa
use Rattle.regex_hir.specs.contracts.hir.Hir as Hir
use Rattle.regex_literal.specs.contracts.byte_set.ByteSet as ByteSet
use Rattle.regex_literal.specs.contracts.caseless.Caseless as Caseless
use Rattle.regex_meta.specs.contracts.plan.Plans as Plans
use Rattle.regex_meta.specs.contracts.program.Program as Program
use Rattle.regex_meta.specs.contracts.signs.Signs as Signs
use Rattle.regex_syntax.specs.contracts.Config as Config
use Rattle.js_assert.specs.contracts.pattern.Pattern.TheInside as Inside
use Rattle.js_assert.proofs.Crossing.{Law, sending, sharing}
use Rattle.js_assert.proofs.sharing_laws.patterns_cross.Goals as goal

-- what a compiled pattern is made of
record PatternParts (L : Law) : Type 0 where
  source : L.Holds (String.the_row Global.the_row ghosts)
  config : L.Holds Config.the_row
  names : L.Holds (Vec.the_row (Option.the_row (String.the_row Global.the_row ghosts)) Global.the_row ghosts)
  hir : L.Holds Hir.the_row
  trees : L.Holds (Vec.the_row Hir.the_row Global.the_row ghosts)
  dfa : L.Holds Dfa.the_row
  plans : L.Holds Plans.the_row
  caseless : L.Holds Caseless.the_row
  owners : L.Holds (Vec.the_row (Vec.the_row u32 Global.the_row ghosts) Global.the_row ghosts)
  first : L.Holds (Option.the_row ByteSet.the_row)
  longest : L.Holds (Option.the_row usize)
  numbers : L.Holds (Vec.the_row u32 Global.the_row ghosts)
  truth : L.Holds (as_row bool-field)
  shortest : L.Holds (as_row usize-field)

regex : (L : Law) → PatternParts L → L.Holds (Box.the_row Regex.the_row Global.the_row ghosts)
regex L parts =
    let signs : L.Holds Signs.the_row =
    L.fields Signs.the_type (parts.caseless, (parts.numbers, (parts.trees, (parts.trees, (parts.owners, tt))))) in
    let held = L.field (row_field (Box.the_row Signs.the_row Global.the_row ghosts)) (L.box Signs.the_row signs) in
    let option = L.variants (Option.enum (Box.the_row Signs.the_row Global.the_row ghosts)) (tt, ((held, tt), tt)) in
    let program : L.Holds Program.the_row = L.fields Program.the_type (
      parts.hir,
      (parts.dfa, (parts.plans, (option, (parts.first, (parts.truth, (parts.shortest, (parts.longest, tt))))))),
    ) in
    let compiled : L.Holds Compiled.the_row =
    L.fields Compiled.the_type (parts.source, (parts.config, (parts.names, (program, tt)))) in
    L.box Regex.the_row (L.fields Regex.the_type (compiled, tt))

pub returns-clause-send : goal.returns-clause-send
returns-clause-send c =
    let hir = c.crosses-4.ensures.send in
    let first = c.crosses-9.ensures.send in
    let parts : PatternParts sending = search (sendable, Vec-send, hir.leaving yes, first.leaving yes) in
    view_send Inside.the_row _ _ _ _ (sending.fields Inside.the_type (regex sending parts, tt))

pub returns-clause-sync : goal.returns-clause-sync
returns-clause-sync c =
    let parts : PatternParts sharing = search (sendable, Vec-sync) in
    view_sync Inside.the_row _ _ _ _ (sharing.fields Inside.the_type (regex sharing parts, tt))
