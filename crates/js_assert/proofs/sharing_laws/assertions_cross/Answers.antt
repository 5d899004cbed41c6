-- Each part but the pattern crosses threads by `crosses`; its fact is of a parameter, which says the same of the type.
use denote.Exit.{yes}
use denote.Hole.{as_row}
use denote.Struct.Field.{u64-field, bool-field}
use denote.Param.Send.{sendable, view_send, view_sync}
use denote.Param.SendFields.{VariantsHave}
use Rattle.js_assert.specs.contracts.instance_type.InstanceType as InstanceType
use Rattle.js_assert.specs.contracts.choices.Choices as Choices
use Rattle.js_doc.specs.contracts.doc.Doc as Doc
use Rattle.std.proofs.Crossing.{Vec-send, Vec-sync}
use Rattle.std.specs.contracts.alloc.Global as Global
use Rattle.std.specs.contracts.impls.GlobalAllocator.TheImpl.{ghosts}
use Rattle.std.specs.contracts.num.NonZeroU64 as NonZeroU64
use Rattle.std.specs.contracts.vec.Vec as Vec
use Rattle.js_doc.specs.contracts.whole.Whole as Whole
use Rattle.js_doc.specs.contracts.string.Text as Text
use Rattle.js_assert.specs.contracts.objects.Dependence as Dependence
use Rattle.js_assert.specs.contracts.pattern.Pattern as Pattern
use Rattle.js_assert.specs.contracts.assertion.Assertion.TheInside as Inside
use Rattle.js_assert.specs.contracts.assertion.Test as Test
use Rattle.js_assert.specs.contracts.any_type.AnyTypeTest as AnyTypeTest
use Rattle.js_assert.specs.contracts.arrays.ArrayTest as ArrayTest
use Rattle.js_assert.specs.contracts.numbers.NumberTest as NumberTest
use Rattle.js_assert.specs.contracts.objects.ObjectTest as ObjectTest
use Rattle.js_assert.specs.contracts.strings.StringTest as StringTest
use Rattle.js_assert.proofs.Crossing.{Law, sending, sharing}
use Rattle.js_assert.proofs.sharing_laws.assertions_cross.Goals as goal

-- what an assertion is made of
record AssertionParts (L : Law) : Type 0 where
  type : L.Holds InstanceType.the_row
  types : L.Holds (Vec.the_row InstanceType.the_row Global.the_row ghosts)
  choices : L.Holds Choices.the_row
  doc : L.Holds Doc.the_row
  nonzero : L.Holds NonZeroU64.the_row
  whole : L.Holds Whole.the_row
  texts : L.Holds (Vec.the_row Text.the_row Global.the_row ghosts)
  dependences : L.Holds (Vec.the_row Dependence.the_row Global.the_row ghosts)
  pattern : L.Holds Pattern.the_row
  count : L.Holds (as_row u64-field)
  truth : L.Holds (as_row bool-field)

inside : (L : Law) → AssertionParts L → L.Holds Inside.the_row
inside L parts =
    let limit = L.box Whole.the_row parts.whole in
    let choices = L.box Choices.the_row parts.choices in
    let doc = L.box Doc.the_row parts.doc in
    let any_type : VariantsHave L.Holds AnyTypeTest.enum.parts = assumption in
    let number : VariantsHave L.Holds NumberTest.enum.parts = assumption in
    let string : VariantsHave L.Holds StringTest.enum.parts = assumption in
    let array : VariantsHave L.Holds ArrayTest.enum.parts = assumption in
    let object : VariantsHave L.Holds ObjectTest.enum.parts = assumption in
    let any_type_test = L.variants AnyTypeTest.enum any_type in
    let number_test = L.variants NumberTest.enum number in
    let string_test = L.variants StringTest.enum string in
    let array_test = L.variants ArrayTest.enum array in
    let object_test = L.variants ObjectTest.enum object in
    let tests : VariantsHave L.Holds Test.enum.parts = assumption in
    L.fields Inside.the_type (L.variants Test.enum tests, (parts.truth, tt))

pub returns-clause-send : goal.returns-clause-send
returns-clause-send c =
    let type = c.crosses.ensures.send in
    let doc = c.crosses-3.ensures.send in
    let parts : AssertionParts sending = search (sendable, Vec-send, type.leaving yes, doc.leaving yes) in
    view_send Inside.the_row _ _ _ _ (inside sending parts)

pub returns-clause-sync : goal.returns-clause-sync
returns-clause-sync c =
    let parts : AssertionParts sharing = search (sendable, Vec-sync) in
    view_sync Inside.the_row _ _ _ _ (inside sharing parts)
