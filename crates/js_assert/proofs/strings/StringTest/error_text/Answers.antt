use Rattle.js_assert.proofs.strings.StringTest.error_text.Goals as goal

pub returns-in-MaxLength : goal.returns-in-MaxLength
returns-in-MaxLength c = rw c.in-MaxLength.is (rw c.length.ensures at c.at_most.ensures)

pub returns-in-MinLength : goal.returns-in-MinLength
returns-in-MinLength c = rw c.in-MinLength.is (rw c.length-in-MinLength.ensures at c.at_least.ensures)
