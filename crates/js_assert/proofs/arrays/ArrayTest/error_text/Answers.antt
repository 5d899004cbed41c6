use Rattle.js_assert.proofs.arrays.ArrayTest.error_text.Goals as goal

pub returns-in-MaxContains : goal.returns-in-MaxContains
returns-in-MaxContains c = rw c.in-MaxContains.is c.at_most-in-MaxContains.ensures

pub returns-in-MinContains : goal.returns-in-MinContains
returns-in-MinContains c = rw c.in-MinContains.is c.at_least-in-MinContains.ensures
