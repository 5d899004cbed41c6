use Rattle.std.proofs.Common.{refl}
use Rattle.js_output.proofs.prepared.with_room.Goals as goal

pub returns-clause-shown : goal.returns-clause-shown
returns-clause-shown c = λ t rows. (t, rows, c.in_ok-locations.ensures, refl, refl)
