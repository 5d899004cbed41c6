use Rattle.js_assert.proofs.Dependent.{all_met}
use Rattle.js_assert.proofs.objects.dependent_required.Goals as goal

pub returns : goal.returns
returns c = all_met c.args.members.now c.args.dependences.now c.meets_all.result c.meets_all.ensures
