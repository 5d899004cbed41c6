use Rattle.std.proofs.Common.{refl}
use Rattle.std.specs.Prelude.{nat_lt, length}
use Rattle.js_assert.specs.Argument.{values}
use Rattle.js_eval.proofs.EveryItem.{applied_to, holding_to, of_items}
use Rattle.js_eval.proofs.laws.every_item.Goals as goal

pub returns : goal.returns
returns g c = λ S above place v siblings condition names indexes k. record {
  applied = of_items (λ e. nat_lt e.0 (length (values k.1))) v _ (applied_to _ (λ e. refl) _);
  matching = λ holds. of_items _ v _ (holding_to _ (λ e. refl) holds _);
}
