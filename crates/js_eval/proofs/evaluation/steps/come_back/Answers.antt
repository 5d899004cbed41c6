use Rattle.std.proofs.lemmas.Result.{on_ok_weaker}
use Rattle.std.proofs.Common.{refl, ap, option_to_list}
use Rattle.js_eval.proofs.Recursion.Mapped.{kept_mapped, kept_given}
use Rattle.js_eval.proofs.evaluation.steps.come_back.Goals as goal

pub returns : goal.returns
returns g c =
    on_ok_weaker c.keep-2.result (λ gives. record {
      path = refl;
      scope = refl;
      keyword = c.cut.ensures;
      instance = c.cut-2.ensures;
      names = kept_mapped g.W.World.text_of c.origins_of-names.result.0 (ap (λ o. o.0) c.origins_of-names.ensures)
          c.args.holds (option_to_list c.member-member.result) c.member-member.ensures c.args.here.names
          c.args.state.now.names.items c.keep.new.list.items c.in_ok-keep.ensures;
      indexes = kept_given c.origins_of-names.result.1 (ap (λ o. o.1) c.origins_of-names.ensures) c.args.holds
          (option_to_list c.item-item.result) c.item-item.ensures c.args.here.indexes c.args.state.now.indexes.items
          c.keep-2.new.list.items gives;
      left = refl;
    }) c.keep-2.ensures
