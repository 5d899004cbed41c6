use Rattle.std.proofs.Common.{sym, ◌∙◌, subst}
use Rattle.json.specs.Find.{BeginsWith}
use Rattle.json.specs.Tape.{Linked}
use Rattle.js_doc.specs.code.SpotTable.{AreAllBegun}
use Rattle.js_doc.proofs.PositionsFound.{some_of}
use Rattle.js_doc.proofs.positions.batch.positions_in.Goals as goal

pub all_found-requires : goal.all_found-requires
all_found-requires c =
    let text = c.args.text.now in let ns = c.nodes.result.now in let d = some_of _ c.in-Ok.ensures.ok.1 in (
      (
        c.nodes.ensures.tokens ∙ c.in-Ok.ensures.ok.0,
        subst (λ ts. Linked ts 0 ns) (sym c.nodes.ensures.tokens) c.nodes.ensures.links,
        d.0,
        d.1,
        subst (λ ts. BeginsWith ts d.0) (sym c.nodes.ensures.tokens) (c.in-Ok.ensures.value d.0 d.1),
      ),
      subst (AreAllBegun text) (sym c.deref.ensures.value)
          (subst (λ t. AreAllBegun t c.in_ok-begun.begun.items) c.as_bytes.ensures.value c.in_ok-begun.ensures),
    )
