use Rattle.std.proofs.Common.{◌≡◌, ◌∙◌, ap, subst, sym, true, unwrap_or}
use Rattle.std.proofs.lemmas.Result.{IfOk-weaker}
use Rattle.js_upgrade.specs.code.Clear.{IsClearBelow, IsClearRoot}
use Rattle.js_upgrade.specs.code.Table.{all_of}
use Rattle.js_upgrade.proofs.clear_documents.is_clear_root.Goals as goal

pub returns-in-Some : goal.returns-in-Some
returns-in-Some c =
    let roots = all_of c.args.roots.now in
    let all = all_of c.args.resources.now in
    let d = c.args.dialect in
    let uri = c.args.uri.now in
    let siblings = c.args.siblings.now in
    IfOk-weaker c.is_clear_below.result (λ b. b ≡ true → IsClearBelow roots all d uri c.in-Some.base siblings)
    (λ b. b ≡ true → IsClearRoot roots all d uri siblings)
    (λ b clear is. (
      c.keeps_dialect.ensures c.if-not-keeps_dialect.false,
      subst (λ base. IsClearBelow roots all d uri base siblings)
          (ap (λ o. unwrap_or o uri) (sym c.in-Some.is ∙ c.in_ok-base.ensures)) (clear is),
    ))
    c.is_clear_below.ensures

pub returns-in-None : goal.returns-in-None
returns-in-None c =
    let roots = all_of c.args.roots.now in
    let all = all_of c.args.resources.now in
    let d = c.args.dialect in
    let uri = c.args.uri.now in
    let siblings = c.args.siblings.now in
    let call = c.is_clear_below-in-None in
    IfOk-weaker call.result (λ b. b ≡ true → IsClearBelow roots all d uri uri siblings)
    (λ b. b ≡ true → IsClearRoot roots all d uri siblings)
    (λ b clear is. (
      c.keeps_dialect.ensures c.if-not-keeps_dialect.false,
      subst (λ base. IsClearBelow roots all d uri base siblings)
          (ap (λ o. unwrap_or o uri) (sym c.in-None.is ∙ c.in_ok-base.ensures)) (clear is),
    ))
    call.ensures
