use Rattle.std.proofs.Common.{[], ◌∷◌, map, sym, ◌∙◌}
use Rattle.js_bundle.specs.code.Scan.{site_of}
use Rattle.js_bundle.proofs.Checking.PassNext.{found_clear, lost_stopped}
use Rattle.js_bundle.proofs.check.references.resolve_url.Goals as goal

pub returns-in-Ok-Some-clause-clear : goal.returns-in-Ok-Some-clause-clear
returns-in-Ok-Some-clause-clear c =
    found_clear (map site_of c.args.known.sites.now) (site_of c.args.at.site.now) (c.args.at.keyword.now ∷ [])
    c.args.url c.in-Ok-Some.place (sym c.in-Ok-Some.ensures.ok ∙ c.in-Ok-Some.field-0-is) c.in-Ok-Some.ensures.read

pub returns-in-Ok-None-clause-err : goal.returns-in-Ok-None-clause-err
returns-in-Ok-None-clause-err c =
    lost_stopped (map site_of c.args.known.sites.now) (site_of c.args.at.site.now) (c.args.at.keyword.now ∷ [])
    c.args.url c.refuse_keyword.result (sym c.in-Ok-None.ensures.ok ∙ c.in-Ok-None.field-0-is)
    c.in-Ok-None.ensures.read c.refuse_keyword.ensures
