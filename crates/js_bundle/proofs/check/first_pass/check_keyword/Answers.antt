use Rattle.std.proofs.Common.{[], ◌∷◌, ◌++◌, List, not, map, Result, OnOk}
use Rattle.std.proofs.lemmas.Result.{IfErr-weaker, err_from_is_err_and}
use Rattle.js_doc.specs.Seen.{value_of}
use Rattle.js_doc.specs.Value.{Value}
use Rattle.js_bundle.specs.declared.check.fault.CheckFault.{CheckFault}
use Rattle.js_bundle.specs.declared.refusal.RefusalKind.TheVariants.{BadKeyword}
use Rattle.js_bundle.specs.Candidate.{Candidate, IsClear, IsStopped}
use Rattle.js_bundle.specs.Shape.{is_shaped}
use Rattle.js_bundle.specs.Keyword.{Text}
use Rattle.js_bundle.specs.Refusals.{when, decided, on_text, text_rules, assertion_rules, name_rules, at_member}
use Rattle.js_bundle.specs.Resource.{Site}
use Rattle.js_bundle.specs.code.Scan.{site_of}
use Rattle.js_bundle.proofs.Checking.CheckStops.{clear_from_ok, stopped_here, stopped_later}
use Rattle.js_bundle.proofs.check.first_pass.check_keyword.Goals as goal

-- the rules of a keyword, in their order

abbrev shape : Site → Text → Value → List Candidate
shape site k v = when (not (is_shaped k v)) (decided site (k ∷ []) BadKeyword)

abbrev texts : List Site → Site → Text → Value → List Candidate
texts before site k v = on_text (text_rules before site k) v

stopped_by_shape : (before : List Site) (site : Site) (k : Text) (v : Value) (e : CheckFault)
    → IsStopped (shape site k v) e → IsStopped (at_member before site (k, v)) e
stopped_by_shape before site k v e =
    stopped_here (shape site k v) (assertion_rules site k v ++ (texts before site k v ++ name_rules site k v)) e

stopped_by_assertion : (before : List Site) (site : Site) (k : Text) (v : Value) (e : CheckFault)
    → IsClear (shape site k v) → IsStopped (assertion_rules site k v) e → IsStopped (at_member before site (k, v)) e
stopped_by_assertion before site k v e shaped h =
    let after = texts before site k v ++ name_rules site k v in
    stopped_later (shape site k v) (assertion_rules site k v ++ after) e shaped
    (stopped_here (assertion_rules site k v) after e h)

stopped_by_text : (before : List Site) (site : Site) (k : Text) (v : Value) (e : CheckFault) → IsClear (shape site k v)
    → IsClear (assertion_rules site k v) → IsStopped (texts before site k v) e
    → IsStopped (at_member before site (k, v)) e
stopped_by_text before site k v e shaped read h =
    let after = texts before site k v ++ name_rules site k v in
    stopped_later (shape site k v) (assertion_rules site k v ++ after) e shaped
    (stopped_later (assertion_rules site k v) after e read
    (stopped_here (texts before site k v) (name_rules site k v) e h))

stopped_by_names : (before : List Site) (site : Site) (k : Text) (v : Value) (e : CheckFault) → IsClear (shape site k v)
    → IsClear (assertion_rules site k v) → IsClear (texts before site k v) → IsStopped (name_rules site k v) e
    → IsStopped (at_member before site (k, v)) e
stopped_by_names before site k v e shaped read texted h =
    let after = texts before site k v ++ name_rules site k v in
    stopped_later (shape site k v) (assertion_rules site k v ++ after) e shaped
    (stopped_later (assertion_rules site k v) after e read
    (stopped_later (texts before site k v) (name_rules site k v) e texted h))

all_clear : {A : Type 0} (before : List Site) (site : Site) (k : Text) (v : Value) (r : Result A CheckFault)
    → IsClear (shape site k v) → IsClear (assertion_rules site k v) → IsClear (texts before site k v)
    → OnOk r (IsClear (name_rules site k v)) → OnOk r (IsClear (at_member before site (k, v)))
all_clear before site k v r shaped read texted h =
    let names = name_rules site k v in
    clear_from_ok (shape site k v) (assertion_rules site k v ++ (texts before site k v ++ names)) shaped r
    (clear_from_ok (assertion_rules site k v) (texts before site k v ++ names) read r
    (clear_from_ok (texts before site k v) names texted r h))

pub returns-in_err-check_shape-clause-err : goal.returns-in_err-check_shape-clause-err
returns-in_err-check_shape-clause-err c =
    let p = err_from_is_err_and c.from_residual.result c.from_residual.ensures.1 in
    rw (p.1, p.2) (stopped_by_shape (map site_of c.args.known.sites.now) (site_of c.args.at.site.now)
    c.args.at.keyword.now (value_of c.args.argument.now) c.in_err-check_shape.field-0.0
    c.in_err-check_shape.ensures.err)

pub returns-in_err-assertion-clause-err : goal.returns-in_err-assertion-clause-err
returns-in_err-assertion-clause-err c =
    let p = err_from_is_err_and c.from_residual-in_err-assertion.result c.from_residual-in_err-assertion.ensures.1 in
    rw (p.1, p.2) (stopped_by_assertion (map site_of c.args.known.sites.now) (site_of c.args.at.site.now)
    c.args.at.keyword.now (value_of c.args.argument.now) c.in_err-assertion.field-0.0
    c.in_ok-check_shape.ensures.ok c.in_err-assertion.ensures.err)

pub returns-in_err-check_argument-clause-err : goal.returns-in_err-check_argument-clause-err
returns-in_err-check_argument-clause-err c =
    let p = err_from_is_err_and c.from_residual-in_err-check_argument.result
    c.from_residual-in_err-check_argument.ensures.1 in
    rw (p.1, p.2) (stopped_by_text (map site_of c.args.known.sites.now) (site_of c.args.at.site.now)
    c.args.at.keyword.now (value_of c.args.argument.now) c.in_err-check_argument.field-0.0
    c.in_ok-check_shape.ensures.ok c.in_ok-assertion.ensures.clear c.in_err-check_argument.ensures.err)

pub returns-clause-err : goal.returns-clause-err
returns-clause-err c =
    let before = map site_of c.args.known.sites.now in
    let site = site_of c.args.at.site.now in
    let k = c.args.at.keyword.now in
    let v = value_of c.args.argument.now in
    IfErr-weaker c.read_names.result (IsStopped (name_rules site k v)) (IsStopped (at_member before site (k, v)))
    (λ e h. stopped_by_names before site k v e c.in_ok-check_shape.ensures.ok c.in_ok-assertion.ensures.clear
    c.in_ok-check_argument.ensures.ok h) c.read_names.ensures.err

pub returns-clause-clear : goal.returns-clause-clear
returns-clause-clear c =
    all_clear (map site_of c.args.known.sites.now) (site_of c.args.at.site.now) c.args.at.keyword.now
    (value_of c.args.argument.now) c.read_names.result c.in_ok-check_shape.ensures.ok c.in_ok-assertion.ensures.clear
    c.in_ok-check_argument.ensures.ok c.read_names.ensures.clear
