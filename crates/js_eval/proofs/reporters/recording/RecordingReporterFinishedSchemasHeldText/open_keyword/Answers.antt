use Rattle.std.proofs.Common.{◌++◌, ◌∙◌, ap, sym, append_assoc}
use Rattle.js_doc.specs.Fragment.{fragment_token}
use Rattle.js_tree.specs.Rows.RelativeState.{relative_state}
use Rattle.js_eval.proofs.OpeningsAlike.{opening_alike}
use Rattle.js_eval.proofs.Paths.{in_one_piece, keyword_location_is}
use Rattle.js_eval.proofs.reporters.recording.RecordingReporterFinishedSchemasHeldText.open_keyword.Goals as goal

pub returns-then-is_written_as_it_is : goal.returns-then-is_written_as_it_is
returns-then-is_written_as_it_is c =
    let schema = c.location_of.result.0.now in
    let rest = c.location_of.result.1.now in
    let name = c.args.keyword.name.now in
    let schemas = c.args.world.now.schemas.now in
    let written = c.is_written_as_it_is.ensures c.if-is_written_as_it_is.true in
    let none = sym c.is_empty.ensures ∙ c.if-is_empty.true in
    let added = ap (λ text. schema ++ text) (sym written.in_fragment) in
    let token = in_one_piece schema rest (fragment_token name) _ none added in
    let e = keyword_location_is schemas c.args.place name (schema ++ rest) _ c.location_of.ensures token in
    let new = relative_state c.enter_keyword.new.self in
    let old = relative_state c.args.self.now.rows in
    let instance = c.as_str-then-is_written_as_it_is.ensures in
    opening_alike c.enter_keyword.result new old c.as_str.ensures e instance c.enter_keyword.ensures

pub returns : goal.returns
returns c =
    let schema = c.location_of.result.0.now in
    let rest = c.location_of.result.1.now in
    let name = c.args.keyword.name.now in
    let schemas = c.args.world.now.schemas.now in
    let added = ap (λ text. schema ++ text) (c.as_str-3.ensures.value ∙ c.in_ok-set_token.ensures) in
    let token = added ∙ sym (append_assoc schema rest (fragment_token name)) in
    let e = keyword_location_is schemas c.args.place name (schema ++ rest) _ c.location_of.ensures token in
    let new = relative_state c.enter.new.self in
    let old = relative_state c.args.self.now.rows in
    opening_alike c.enter.result new old c.as_str-2.ensures e c.as_str-4.ensures c.enter.ensures
