use Rattle.std.proofs.Common.{◌≡◌, None, Option, ◌∙◌, option_map, string_bytes, refl}
use Rattle.std.specs.Prelude.{if◌then◌else◌}
use Rattle.std.specs.Str.{is_utf8}
use Rattle.std.proofs.lemmas.Result.{IfOk-weaker}
use Rattle.percent_encoding.specs.Percent.{percent_decode}
use Rattle.js_doc.specs.Pointer.{Tokens}
use Rattle.js_doc.specs.PointerReading.{pointer_of}
use Rattle.js_upgrade.specs.Reference.{followed, in_resource}
use Rattle.js_upgrade.specs.Seen.{resource_seen}
use Rattle.js_upgrade.specs.Url.{uri_joined}
use Rattle.js_upgrade.specs.code.Table.{all_of}
use Rattle.js_upgrade.proofs.LocalFragments.{local_followed}
use Rattle.js_upgrade.proofs.target.unusual_rewritten.Goals as goal

pub returns-in-Some : goal.returns-in-Some
returns-in-Some c =
    let scope = c.args.scope.now in
    let all = all_of scope.resources.now in
    let base = scope.base.now in
    let t = c.args.reference.now in
    let fragment = c.in-Some.fragment.now in
    let pointer : Option Tokens =
    if is_utf8 (percent_decode fragment) then pointer_of (percent_decode fragment) else None in
    let here = option_map (λ r. resource_seen r.now) c.resource_numbered-here.result in
    IfOk-weaker c.in_resource.result (λ s. string_bytes s ≡ in_resource t fragment pointer here)
    (λ s. string_bytes s ≡ followed all t (uri_joined base t))
    (λ s is. is ∙ local_followed all base t fragment pointer here c.in-Some.ensures refl scope.here
    c.resource_numbered-here.ensures scope.local) c.in_resource.ensures
