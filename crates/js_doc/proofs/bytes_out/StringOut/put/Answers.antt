use Rattle.std.proofs.Common.{Some, true, string_bytes, refl}
use Rattle.js_doc.proofs.BytesGone.{stops_at_once}
use Rattle.js_doc.proofs.bytes_out.StringOut.put.Goals as goal

pub returns-in_err-from_utf8 : goal.returns-in_err-from_utf8
returns-in_err-from_utf8 c =
    stops_at_once (record { gone = Some (string_bytes c.args.self.now); calls = 0; stopped = true }) c.args.bytes.now
    c.from_residual.result c.from_residual.ensures.0 refl
