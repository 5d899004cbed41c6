use Rattle.js_doc.specs.Pointer.{pointer_text}
use Rattle.js_doc.proofs.FragmentBytes.{fragment_is}
use Rattle.js_doc.proofs.pointer.Pointer.fragment.Goals as goal

pub returns-clause-text : goal.returns-clause-text
returns-clause-text c = rw (
  c.in_ok-append_to.ensures.ok,
  c.new-fragment.ensures.bytes,
  c.utf8_percent_encode.ensures.text,
  c.as_str.ensures.value,
  c.in_ok-text.ensures,
)
    (fragment_is (pointer_text c.args.self.now))
