use Rattle.std.proofs.Common.{◌≡◌, ◌∙◌, ap, subst, sym, true}
use Rattle.std.proofs.lemmas.Result.{IfOk-weaker}
use Rattle.js_doc.specs.Seen.{value_of}
use Rattle.js_doc.specs.Value.{members}
use Rattle.js_doc.proofs.PartLists.{member_list-members}
use Rattle.js_upgrade.specs.Seen.{source_of}
use Rattle.js_upgrade.specs.code.Clear.{IsClearDocument, IsClearRoot}
use Rattle.js_upgrade.specs.code.Table.{all_of}
use Rattle.js_upgrade.proofs.ClearDocuments.{document_is}
use Rattle.js_upgrade.proofs.clear_documents.is_clear_document.Goals as goal

pub returns-in-Members : goal.returns-in-Members
returns-in-Members c =
    let roots = all_of c.args.roots.now in
    let all = all_of c.args.resources.now in
    let s = source_of c.args.source.now in
    let d = c.in-Some.dialect in
    let siblings = c.in-Members.siblings in
    IfOk-weaker c.is_clear_root.result (λ b. b ≡ true → IsClearRoot roots all d s.uri siblings)
    (λ b. b ≡ true → IsClearDocument roots all s)
    (λ b clear is. document_is roots all s d (members siblings) (sym c.source_dialect.ensures ∙ c.in-Some.is)
    (ap value_of c.in-Members.is)
    (subst (IsClearRoot roots all d s.uri) (sym (member_list-members siblings)) (clear is)))
    c.is_clear_root.ensures
