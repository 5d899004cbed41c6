use Rattle.std.proofs.Common.{◌≡◌, ◌∙◌, Some, None, IfOk, IfErr, OnOk, ap, map, sym, subst}
use Rattle.js_doc.specs.Seen.{value_of}
use Rattle.js_upgrade.specs.Documents.{upgraded_with}
use Rattle.js_upgrade.specs.Fault.{fault_with, IsStoppedBy}
use Rattle.js_upgrade.specs.Seen.{source_of}
use Rattle.js_upgrade.proofs.CopyLoops.{none_copied}
use Rattle.js_upgrade.proofs.documents.upgraded_copied.Goals as goal

pub returns-else-has_some-clause-ok : goal.returns-else-has_some-clause-ok
returns-else-has_some-clause-ok c =
    let copies = c.args.copies.now in
    let sources = map source_of c.args.sources.now in
    let none = sym (none_copied copies sources (sym c.has_some.ensures ∙ c.if-has_some.false)) in
    let call = c.upgraded_uncopied in
    subst (λ ss. IfOk call.result (λ v. upgraded_with copies ss ≡ Some (map value_of v.items))) none call.ensures.ok

pub returns-else-has_some-clause-clear : goal.returns-else-has_some-clause-clear
returns-else-has_some-clause-clear c =
    let copies = c.args.copies.now in
    let sources = map source_of c.args.sources.now in
    let none = sym (none_copied copies sources (sym c.has_some.ensures ∙ c.if-has_some.false)) in
    let call = c.upgraded_uncopied in
    subst (λ ss. OnOk call.result (fault_with copies ss ≡ None)) none call.ensures.clear

pub returns-else-has_some-clause-err : goal.returns-else-has_some-clause-err
returns-else-has_some-clause-err c =
    let copies = c.args.copies.now in
    let sources = map source_of c.args.sources.now in
    let none = sym (none_copied copies sources (sym c.has_some.ensures ∙ c.if-has_some.false)) in
    let call = c.upgraded_uncopied in
    subst (λ ss. IfErr call.result (IsStoppedBy (fault_with copies ss))) none call.ensures.err

pub returns-in_ok-copied-clause-ok : goal.returns-in_ok-copied-clause-ok
returns-in_ok-copied-clause-ok c =
    let copies = c.args.copies.now in
    let is = ap (map source_of) c.as_slice.ensures.value ∙ c.in_ok-copied.ensures in
    let call = c.upgraded_among_all in
    subst (λ ss. IfOk call.result (λ v. upgraded_with copies ss ≡ Some (map value_of v.items))) is call.ensures.ok

pub returns-in_ok-copied-clause-clear : goal.returns-in_ok-copied-clause-clear
returns-in_ok-copied-clause-clear c =
    let copies = c.args.copies.now in
    let is = ap (map source_of) c.as_slice.ensures.value ∙ c.in_ok-copied.ensures in
    let call = c.upgraded_among_all in
    subst (λ ss. OnOk call.result (fault_with copies ss ≡ None)) is call.ensures.clear

pub returns-in_ok-copied-clause-err : goal.returns-in_ok-copied-clause-err
returns-in_ok-copied-clause-err c =
    let copies = c.args.copies.now in
    let is = ap (map source_of) c.as_slice.ensures.value ∙ c.in_ok-copied.ensures in
    let call = c.upgraded_among_all in
    subst (λ ss. IfErr call.result (IsStoppedBy (fault_with copies ss))) is call.ensures.err
