-- Documents that are upgraded together, or why one of them isn't.
use Rattle.std.specs.Prelude.{Option, Some, None, Result, Ok, Err}
use Rattle.js_doc.specs.Value.{Values}
use Rattle.js_bundle.specs.declared.refusal.Refusal.{Refusal}
use Rattle.js_bundle.specs.declared.refusal.RefusalKind.{RefusalKind}
use Rattle.js_bundle.specs.declared.refusal.RefusalKind.TheVariants as kind
use Rattle.js_upgrade.specs.Documents.{Sources, each_upgraded}
use Rattle.js_upgrade.specs.Fault.{first_fault}
use Rattle.js_upgrade.specs.declared.fault.UpgradeFault.{UpgradeFault}
use Rattle.js_upgrade.specs.declared.fault.UpgradeFaultKind.{UpgradeFaultKind}
use Rattle.js_upgrade.specs.declared.fault.UpgradeFaultKind.TheVariants as upgrade

-- a refusal has one name, whoever refuses
abbrev pub reported_kind : UpgradeFaultKind → RefusalKind
reported_kind upgrade.Memory = kind.Memory
reported_kind upgrade.TooManyDocuments = kind.TooManyDocuments
reported_kind upgrade.UnknownDialect = kind.UnknownDialect
reported_kind upgrade.BadKeyword = kind.BadKeyword
reported_kind upgrade.UriTooLong = kind.UriTooLong
reported_kind upgrade.BadId = kind.BadId
reported_kind upgrade.DuplicateUri = kind.DuplicateUri
reported_kind upgrade.BadReference = kind.BadReference
reported_kind upgrade.Unresolved = kind.Unresolved

abbrev pub reported_refusal : UpgradeFault → Refusal
reported_refusal f = record { document = f.document; place = f.place; kind = reported_kind f.kind }

abbrev pub upgraded_unless : Option UpgradeFault → Sources → Result Values Refusal
upgraded_unless None sources = Ok (each_upgraded sources)
upgraded_unless (Some f) sources = Err (reported_refusal f)

-- in order, or the first fault
abbrev pub upgraded_or_refused : Sources → Result Values Refusal
upgraded_or_refused sources = upgraded_unless (first_fault sources) sources
