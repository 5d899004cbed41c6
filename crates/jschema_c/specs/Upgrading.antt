-- Upgrading the documents of a session from older drafts.
use Rattle.std.specs.Prelude.{◌≡◌, ℕ, List, [], ◌∷◌, Option, Some, None, Result, Ok, Err, map, ⊤}
use Rattle.std.specs.Str.{IsUtf8}
use Rattle.js_bundle.specs.declared.refusal.Refusal.{Refusal}
use Rattle.js_bundle.specs.declared.refusal.RefusalKind.{RefusalKind}
use Rattle.js_bundle.specs.declared.refusal.RefusalKind.TheVariants as kind
use Rattle.js_doc.specs.Value.{Value, Values}
use Rattle.js_output.specs.Documents.{fault_by}
use Rattle.js_output.specs.declared.fault.Fault.{Fault}
use Rattle.js_bundle.specs.Document.{Document, Documents}
use Rattle.js_upgrade.specs.Dialect.{dialect_named}
use Rattle.js_upgrade.specs.Documents.{SourceDocument, Sources, all_upgraded}
use Rattle.js_upgrade.specs.Fault.{first_fault, IsUpgradeFault}
use Rattle.js_upgrade.specs.declared.dialect.Dialect.{Dialect}
use Rattle.js_upgrade.specs.declared.dialect.Dialect.TheVariants.{Draft2020}
use Rattle.js_upgrade.specs.declared.fault.UpgradeFault.{UpgradeFault}
use Rattle.js_upgrade.specs.declared.fault.UpgradeFaultKind.{UpgradeFaultKind}
use Rattle.js_upgrade.specs.declared.fault.UpgradeFaultKind.TheVariants as fault
use Rattle.jschema_c.specs.LastCall.{Says}
use Rattle.jschema_c.specs.declared.last_call.LastCall.{LastCall}
use Rattle.jschema_c.specs.declared.session.Phase.{Phase}
use Rattle.jschema_c.specs.declared.session.Phase.TheVariants as phase
use Rattle.jschema_c.specs.declared.status.Status.{Status}
use Rattle.jschema_c.specs.declared.status.Status.TheVariants as status

-- the dialect that is assumed where a document names none: 2020-12 without a URI
abbrev pub assumed_in : List ℕ → Option Dialect
assumed_in [] = Some Draft2020
assumed_in (x ∷ xs) = dialect_named (x ∷ xs)

abbrev pub source : Dialect → Document → SourceDocument
source assumed document = record { uri = document.uri; assumed = assumed; root = document.root }

abbrev pub sources : Dialect → Documents → Sources
sources assumed documents = map (source assumed) documents

-- the values in place of those of the documents
abbrev pub with_roots : Documents → Values → Documents
with_roots [] values = []
with_roots (d ∷ ds) [] = []
with_roots (d ∷ ds) (v ∷ vs) = record { uri = d.uri; root = v } ∷ with_roots ds vs

-- ---- done: what the definition says, under the same URIs

pub record AreUpgraded (assumed : Dialect) (before after : Documents) : Type 0 where
  pub clear : first_fault (sources assumed before) ≡ None
  pub values : Values
  pub upgraded : all_upgraded (sources assumed before) ≡ Some values
  pub same : after ≡ with_roots before values

abbrev pub UpgradedFrom : Phase → List ℕ → Phase → Type 0
UpgradedFrom (phase.Adding before) uri (phase.Adding after) =
    (assumed : Dialect) × (assumed_in uri ≡ Some assumed) × AreUpgraded assumed before after
UpgradedFrom _ uri _ = ⊥

-- ---- misused: the documents are finished, or the URI names no dialect

abbrev pub CannotUpgrade : Phase → List ℕ → Type 0
CannotUpgrade (phase.Adding documents) uri = IsUtf8 uri → assumed_in uri ≡ None
CannotUpgrade (phase.Finished schemas) uri = ⊤

-- ---- refused: as the document is

abbrev pub session_refusal_kind : UpgradeFaultKind → RefusalKind
session_refusal_kind fault.Memory = kind.Memory
session_refusal_kind fault.TooManyDocuments = kind.TooManyDocuments
session_refusal_kind fault.UnknownDialect = kind.UnknownDialect
session_refusal_kind fault.BadKeyword = kind.BadKeyword
session_refusal_kind fault.UriTooLong = kind.UriTooLong
session_refusal_kind fault.BadId = kind.BadId
session_refusal_kind fault.DuplicateUri = kind.DuplicateUri
session_refusal_kind fault.BadReference = kind.BadReference
session_refusal_kind fault.Unresolved = kind.Unresolved

abbrev pub session_refusal : UpgradeFault → Refusal
session_refusal e = record { document = e.document; place = e.place; kind = session_refusal_kind e.kind }

abbrev pub RefusesSources : Sources → Fault → Type 0
RefusesSources sources f =
    (e : UpgradeFault) × IsUpgradeFault (first_fault sources) e
    × (f ≡ fault_by (session_refusal_kind e.kind) (session_refusal e))

abbrev pub RefusesUpgrade : Phase → List ℕ → Fault → Type 0
RefusesUpgrade (phase.Adding documents) uri f =
    (assumed : Dialect) × (assumed_in uri ≡ Some assumed) × RefusesSources (sources assumed documents) f
RefusesUpgrade (phase.Finished schemas) uri f = ⊥

-- the documents are upgraded, or all is as it was
abbrev pub Upgrades : List ℕ → Phase → Phase → Result Status Fault → Type 0
Upgrades uri old new (Ok status.Done) = UpgradedFrom old uri new
Upgrades uri old new (Ok status.Misused) = (new ≡ old) × CannotUpgrade old uri
Upgrades uri old new (Ok _) = ⊥
Upgrades uri old new (Err f) = (new ≡ old) × RefusesUpgrade old uri f

abbrev pub UpgradeCall : List ℕ → Phase → Phase → Status → LastCall → Type 0
UpgradeCall uri old new answered said = (came : Result Status Fault) × Upgrades uri old new came
    × Says [] came answered said
