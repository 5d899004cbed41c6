-- How it ends, by where it stops.
use Rattle.std.proofs.Common.{◌≡◌, ◌≢◌, ℕ, ◌+◌, ◌<◌, List, [], ◌∷◌, inl, inr, Option, Some, None, Result, Ok, Err}
use Rattle.std.proofs.Common.{Bool, OnErr, OnOk, ◌⊎◌, map, refl, sym, ap, ◌∙◌, subst, arith}
use Rattle.std.proofs.KnownBytes.{Keeps-refl}
use Rattle.js_doc.specs.Seen.{value_of}
use Rattle.js_doc.specs.Value.{Values}
use Rattle.js_doc.specs.declared.doc.Doc.{Doc}
use Rattle.js_bundle.specs.declared.refusal.Refusal.{Refusal}
use Rattle.js_output.specs.Documents.{DocumentTexts}
use Rattle.js_output.specs.declared.fault.Fault.{Fault}
use Rattle.js_output.specs.declared.fault.Fault.TheVariants as fault
use Rattle.js_command.specs.Answer.{AreContents}
use Rattle.js_command.specs.Files.{ContentsByPath, IsFileFault}
use Rattle.js_command.specs.Status.{fault_status}
use Rattle.js_command.specs.Words.{files_of}
use Rattle.js_upgrade.specs.Documents.{Sources}
use Rattle.js_upgrade_cli.specs.Outcome.{IsDone, IsRequestStopped, IsUntaken, IsUpgradeStop, UpgradeOutcome}
use Rattle.js_upgrade_cli.specs.Outcome.{outcome, sources_after}
use Rattle.js_upgrade_cli.specs.Outputs.{IsPartlyWritten, IsWritten, Written}
use Rattle.js_upgrade_cli.specs.Stop.{stopped_by}
use Rattle.js_upgrade_cli.specs.Upgraded.{upgraded_or_refused}
use Rattle.js_upgrade_cli.specs.Words.{UpgradeRequest, and_then}
use Rattle.js_upgrade_cli.specs.declared.numbers.Numbers.{Numbers}
use Rattle.js_upgrade_cli.specs.code.Seen.{IsUpgradeMisuse, RefusesWith, upgrade_misuse_status}
use Rattle.js_upgrade_cli.specs.declared.words.UpgradeMisuse.{UpgradeMisuse}
use Rattle.js_upgrade_cli.specs.declared.words.UpgradeMisuse.TheVariants as misuse

-- ---- files

no_file_refused : (known : Option (List ℕ)) (r : Refusal) → IsFileFault known (fault.Refused r) → ⊥
no_file_refused None r h = h
no_file_refused (Some bytes) r h = h

no_file_written : (known : Option (List ℕ)) → IsFileFault known fault.Write → ⊥
no_file_written None h = h
no_file_written (Some bytes) h = h

none_refused : (contents : ContentsByPath) (n : ℕ) (paths : List (List ℕ)) (d : Option ℕ) (r : Refusal)
    → IsUntaken contents n paths d (fault.Refused r) → ⊥
none_refused contents n [] d r h = h
none_refused contents n (path ∷ paths) d r (inl h) = no_file_refused (contents path) r h.1
none_refused contents n (path ∷ paths) d r (inr h) = none_refused contents (n + 1) paths d r h.1

none_written : (contents : ContentsByPath) (n : ℕ) (paths : List (List ℕ)) (d : Option ℕ)
    → IsUntaken contents n paths d fault.Write → ⊥
none_written contents n [] d h = h
none_written contents n (path ∷ paths) d (inl h) = no_file_written (contents path) h.1
none_written contents n (path ∷ paths) d (inr h) = none_written contents (n + 1) paths d h.1

pub untaken_stops : (contents : ContentsByPath) (request : UpgradeRequest) (d : Option ℕ) (f : Fault)
    → IsUntaken contents 0 (files_of request.documents) d f → IsUpgradeStop contents request d f
untaken_stops contents request d fault.Memory h = tt
untaken_stops contents request d (fault.Refused r) h =
    absurd (none_refused contents 0 (files_of request.documents) d r h)
untaken_stops contents request d _ h = h

-- ---- refusals

pub outcome_there : (numbers : Numbers) (assumed : _) (texts : DocumentTexts) (sources : Sources)
    (answer : Result Values Refusal) → sources_after numbers assumed [] 0 texts ≡ Ok sources
    → upgraded_or_refused sources ≡ answer → outcome numbers assumed texts ≡ answer
outcome_there numbers assumed texts sources answer e f = ap (λ r. and_then r upgraded_or_refused) e ∙ f

module _ (contents : ContentsByPath) (request : UpgradeRequest) (texts : DocumentTexts)
    (holds : AreContents contents request.documents texts) where
  pub unread_stops : (f : Fault) → RefusesWith (sources_after request.numbers request.assumed [] 0 texts) f
      → IsUpgradeStop contents request (stopped_by f).document (stopped_by f).fault
  unread_stops fault.Memory h = tt
  unread_stops (fault.Refused r) h = (refl, (texts, holds, ap (λ r. and_then r upgraded_or_refused) h))
  unread_stops _ h = absurd h

  pub refused_stops : (sources : Sources) (f : Fault)
      → sources_after request.numbers request.assumed [] 0 texts ≡ Ok sources
      → RefusesWith (upgraded_or_refused sources) f
      → IsUpgradeStop contents request (stopped_by f).document (stopped_by f).fault
  refused_stops sources fault.Memory e h = tt
  refused_stops sources (fault.Refused r) e h =
      (refl, (texts, holds, outcome_there request.numbers request.assumed texts sources (Err r) e h))
  refused_stops sources _ e h = absurd h

-- ---- with nothing written, and with a prefix

pub stops_before : (contents : ContentsByPath) (request : UpgradeRequest) (out : Option (List ℕ)) (failed : Bool)
    (files : Option Written) (d : Option ℕ) (f : Fault) → IsUpgradeStop contents request d f
    → IsRequestStopped contents request out out failed files files d f
stops_before contents request out failed files d fault.Memory h = tt
stops_before contents request out failed files d fault.Write h =
    absurd (none_written contents 0 (files_of request.documents) d h)
stops_before contents request out failed files d _ h = (Keeps-refl out, refl, h)

pub stops_within : (contents : ContentsByPath) (request : UpgradeRequest) (values : Values)
    (old new : Option (List ℕ)) (failed : Bool) (before after : Option Written) (d : Option ℕ) (f : Fault)
    → UpgradeOutcome contents request (Ok values)
    → (f ≢ fault.Memory
    → (f ≡ fault.Write) × IsPartlyWritten request.into request.documents values old new failed before after d)
    → IsRequestStopped contents request old new failed before after d f
stops_within contents request values old new failed before after d f comes h = by_fault f h
  where
    by_fault : (f : Fault) → (f ≢ fault.Memory
        → (f ≡ fault.Write) × IsPartlyWritten request.into request.documents values old new failed before after d)
        → IsRequestStopped contents request old new failed before after d f
    by_fault fault.Memory h = tt
    by_fault fault.Write h = (values, comes, (h (λ e. cc)).1)
    by_fault fault.Read h = let e = (h (λ e. cc)).0 in absurd (cc)
    by_fault fault.InputTooLarge h = let e = (h (λ e. cc)).0 in absurd (cc)
    by_fault fault.TooLarge h = let e = (h (λ e. cc)).0 in absurd (cc)
    by_fault (fault.Refused r) h = let e = (h (λ e. cc)).0 in absurd (cc)
    by_fault (fault.Instance r) h = let e = (h (λ e. cc)).0 in absurd (cc)
    by_fault (fault.Entry r) h = let e = (h (λ e. cc)).0 in absurd (cc)
    by_fault (fault.Suite r) h = let e = (h (λ e. cc)).0 in absurd (cc)

-- ---- words that ask for nothing

pub misused_ends : {A : Type 0} (asked : Result A UpgradeMisuse) (m : UpgradeMisuse) (status : ℕ)
    → status ≡ upgrade_misuse_status m
    → OnErr asked ((status ≡ 2) ⊎ (status ≡ 4))
misused_ends (Ok a) m status e = tt
misused_ends (Err f) misuse.Memory status e = inr e
misused_ends (Err f) misuse.OtherForm status e = inl e
misused_ends (Err f) misuse.OddPairs status e = inl e
misused_ends (Err f) misuse.NoDialect status e = inl e
misused_ends (Err f) misuse.NoNumbers status e = inl e
misused_ends (Err f) misuse.NoFolder status e = inl e
misused_ends (Err f) misuse.OneName status e = inl e

pub misuse_named : (m : UpgradeMisuse) (status : ℕ) → status ≡ upgrade_misuse_status m
    → (status ≡ 0) ⊎ (status ≡ 2) ⊎ (status ≡ 3) ⊎ (status ≡ 4)
misuse_named misuse.Memory status e = inr (inr (inr e))
misuse_named misuse.OtherForm status e = inr (inl e)
misuse_named misuse.OddPairs status e = inr (inl e)
misuse_named misuse.NoDialect status e = inr (inl e)
misuse_named misuse.NoNumbers status e = inr (inl e)
misuse_named misuse.NoFolder status e = inr (inl e)
misuse_named misuse.OneName status e = inr (inl e)

-- a status of 2 is a misuse by what the words ask for
pub misuse_asked : {A : Type 0} (asked : Result A UpgradeMisuse) (m : UpgradeMisuse) (status : ℕ)
    → status ≡ upgrade_misuse_status m
    → IsUpgradeMisuse asked m → status ≡ 2 → asked ≡ Err m
misuse_asked asked misuse.Memory status e h two = let wrong : 4 ≡ 2 = sym e ∙ two in absurd (omega (arith, wrong))
misuse_asked asked misuse.OtherForm status e h two = h
misuse_asked asked misuse.OddPairs status e h two = h
misuse_asked asked misuse.NoDialect status e h two = h
misuse_asked asked misuse.NoNumbers status e h two = h
misuse_asked asked misuse.NoFolder status e h two = h
misuse_asked asked misuse.OneName status e h two = h

pub misuse_above : (m : UpgradeMisuse) (status : ℕ) → status ≡ upgrade_misuse_status m → 2 < status → status ≡ 4
misuse_above misuse.Memory status e h = e
misuse_above misuse.OtherForm status e h = absurd (omega (arith, e, h))
misuse_above misuse.OddPairs status e h = absurd (omega (arith, e, h))
misuse_above misuse.NoDialect status e h = absurd (omega (arith, e, h))
misuse_above misuse.NoNumbers status e h = absurd (omega (arith, e, h))
misuse_above misuse.NoFolder status e h = absurd (omega (arith, e, h))
misuse_above misuse.OneName status e h = absurd (omega (arith, e, h))

pub misuse_nonzero : {P : Type 0} (m : UpgradeMisuse) (status : ℕ) → status ≡ upgrade_misuse_status m → status ≡ 0 → P
misuse_nonzero misuse.Memory status e z = absurd (omega (arith, e, z))
misuse_nonzero misuse.OtherForm status e z = absurd (omega (arith, e, z))
misuse_nonzero misuse.OddPairs status e z = absurd (omega (arith, e, z))
misuse_nonzero misuse.NoDialect status e z = absurd (omega (arith, e, z))
misuse_nonzero misuse.NoNumbers status e z = absurd (omega (arith, e, z))
misuse_nonzero misuse.NoFolder status e z = absurd (omega (arith, e, z))
misuse_nonzero misuse.OneName status e z = absurd (omega (arith, e, z))

-- ---- the status of a fault

pub stop_status : (f : Fault) (status : ℕ) → status ≡ fault_status f → (status ≡ 3) ⊎ (status ≡ 4)
stop_status fault.Memory status e = inr e
stop_status fault.Read status e = inr e
stop_status fault.Write status e = inr e
stop_status fault.InputTooLarge status e = inl e
stop_status fault.TooLarge status e = inl e
stop_status (fault.Refused r) status e = inl e
stop_status (fault.Instance r) status e = inl e
stop_status (fault.Entry r) status e = inl e
stop_status (fault.Suite r) status e = inl e

named_by : (status : ℕ) → (status ≡ 3) ⊎ (status ≡ 4)
    → (status ≡ 0) ⊎ (status ≡ 2) ⊎ (status ≡ 3) ⊎ (status ≡ 4)
named_by status (inl e) = inr (inr (inl e))
named_by status (inr e) = inr (inr (inr e))

pub stop_named : (f : Fault) (status : ℕ) → status ≡ fault_status f
    → (status ≡ 0) ⊎ (status ≡ 2) ⊎ (status ≡ 3) ⊎ (status ≡ 4)
stop_named f status e = named_by status (stop_status f status e)

not_less : {P : Type 0} (status : ℕ) → (status ≡ 3) ⊎ (status ≡ 4) → status < 3 → P
not_less status (inl e) h = absurd (omega (arith, e, h))
not_less status (inr e) h = absurd (omega (arith, e, h))

-- it is neither 0 nor 2
pub stop_above : {P : Type 0} (f : Fault) (status other : ℕ) → status ≡ fault_status f → other < 3 → status ≡ other → P
stop_above f status other e low same = not_less status (stop_status f status e) (omega (arith, low, same))

-- ---- all were written

pub done_by : {T E : Type 0} (contents : ContentsByPath) (request : UpgradeRequest) (slice items : List Doc)
    (old new : Option (List ℕ)) (before after : Option Written) (r : Result T E) → slice ≡ items
    → UpgradeOutcome contents request (Ok (map value_of items))
    → OnOk r (IsWritten request.into request.documents (map value_of slice) old new before after)
    → OnOk r (IsDone contents request old new before after)
done_by contents request slice items old new before after (Err e) same comes h = tt
done_by contents request slice items old new before after (Ok t) same comes h =
    let written : IsWritten request.into request.documents (map value_of items) old new before after =
    subst (λ ds. IsWritten request.into request.documents (map value_of ds) old new before after) same h in
    (map value_of items, comes, written)
