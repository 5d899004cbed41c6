-- What the code's values are seen as.
use Rattle.std.specs.Prelude.{◌≡◌, ℕ, List, [], ◌∷◌, ◌++◌, map, option_map, Result, Err, ⊤}
use Rattle.js_bundle.specs.declared.refusal.Refusal.{Refusal}
use Rattle.js_command.specs.Words.{pairs_seen}
use Rattle.js_output.specs.Documents.{DocumentTexts}
use Rattle.js_output.specs.declared.fault.Fault.{Fault}
use Rattle.js_output.specs.declared.fault.Fault.TheVariants as fault
use Rattle.js_upgrade.specs.declared.fault.UpgradeFault.{UpgradeFault}
use Rattle.js_upgrade.specs.declared.fault.UpgradeFaultKind.{UpgradeFaultKind}
use Rattle.js_upgrade.specs.declared.fault.UpgradeFaultKind.TheVariants as upgrade
use Rattle.js_upgrade_cli.specs.Upgraded.{reported_refusal}
use Rattle.js_output.specs.Line.{failed_memory}
use Rattle.js_upgrade_cli.specs.Words.{UpgradeRequest, SaidSoFar, upgrade_usage_line}
use Rattle.js_upgrade_cli.specs.declared.documents.DocumentText.{DocumentText}
use Rattle.js_upgrade_cli.specs.declared.request.UpgradeRequest as rust_request
use Rattle.js_upgrade_cli.specs.declared.words.UpgradeMisuse.{UpgradeMisuse}
use Rattle.js_upgrade_cli.specs.declared.words.UpgradeMisuse.TheVariants as misuse
use Rattle.js_upgrade_cli.specs.declared.words.SaidSoFar as rust

abbrev pub said_seen : rust.SaidSoFar → SaidSoFar
said_seen s = record {
  waiting = s.waiting;
  assumed = s.assumed;
  numbers = s.numbers;
  into = option_map (λ w. w.now) s.into;
  uri = option_map (λ w. w.now) s.uri;
  documents = pairs_seen s.documents.items;
}

abbrev pub upgrade_request_seen : rust_request.UpgradeRequest → UpgradeRequest
upgrade_request_seen r = record {
  assumed = r.assumed;
  numbers = r.numbers;
  into = option_map (λ w. w.now) r.into;
  documents = pairs_seen r.documents.items;
}

-- why the words ask for nothing; lack of memory can come at any time
abbrev pub IsUpgradeMisuse : {A : Type 0} → Result A UpgradeMisuse → UpgradeMisuse → Type 0
IsUpgradeMisuse asked misuse.Memory = ⊤
IsUpgradeMisuse asked m = asked ≡ Err m

-- ---- documents whose files were taken

abbrev pub taken_seen : DocumentText → List ℕ × List ℕ
taken_seen d = (d.uri.now, d.text.items)

abbrev pub texts_seen : List DocumentText → DocumentTexts
texts_seen ds = map taken_seen ds

-- ---- faults

-- why nothing is found; lack of memory can come at any time
abbrev pub RefusesWith : {A : Type 0} → Result A Refusal → Fault → Type 0
RefusesWith found fault.Memory = ⊤
RefusesWith found (fault.Refused r) = found ≡ Err r
RefusesWith found _ = ⊥

-- of a document that isn't upgraded
abbrev pub reported_fault : UpgradeFaultKind → UpgradeFault → Fault
reported_fault upgrade.Memory f = fault.Memory
reported_fault _ f = fault.Refused (reported_refusal f)

-- of misused words
abbrev pub upgrade_misuse_status : UpgradeMisuse → ℕ
upgrade_misuse_status misuse.Memory = 4
upgrade_misuse_status _ = 2

-- what is written of them
abbrev pub misuse_text : UpgradeMisuse → List ℕ
misuse_text misuse.Memory = failed_memory ++ 10 ∷ []
misuse_text m = upgrade_usage_line m
