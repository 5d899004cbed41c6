-- The texts that a set holds.
use Rattle.std.specs.Prelude.{◌≡◌, List, Bool, bytes_eq}
use denote.Ref.{Bor}
use Rattle.std.specs.Cmp.Lexicographic.{slice_cmp}
use Rattle.std.specs.List.{list_any}
use Rattle.std.specs.Ordering.{is_eq, nat_cmp}
use Rattle.js_doc.specs.Value.{Text}

abbrev pub is_seen_text : List (Bor Text) → Text → Bool
is_seen_text keys s = list_any (λ k. is_eq (slice_cmp nat_cmp s k.now)) keys

-- the keys are the names that were seen
abbrev pub HasSeen : List (Bor Text) → List Text → Type 0
HasSeen keys names = (q : Bor Text) → is_seen_text keys q.now ≡ list_any (bytes_eq q.now) names
