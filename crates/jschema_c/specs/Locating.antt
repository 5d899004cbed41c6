-- Where the values at pointers stand in a text, as C sees it.
use Rattle.std.specs.Prelude.{◌≡◌, ◌≢◌, ℕ, ◌-◌, ◌≤◌, ◌⊎◌, List, [], ◌∷◌, take, drop, map, length, Option, Some, None}
use Rattle.std.specs.Prelude.{IsUtf8, ⊤}
use Rattle.js_doc.specs.Pointer.{Tokens, pointer_text}
use Rattle.js_doc.specs.Positions.{spots}
use Rattle.json.specs.Json.{document}
use Rattle.jschema_c.specs.declared.position.ValuePosition.{ValuePosition}
use Rattle.jschema_c.specs.declared.status.Status.{Status}
use Rattle.jschema_c.specs.declared.status.Status.TheVariants as status

-- the texts of the pointers stand in the bytes one after another, each up to its end
abbrev pub ArePointers : List ℕ → ℕ → List ℕ → List Tokens → Type 0
ArePointers bytes start [] [] = ⊤
ArePointers bytes start [] (p ∷ ps) = ⊥
ArePointers bytes start (end ∷ ends) [] = ⊥
ArePointers bytes start (end ∷ ends) (p ∷ ps) =
    (start ≤ end) × (end ≤ length bytes) × (pointer_text p ≡ take (end - start) (drop start bytes))
    × ArePointers bytes end ends ps

abbrev pub AreUtf8 : List Tokens → Type 0
AreUtf8 [] = ⊤
AreUtf8 (p ∷ ps) = IsUtf8 (pointer_text p) × AreUtf8 ps

-- the numbers of what isn't there
abbrev pub absent_number : ℕ
absent_number = 18446744073709551615

abbrev pub spot_told : Option (ℕ × (ℕ × ℕ)) → ℕ × (ℕ × ℕ)
spot_told None = (absent_number, (absent_number, absent_number))
spot_told (Some s) = s

abbrev pub spots_told :
    Option ((ℕ × (ℕ × ℕ)) × (ℕ × Option (ℕ × (ℕ × ℕ)))) → (ℕ × (ℕ × ℕ)) × (ℕ × (ℕ × (ℕ × ℕ)))
spots_told None = (spot_told None, (absent_number, spot_told None))
spots_told (Some s) = (s.0, (s.1.0, spot_told s.1.1))

abbrev pub position_seen : ValuePosition → (ℕ × (ℕ × ℕ)) × (ℕ × (ℕ × (ℕ × ℕ)))
position_seen p = ((p.offset, (p.line, p.column)), (p.end, (p.name_offset, (p.name_line, p.name_column))))

abbrev pub Locates : List ℕ → List ℕ → List ℕ → List ValuePosition → List ValuePosition → Status → Type 0
Locates text pointers ends before after status.Done =
    (ps : List Tokens) × ArePointers pointers 0 ends ps × IsUtf8 text × (document text ≢ None)
    × (map position_seen after ≡ map (λ p. spots_told (spots text p)) ps)
Locates text pointers ends before after status.Invalid = ⊥
Locates text pointers ends before after status.Misused =
    (after ≡ before) × ((length ends ≢ length before)
    ⊎ ((ps : List Tokens) → AreUtf8 ps → ¬ (ArePointers pointers 0 ends ps)))
Locates text pointers ends before after status.Refused =
    (after ≡ before) × ((ps : List Tokens) × ArePointers pointers 0 ends ps) × (IsUtf8 text → document text ≡ None)
Locates text pointers ends before after status.Failed = after ≡ before
