-- What stands behind the last slash.
use Rattle.std.proofs.Common.{◌≡◌, ◌∙◌, ℕ, ◌+◌, ◌-◌, ◌<◌, [], ◌∷◌, length, Bool, true, false, not}
use Rattle.std.proofs.Common.{cond, drop, suc, refl, sym, ap, arith}
use Rattle.std.proofs.lemmas.List.{length-drop}
use Rattle.std.specs.List.{after_first, position_or_len}
use Rattle.js_upgrade_cli.specs.Names.{is_slash, name_after, file_name_of}
use Rattle.js_doc.specs.Value.{Text}

abbrev before : Text → ℕ
before bs = position_or_len is_slash bs

-- where the first byte is a slash or not
abbrev place : Bool → Text → ℕ
place v bs = cond (not v) (1 + before bs) 0

-- behind the first slash, if there is one
past_by : (kept : Text) (b : ℕ) (bs : Text) (v : Bool)
    → (before bs < length bs
    → name_after kept bs ≡ name_after (drop (before bs + 1) bs) (drop (before bs + 1) bs))
    → place v bs < length (b ∷ bs)
    → cond v (name_after bs bs) (name_after kept bs)
    ≡ name_after (drop (place v bs + 1) (b ∷ bs)) (drop (place v bs + 1) (b ∷ bs))
past_by kept b bs true further h = refl
past_by kept b bs false further h =
    let same : suc (before bs + 1) ≡ 1 + before bs + 1 = omega arith in
    further (omega (arith, h)) ∙ ap (λ n. name_after (drop n (b ∷ bs)) (drop n (b ∷ bs))) same

past : (kept bs : Text) → before bs < length bs
    → name_after kept bs ≡ name_after (after_first is_slash bs) (after_first is_slash bs)
past kept [] h = absurd (omega (arith, h))
past kept (b ∷ bs) h = past_by kept b bs (is_slash b) (past kept bs) h

pub name_past : (path rest : Text) → rest ≡ after_first is_slash path → position_or_len is_slash path < length path
    → file_name_of rest ≡ file_name_of path
name_past path rest is h = ap file_name_of is ∙ sym (past path path h)

-- it is all, if there is none
none_by : (kept : Text) (b : ℕ) (bs : Text) (v : Bool) → (before bs ≡ length bs → name_after kept bs ≡ kept)
    → place v bs ≡ length (b ∷ bs) → cond v (name_after bs bs) (name_after kept bs) ≡ kept
none_by kept b bs true further h = absurd (omega (arith, h))
none_by kept b bs false further h = further (omega (arith, h))

none : (kept bs : Text) → before bs ≡ length bs → name_after kept bs ≡ kept
none kept [] h = refl
none kept (b ∷ bs) h = none_by kept b bs (is_slash b) (none kept bs) h

pub name_whole : (path : Text) → position_or_len is_slash path ≡ length path → file_name_of path ≡ path
name_whole path h = none path path h

-- what stands behind a slash is shorter
pub behind_is_shorter : (path rest : Text) → rest ≡ after_first is_slash path
    → position_or_len is_slash path < length path → length rest < length path
behind_is_shorter path rest is h =
    let left : length rest ≡ length path - (position_or_len is_slash path + 1) =
    ap length is ∙ length-drop (position_or_len is_slash path + 1) path in
    omega (arith, left, h)

pub ruleset slash_rules = (name_past, name_whole, behind_is_shorter)
