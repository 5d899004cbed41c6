-- What a keyword says at a place, by its kind.
use Rattle.std.specs.Prelude.{◌≡◌, ℕ, Bool, true, List, refl}
use Rattle.std.proofs.Common.{sym, ◌∙◌, ap}
use Rattle.js_doc.specs.Value.{Value}
use Rattle.js_assert.specs.Argument.{entries}
use Rattle.js_tree.specs.Note.{Note, silent}
use Rattle.js_eval.specs.Keywords.{Member}
use Rattle.js_keyword.specs.Keyword.{which_keyword}
use Rattle.js_eval.specs.SchemaSet.{Text, SchemaSet}
use Rattle.js_eval.specs.code.Leaves.{is_assertion}
use Rattle.js_eval.specs.Walk.Said.{keyword_says}
use Rattle.js_eval.specs.Walk.Progress.{kind_at, says_at}
use Rattle.js_keyword.specs.declared.keyword.Keyword.{Keyword}
use Rattle.js_keyword.specs.declared.keyword.Keyword.TheVariants.{Assertion}

pub says_there : {P : Type 0} (S : SchemaSet P) (place : P) (v : Value) (matching : ℕ) (k : Member) (succeeded : ℕ)
    (given : List Text) (at : List ℕ) (b passes : Bool) (κ : Keyword) (n : Note)
    → κ ≡ which_keyword k.0 → passes ≡ b → n ≡ keyword_says (entries (S.schema place)) v matching k succeeded given
    at b κ
    → n ≡ says_at S place v matching k succeeded given at passes
unfolding says_at
says_there S place v matching k succeeded given at b passes κ n e f h =
    h ∙ (ap (λ c. keyword_says (entries (S.schema place)) v matching k succeeded given at b c) e
    ∙ sym (ap (λ c. keyword_says (entries (S.schema place)) v matching k succeeded given at c (which_keyword k.0)) f))

-- an assertion that passes has no note
says_nothing : {P : Type 0} (S : SchemaSet P) (place : P) (v : Value) (matching : ℕ) (k : Member) (succeeded : ℕ)
    (given : List Text) (at : List ℕ) (κ : Keyword) → is_assertion κ ≡ true
    → keyword_says (entries (S.schema place)) v matching k succeeded given at true κ ≡ silent
says_nothing S place v matching k succeeded given at (Assertion _) e = refl
says_nothing S place v matching k succeeded given at _ e = cc

pub assertion_is_silent : {P : Type 0} (S : SchemaSet P) (place : P) (v : Value) (matching : ℕ) (k : Member)
    (succeeded : ℕ)
    (given : List Text) (at : List ℕ) → is_assertion (kind_at k) ≡ true
    → says_at S place v matching k succeeded given at true ≡ silent
unfolding says_at kind_at
assertion_is_silent S place v matching k succeeded given at e =
    says_nothing S place v matching k succeeded given at (which_keyword k.0) e
