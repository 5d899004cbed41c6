-- A step says how a part is held on, whether it goes or not.
use Rattle.std.proofs.Common.{◌≡◌, [], ◌∷◌, ◌++◌, Option, Some, None, cond, is_none, option_map, refl, sym, ap, ap₂}
use Rattle.std.proofs.Common.{◌∙◌}
use Rattle.js_doc.specs.Pointer.{Tokens}
use Rattle.js_doc.specs.Value.{Value}
use Rattle.js_upgrade.specs.Apart.{crosses, held_on, onward}
use Rattle.js_upgrade.specs.Moved.{TokenStep}
use Rattle.js_upgrade.specs.code.Onward.{goes_over, kept_on}
use Rattle.js_upgrade.specs.declared.dialect.Dialect.{Dialect}
use Rattle.js_upgrade.specs.declared.holding.SchemaHolding.{SchemaHolding}
use Rattle.js_upgrade.specs.declared.holding.SchemaHolding.TheVariants.{Nothing}
use Rattle.js_upgrade.specs.declared.moving.Held.{Held}

goes_so : (s : TokenStep) (part : Value) (rest : Tokens)
    → goes_over s.holding s.dialect part rest ≡ crosses s part rest
goes_so s part [] = refl
goes_so s part (token ∷ rest) = refl

onward_is : (s : TokenStep) (h kept : SchemaHolding) (d : Dialect) (part : Value) (rest : Tokens) → h ≡ s.holding
    → d ≡ s.dialect → kept ≡ held_on s → kept_on h d kept part rest ≡ onward s part rest
onward_is s h kept d part rest same of held =
    ap₂ (λ g e. kept_on g e kept part rest) same of
    ∙ ap (λ k. kept_on s.holding s.dialect k part rest) held
    ∙ ap (λ b. cond b None (Some (record { holding = held_on s; dialect = s.dialect }))) (goes_so s part rest)

stays_held : (h : SchemaHolding) (old : Tokens) (into : Option Tokens) (new : Tokens)
    → option_map (λ ts. old ++ ts) into ≡ Some new → h ≡ cond (is_none into) Nothing h
stays_held h old None new e = absurd (cc)
stays_held h old (Some ts) new e = refl

pub stepped_on : (s : TokenStep) (below : Held) (old new : Tokens) (part : Value) (rest : Tokens)
    → below.holding ≡ s.holding → below.dialect ≡ s.dialect → option_map (λ ts. old ++ ts) s.into ≡ Some new
    → kept_on below.holding below.dialect below.holding part rest ≡ onward s part rest
stepped_on s below old new part rest same of pushed =
    onward_is s below.holding below.holding below.dialect part rest same of
    (same ∙ stays_held s.holding old s.into new pushed)

pub gone_on : (s : TokenStep) (below : Held) (part : Value) (rest : Tokens)
    → below.holding ≡ s.holding → below.dialect ≡ s.dialect → s.into ≡ None
    → kept_on below.holding below.dialect Nothing part rest ≡ onward s part rest
gone_on s below part rest same of gone =
    onward_is s below.holding Nothing below.dialect part rest same of
    (sym (ap (λ into. cond (is_none into) Nothing s.holding) gone))
