-- What holds of each member.
use Rattle.std.proofs.Common.{◌≡◌, [], ◌∷◌, ◌++◌, Ordering, Less, Equal, Greater, refl, subst}
use Rattle.std.specs.Ordering.{match_ordering}
use Rattle.js_doc.specs.Value.{Value, Text, Named, Members, no_members, member, members}
use Rattle.js_doc.specs.Members.{name_cmp, put}
use Rattle.js_doc.specs.Parts.{member_list}
use Rattle.js_doc.proofs.FiniteMaps.{name_equal}
use Rattle.js_upgrade.specs.Current.{AreCurrent, IsCurrent}
use Rattle.js_upgrade.specs.Schema.{gathered_members, put_all}
use Rattle.js_upgrade.specs.declared.holding.SchemaHolding.{SchemaHolding}

abbrev pub Each : (Text → Value → Type 0) → Named → Type 0
Each P [] = Unit {0}
Each P (m ∷ ms) = P m.0 m.1 × Each P ms

put_by : (P : Text → Value → Type 0) (k : Text) (v : Value) (m : Text × Value) (ms : Named) (o : Ordering)
    → name_cmp k m.0 ≡ o → P k v → Each P (m ∷ ms) → Each P (put k v ms)
    → Each P (match_ordering o ((k, v) ∷ m ∷ ms) ((m.0, v) ∷ ms) (m ∷ put k v ms))
put_by P k v m ms Less is p e more = (p, e)
put_by P k v m ms Equal is p e more = (subst (λ n. P n v) (name_equal k m.0 is) p, e.1)
put_by P k v m ms Greater is p e more = (e.0, more)

pub each_put : (P : Text → Value → Type 0) (k : Text) (v : Value) (ms : Named) → P k v → Each P ms
    → Each P (put k v ms)
each_put P k v [] p e = (p, tt)
each_put P k v (m ∷ ms) p e = put_by P k v m ms (name_cmp k m.0) refl p e (each_put P k v ms p e.1)

pub each_put_all : (P : Text → Value → Type 0) (ms among : Named) → Each P ms → Each P among
    → Each P (put_all ms among)
each_put_all P [] among e f = f
each_put_all P (m ∷ ms) among e f = each_put_all P ms (put m.0 m.1 among) e.1 (each_put P m.0 m.1 among e.0 f)

pub each_gathered : (P Q : Text → Value → Type 0) (f : Text → Value → Named)
    → ((k : Text) (v : Value) → Q k v → Each P (f k v)) → (ms among : Named) → Each Q ms → Each P among
    → Each P (gathered_members f ms among)
each_gathered P Q f next [] among e g = g
each_gathered P Q f next (m ∷ ms) among e g =
    each_gathered P Q f next ms (put_all (f m.0 m.1) among) e.1
    (each_put_all P (f m.0 m.1) among (next m.0 m.1 e.0) g)

pub each_append : (P : Text → Value → Type 0) (ms ns : Named) → Each P ms → Each P ns → Each P (ms ++ ns)
each_append P [] ns e f = f
each_append P (m ∷ ms) ns e f = (e.0, each_append P ms ns e.1 f)

pub are_current : (held : Text → SchemaHolding) (ms : Named) → Each (λ k v. IsCurrent (held k) v) ms
    → AreCurrent held (members ms)
are_current held [] e = tt
are_current held (m ∷ ms) e = (e.0, are_current held ms e.1)

pub each_current : (held : Text → SchemaHolding) (ms : Members) → AreCurrent held ms
    → Each (λ k v. IsCurrent (held k) v) (member_list ms)
each_current held no_members c = tt
each_current held (member name v ms) c = (c.0, each_current held ms c.1)
