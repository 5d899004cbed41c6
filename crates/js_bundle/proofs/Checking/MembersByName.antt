-- Each of an object's members is what stands under its name.
use Rattle.std.proofs.Common.{◌≡◌, [], ◌∷◌, Some, None, sym, ap, ◌∙◌}
use Rattle.js_doc.specs.Members.{get, IsAscending}
use Rattle.js_doc.specs.Value.{Value, Named, object, members}
use Rattle.js_doc.proofs.FiniteMaps.{get_past, get_here, get_below}
use Rattle.js_bundle.specs.Keyword.{Text, argument}
use Rattle.js_doc.proofs.PartLists.{member_list-members}

pub ruleset listed_members = (member_list-members)

-- each of these stands so in the whole
abbrev pub StandIn : Named → Named → Type 0
StandIn whole [] = Unit {0}
StandIn whole (m ∷ ms) = (get m.0 whole ≡ Some m.1) × StandIn whole ms

one_more : (m : Text × Value) (whole ms : Named) → get m.0 whole ≡ None → StandIn whole ms → StandIn (m ∷ whole) ms
one_more m whole [] none h = tt
one_more m whole (n ∷ ms) none h = (
  get_past n.0 m whole (λ same. let both : None ≡ Some n.1 = sym none ∙ ap (λ k. get k whole) (sym same) ∙ h.0 in
      absurd (cc)) ∙ h.0,
  one_more m whole ms none h.1,
)

pub each_stands : (ms : Named) → IsAscending ms → StandIn ms ms
each_stands [] h = tt
each_stands (m ∷ ms) h = (get_here m.0 m.1 ms, one_more m ms ms (get_below m.0 ms h.0 h.1) (each_stands ms h.1))

pub argument_stands : (schema v : Value) (whole : Named) (k : Text) → schema ≡ object (members whole)
    → get k whole ≡ Some v → argument k schema ≡ Some v
argument_stands schema v whole k is stands = ap (argument k) is ∙ ap (get k) (member_list-members whole) ∙ stands
