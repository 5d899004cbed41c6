-- The assertion that a keyword of a place is, by its name.
use Rattle.std.specs.Prelude.{◌≡◌, ℕ, true, ◌∷◌, Option, Some, None, unwrap_or, option_and_then, length, refl}
use Rattle.std.proofs.Common.{◌∙◌, ap}
use Rattle.std.proofs.lemmas.Option.{slice_get-get_or}
use borrow.Author.Tests.{ltb-true}
use Rattle.js_doc.specs.Members.{get}
use Rattle.js_doc.specs.Value.{Value, null, truth, whole, text, list, object, Members, no_members, member}
use Rattle.js_assert.specs.Argument.{entries}
use Rattle.js_assert.specs.Assertion.{Asserted, asserted}
use Rattle.js_bundle.specs.Document.{Documents}
use Rattle.js_doc.specs.Parts.{members_of}
use Rattle.js_bundle.specs.Resource.{Site, sites}
use Rattle.js_bundle.specs.Schemas.{is_place, place_at, assertion}
use Rattle.js_eval.specs.Bundle.{schemas_of}
use Rattle.js_eval.specs.Keywords.{Member}
use Rattle.js_eval.specs.Sited.{numbered_site, nowhere}
use Rattle.js_eval.specs.Walk.Progress.{IsKeywordAt}

of_object : (ms : Members) → members_of (object ms) ≡ entries (object ms)
of_object no_members = refl
of_object (member name v ms) = ap (λ more. (name, v) ∷ more) (of_object ms)

pub same_members : (v : Value) → members_of v ≡ entries v
same_members null = refl
same_members (truth b) = refl
same_members (whole z) = refl
same_members (text t) = refl
same_members (list vs) = refl
same_members (object ms) = of_object ms

some_is : (o : Option Site) (s : Site) → o ≡ Some s → o ≡ Some (unwrap_or o nowhere)
some_is None s e = absurd cc
some_is (Some x) s e = refl

pub place_is : (documents : Documents) (n : ℕ) → is_place documents n ≡ true
    → place_at documents n ≡ Some (numbered_site documents n)
place_is documents n h = some_is (place_at documents n) _
    (slice_get-get_or (sites documents) n nowhere (ltb-true n (length (sites documents)) h))

at_site : (s : Site) (k : Member) → get k.0 (entries s.schema) ≡ Some k.1
    → assertion k.0 s ≡ asserted k.0 k.1 (entries s.schema)
at_site s k e =
    let same = same_members s.schema in
    let found : get k.0 (members_of s.schema) ≡ Some k.1 = ap (get k.0) same ∙ e in
    ap (λ o. option_and_then (λ v. asserted k.0 v (members_of s.schema)) o) found ∙ ap (λ ms. asserted k.0 k.1 ms) same

pub assertion_is : (documents : Documents) (n : ℕ) (k : Member) (o : Option Asserted) → is_place documents n ≡ true
    → IsKeywordAt (schemas_of documents) (numbered_site documents n) k
    → o ≡ option_and_then (assertion k.0) (place_at documents n)
    → o ≡ asserted k.0 k.1 (entries (numbered_site documents n).schema)
unfolding IsKeywordAt
assertion_is documents n k o h there e =
    e ∙ (ap (option_and_then (assertion k.0)) (place_is documents n h) ∙ at_site (numbered_site documents n) k there)
