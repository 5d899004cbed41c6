use Rattle.std.proofs.Common.{◌≡◌, List, ℕ, Bool, ◌++◌, codes, string_bytes, ap, ◌∙◌, append_assoc, arith}
use Rattle.js_doc.specs.Fragment.{fragment_text}
use Rattle.js_bundle.specs.declared.index.stored_location.StoredLocation.{StoredLocation}
use Rattle.js_doc.specs.declared.token.Notation.TheVariants.{Fragment}
use Rattle.js_bundle.specs.code.StoredLocation.{is_long, repeated}
use Rattle.js_bundle.specs.code.Scan.{site_of}
use Rattle.js_bundle.specs.Location.{canonical, way}
use Rattle.js_bundle.specs.Url.{printed}
use Rattle.js_bundle.proofs.Indexing.SharedTokens.{extended_begins, extended_whole, way_is}
use Rattle.js_bundle.proofs.index.location.next_location.Goals as goal

abbrev kept_as : List ℕ → Bool → StoredLocation
kept_as text long = record { text = text; is_fragment = long }

pub returns-clause-begins : goal.returns-clause-begins
returns-clause-begins c =
    extended_begins _ _ _ _ c.saturating_sub-count.result c.begin_location.new.prefix c.extend.new.self _
    (way_is (site_of c.args.pair.site.now) _ _ _ c.way_from-way.ensures (c.tokens.ensures ∙ c.deref-2.ensures)
    (c.tokens-root.ensures ∙ ap (λ s. s.resource) c.deref.ensures)) c.in_ok-begin_location.ensures.begins
    (omega (arith, c.in_ok-begin_location.ensures.within, c.min.ensures)) c.in_ok-text.ensures

pub returns-clause-location : goal.returns-clause-location
returns-clause-location c =
    let site = site_of c.args.pair.site.now in
    let text : string_bytes c.in_ok-text.text ≡ repeated (canonical site) ++ (codes "#" ++ fragment_text (way site)) =
    extended_whole (repeated (canonical site) ++ codes "#") Fragment (way site) _ c.saturating_sub-count.result
    c.begin_location.new.prefix c.extend.new.self _
    (way_is site _ _ _ c.way_from-way.ensures (c.tokens.ensures ∙ c.deref-2.ensures)
    (c.tokens-root.ensures ∙ ap (λ s. s.resource) c.deref.ensures)) c.in_ok-begin_location.ensures.begins
    (omega (arith, c.in_ok-begin_location.ensures.within, c.min.ensures)) c.in_ok-text.ensures
    ∙ append_assoc (repeated (canonical site)) (codes "#") (fragment_text (way site)) in
    let long : c.is_long.result ≡ is_long (canonical site) =
    c.is_long.ensures ∙ ap is_long (c.printed.ensures ∙ ap (λ s. printed s.base) c.deref-3.ensures) in
    ap (λ t. kept_as t c.is_long.result) (c.new.ensures ∙ text)
    ∙ ap (kept_as (repeated (canonical site) ++ (codes "#" ++ fragment_text (way site)))) long
