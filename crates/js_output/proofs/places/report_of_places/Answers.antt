use Rattle.std.proofs.Common.{◌++◌, string_bytes, ap, ◌∙◌}
use Rattle.js_output.proofs.Sites.{place_there, reported_more, reported_all, count_is}
use Rattle.js_output.proofs.places.report_of_places.Goals as goal

pub absolute-requires : goal.absolute-requires
absolute-requires c =
    place_there c.args.schemas.now c.as_slice-place-items.result.now c.loop-place.place-index c.place-item.result
    (c.as_slice-place-items.ensures.value ∙ c.in_ok-places.ensures) c.loop-place-test.true
    c.place-item.is

pub loop-place-preserved : goal.loop-place-preserved
unfolding lib.Utf8.encode
loop-place-preserved c =
    reported_more c.args.schemas.now c.as_slice-place-items.result.now c.loop-place.place-index c.place-item.result
    (string_bytes c.loop-place.text) (string_bytes c.in_ok-location.location)
    (string_bytes c.push_str.new.self) (string_bytes c.push.new.self) (c.as_slice-place-items.ensures.value
    ∙ c.in_ok-places.ensures) c.loop-place-test.true c.place-item.is c.in_ok-location.ensures
    (c.in_ok-push_str.ensures.bytes ∙ ap (λ t. string_bytes c.loop-place.text ++ t) c.as_str.ensures.value)
    c.in_ok-push.ensures.bytes c.loop-place.invariant

pub returns-clause-text : goal.returns-clause-text
returns-clause-text c =
    reported_all c.args.schemas.now c.as_slice-place-items.result.now c.loop-place.place-index
    (string_bytes c.loop-place.text) (c.as_slice-place-items.ensures.value ∙ c.in_ok-places.ensures)
    c.loop-place-test.false c.loop-place.invariant

pub returns-clause-count : goal.returns-clause-count
returns-clause-count c = c.len.ensures ∙ c.in_ok-places.places.ok.0
    ∙ count_is c.args.schemas.now c.in_ok-places.places.items c.in_ok-places.ensures
