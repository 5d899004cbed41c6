use Rattle.js_doc.specs.Seen.{value_of}
use Rattle.js_output.proofs.Recorded.{flag_shown, basic_shown, detailed_shown, merged_shown, verbose_shown}
use Rattle.js_output.proofs.RowsThere.{kept_there}
use Rattle.js_output.proofs.prepared.Prepared.new.Goals as goal

pub returns-in_ok-valid-in-Flag-clause-prepared : goal.returns-in_ok-valid-in-Flag-clause-prepared
returns-in_ok-valid-in-Flag-clause-prepared c =
    flag_shown c.args.limits c.args.schemas.now c.args.place (value_of c.args.instance.now) c.requires c.args.format
    c.in_ok-valid-in-Flag.valid c.in-Flag.is c.in_ok-valid-in-Flag.ensures.ok

pub returns-in_ok-rows-in-Basic-clause-prepared : goal.returns-in_ok-rows-in-Basic-clause-prepared
returns-in_ok-rows-in-Basic-clause-prepared c =
    basic_shown c.args.limits c.args.schemas.now c.args.place (value_of c.args.instance.now) c.requires c.args.format
    c.in_ok-rows-in-Basic.rows c.with_room.result c.with_room.ensures.shown
    c.in-Basic.is c.in_ok-rows-in-Basic.ensures.ok

pub returns-in_ok-rows-in-Detailed-clause-prepared : goal.returns-in_ok-rows-in-Detailed-clause-prepared
returns-in_ok-rows-in-Detailed-clause-prepared c =
    detailed_shown c.args.limits c.args.schemas.now c.args.place (value_of c.args.instance.now) c.requires c.args.format
    c.in_ok-rows-in-Detailed.rows c.with_room-in-Detailed.result
    c.with_room-in-Detailed.ensures.shown c.in_ok-noted-in-Detailed.noted c.in-Detailed.is
    c.in_ok-rows-in-Detailed.ensures c.in_ok-noted-in-Detailed.ensures.ok

pub prepared_merged-requires : goal.prepared_merged-requires
prepared_merged-requires c =
    let (t, is, stands, are) = kept_there c.args.limits c.args.schemas.now c.args.place (value_of c.args.instance.now)
    c.requires
    c.in_ok-noted-in-Merged.noted c.in_ok-rows-in-Merged.rows
    c.in_ok-rows-in-Merged.ensures c.in_ok-noted-in-Merged.ensures.ok in
    (t, are)

pub returns-in_ok-rows-in-Merged-clause-prepared : goal.returns-in_ok-rows-in-Merged-clause-prepared
returns-in_ok-rows-in-Merged-clause-prepared c =
    merged_shown c.args.limits c.args.schemas.now c.args.place (value_of c.args.instance.now) c.requires c.args.format
    c.in_ok-noted-in-Merged.noted c.in_ok-rows-in-Merged.rows c.prepared_merged.result
    c.in-Merged.is c.in_ok-rows-in-Merged.ensures c.in_ok-noted-in-Merged.ensures.ok c.prepared_merged.ensures.shown

pub returns-in_ok-rows-in-Verbose-clause-prepared : goal.returns-in_ok-rows-in-Verbose-clause-prepared
returns-in_ok-rows-in-Verbose-clause-prepared c =
    verbose_shown c.args.limits c.args.schemas.now c.args.place (value_of c.args.instance.now) c.requires c.args.format
    c.in_ok-rows-in-Verbose.rows c.with_room-in-Verbose.result
    c.with_room-in-Verbose.ensures.shown c.in-Verbose.is c.in_ok-rows-in-Verbose.ensures.ok
