use Rattle.js_upgrade.proofs.LocalFragments.{bare_itself, bare_stays, none_there}
use Rattle.js_upgrade.proofs.uri.is_bare.Goals as goal

pub returns-then-is_none-clause-local : goal.returns-then-is_none-clause-local
returns-then-is_none-clause-local c = λ bare.
    let url = c.args.url.now in
    bare_stays url
    (none_there c.query.result url.query c.is_none.result c.query.ensures.value c.is_none.ensures c.if-is_none.true)
    (none_there c.fragment.result url.fragment c.is_none-then-is_none.result c.fragment.ensures.value
    c.is_none-then-is_none.ensures bare)

pub returns-then-is_none-clause-stays : goal.returns-then-is_none-clause-stays
returns-then-is_none-clause-stays c = λ bare.
    let url = c.args.url.now in
    bare_itself url
    (none_there c.query.result url.query c.is_none.result c.query.ensures.value c.is_none.ensures c.if-is_none.true)
    (none_there c.fragment.result url.fragment c.is_none-then-is_none.result c.fragment.ensures.value
    c.is_none-then-is_none.ensures bare)
