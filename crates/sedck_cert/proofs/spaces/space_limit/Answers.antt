use Rattle.sedck_cert.proofs.Common.{sym, ◌∙◌, AppendsToHold, IsCompact}
use Rattle.sedck_cert.proofs.SpaceLemmas.{input_size, is_compact}
use Rattle.sedck_cert.proofs.SpacesCounted.{bounds_spaces, bounds_everywhere}
use Rattle.sedck_cert.proofs.spaces.space_limit.Goals as goal

-- no edge grows, and no command is `H`
pub returns-clause-limit : goal.returns-clause-limit
returns-clause-limit c =
    let never : ¬ AppendsToHold c.args.script.now = λ some. let yes = c.appends_to_hold.ensures.1 some in let no = c.if-appends_to_hold.false in cc in
    let compact : IsCompact c.args.script.now c.args.cert.now = is_compact c.args.script.now c.args.cert.now c.first_growth.result c.requires
    c.first_growth.ensures.growth (sym c.is_some.ensures ∙ c.if-is_some.false) never in
    (compact, input_size, bounds_spaces c.args.script.now c.first_growth.ensures.formed c.args.cert.now _ compact input_size)

pub returns-clause-everywhere : goal.returns-clause-everywhere
returns-clause-everywhere c =
    let never : ¬ AppendsToHold c.args.script.now = λ some. let yes = c.appends_to_hold.ensures.1 some in let no = c.if-appends_to_hold.false in cc in
    let compact : IsCompact c.args.script.now c.args.cert.now = is_compact c.args.script.now c.args.cert.now c.first_growth.result c.requires
    c.first_growth.ensures.growth (sym c.is_some.ensures ∙ c.if-is_some.false) never in
    bounds_everywhere c.args.script.now c.first_growth.ensures.formed c.args.cert.now _ compact input_size
