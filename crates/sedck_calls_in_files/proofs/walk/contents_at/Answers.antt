use Rattle.sedck_calls_in_files.proofs.Common.{◌∙◌, sym, on_ok}
use Rattle.sedck_calls_in_files.proofs.Contents.{held_input, held_file}
use Rattle.sedck_calls_in_files.proofs.walk.contents_at.Goals as goal

pub returns-then-eq : goal.returns-then-eq
returns-then-eq g c = on_ok _ _ c.contents_of.result
    (λ contents held. held_input (g.O.Opener.known c.args.walk.now.files.now) c.args.path.now _ _ contents (sym c.eq.ensures ∙ c.if-eq.true) held) c.contents_of.ensures

pub returns-in-Ok : goal.returns-in-Ok
returns-in-Ok g c = on_ok _ _ c.contents_of-in-Ok.result
    (λ contents held. held_file (g.O.Opener.known c.args.walk.now.files.now) c.args.path.now _ _ contents (sym c.eq.ensures ∙ c.if-eq.false) c.in-Ok.ensures.bytes
    (c.open.ensures.failing c.contents_of-in-Ok.new.source) held) c.contents_of-in-Ok.ensures
