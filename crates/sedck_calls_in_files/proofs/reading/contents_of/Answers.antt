use Rattle.sedck_calls_in_files.proofs.Common.{◌≤◌, length, arith}
use Rattle.std.proofs.lemmas.Grind.{common_steps}
use Rattle.sedck_calls_in_files.proofs.Contents.{text_read}
use Rattle.sedck_calls_in_files.proofs.reading.contents_of.Goals as goal

pub returns : goal.returns
returns g c =
    let text = c.extend_from_slice.new.self.items in
    let within : length text ≤ 4194304 = grind (arith, common_steps, c.len.ensures, c.if-len-gt-LIMIT.false) in
    text_read (g.S.Source.left c.args.source.now) (g.S.Source.left c.read_up_to.new.source) c.in-Ok.head.items c.in-Ok-read_up_to.rest.items
    c.deref-2.result.now text c.in-Ok.ensures.taken c.in-Ok.ensures.read c.in-Ok-read_up_to.ensures.read
    c.in_ok-extend_from_slice.ensures.items c.deref-2.ensures.value within
