use Rattle.sedck_explain_cli.proofs.Common.{◌∙◌, ap, asked_of}
use Rattle.sedck_explain_cli.proofs.Readings.{next_asked, bytes_of}
use Rattle.sedck_explain_cli.proofs.reading.read_words.Goals as goal

pub loop-word-preserved : goal.loop-word-preserved
loop-word-preserved c =
    c.in_ok-add.ensures ∙ next_asked c.args.words.now c.loop-word.word-index c.word-item.result (asked_of c.loop-word.reading) c.deref.result.now
    c.loop-word.invariant c.loop-word-test.true (c.deref.ensures ∙ ap bytes_of c.word-item.is)
