use Rattle.sedck_explain_cli.proofs.Common.{◌≡◌, take, fold, texts_of, after, nothing_asked, asked_of}
use Rattle.sedck_explain_cli.proofs.reading.read_words.Given as goal

-- what the words so far ask for
abbrev pub invariant-loop-word : goal.invariant-loop-word
invariant-loop-word l = asked_of l.reading ≡ fold after nothing_asked (take l.word-index (texts_of l.words))
