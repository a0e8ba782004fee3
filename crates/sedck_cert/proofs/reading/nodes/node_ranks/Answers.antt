use Rattle.sedck_cert.proofs.Common.{◌++◌, codes, append_assoc, sym, ◌∙◌, AreWithin, words_in, ranks_text}
use Rattle.sedck_cert.proofs.CutLemmas.{read_behind}
use Rattle.sedck_cert.proofs.reading.nodes.node_ranks.Goals as goal

pub returns : goal.returns
returns c =
    let words = words_in c.args.version c.args.index in
    read_behind AreWithin ranks_text _ (words ++ codes " ") _ c.ranks.result (c.in_ok-behind_words.ensures ∙ sym (append_assoc words (codes " ") _)) c.ranks.ensures
