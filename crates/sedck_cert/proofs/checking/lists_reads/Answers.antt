use Rattle.sedck_cert.proofs.Common.{sym, ◌∙◌, NamesForReading}
use Rattle.sedck_script.specs.Names.{reads as names_of_script}
use Rattle.sedck_cert.proofs.NamesListed.{reads_listed, only_list}
use Rattle.sedck_cert.proofs.checking.lists_reads.Goals as goal

-- the sorted names of the script are the only list
pub returns : goal.returns
returns c =
    let only = only_list (NamesForReading c.args.script.now) (names_of_script c.args.script.now) c.args.cert.now.reads (reads_listed c.args.script.now) in (
      λ yes. only.0 (sym c.reads-2.ensures ∙ c.are_names.ensures.0 yes ∙ c.reads.ensures),
      λ lists. c.are_names.ensures.1 (c.reads-2.ensures ∙ only.1 lists ∙ sym c.reads.ensures),
    )
