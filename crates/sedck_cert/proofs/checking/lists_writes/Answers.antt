use Rattle.sedck_cert.proofs.Common.{sym, ◌∙◌, NamesForWriting, names_of_script}
use Rattle.sedck_cert.proofs.NamesListed.{writes_listed, only_list}
use Rattle.sedck_cert.proofs.checking.lists_writes.Goals as goal

-- the sorted names of the script are the only list
pub returns : goal.returns
returns c =
    let only = only_list (NamesForWriting c.args.script.now) (names_of_script c.args.script.now) c.args.cert.now.writes (writes_listed c.args.script.now) in (
      λ yes. only.0 (sym c.writes-2.ensures ∙ c.are_names.ensures.0 yes ∙ c.writes.ensures),
      λ lists. c.are_names.ensures.1 (c.writes-2.ensures ∙ only.1 lists ∙ sym c.writes.ensures),
    )
