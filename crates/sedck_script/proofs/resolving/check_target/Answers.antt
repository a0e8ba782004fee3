use Rattle.sedck_script.proofs.Common.{refl, sym, ◌∙◌}
use Rattle.sedck_commands.proofs.FlagLemmas.{none_of}
use Rattle.sedck_script.proofs.resolving.check_target.Goals as goal

pub returns-then-is_none-clause-first : goal.returns-then-is_none-clause-first
returns-then-is_none-clause-first c =
    let command = c.in-Some.ensures.command in (
      command.0,
      c.in-Some.name.now,
      command.1,
      c.in-Some.ensures.some,
      sym c.place_of.ensures ∙ none_of _ c.if-is_none.ensures,
      λ text at. (c.in-Some.offset, refl, command.2 text at),
    )
