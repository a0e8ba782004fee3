use Rattle.sedck_advice.proofs.Common.{◌∙◌, ◌+◌, ◌∷◌, Bool, List, drop, map, sym, ap, list_any, command_of, depends_on_characters, has_locale}
use Rattle.std.proofs.lemmas.List.{at_drop_more}
use Rattle.sedck_script.specs.declared.script.Command.{Command as Coded}
use Rattle.sedck_advice.proofs.Added.{no_error_trans}
use Rattle.sedck_advice.proofs.WeightLemmas.{with_warning, without_warning}
use Rattle.sedck_advice.proofs.locale.locale_warnings.Goals.{then-depends_on_characters+in_ok-push_locale, else-depends_on_characters}
use Rattle.sedck_advice.proofs.locale.locale_warnings.Goals as goal

abbrev any_of : List Coded → Bool
any_of commands = list_any depends_on_characters (map command_of commands)

pub loop-index-preserved : goal.loop-index-preserved
loop-index-preserved c =
    let commands = c.commands-command-items.result.now in
    let i = c.loop-index.index in
    let item = c.command-item.result in
    let was = has_locale c.loop-index.findings.items in
    let known = c.loop-index.invariant in
    let rest = any_of (drop (i + 1) commands) in
    let split = at_drop_more any_of commands i item c.loop-index-test.true
    ∙ ap (λ (x : Coded). any_of (x ∷ drop (i + 1) commands)) (sym c.command-item.is) in
    elim c.if-depends_on_characters.branch [
      | then-depends_on_characters+in_ok-push_locale w ↦
          rw w.findings-is (
            no_error_trans _ _ _ known.0 w.in_ok-push_locale.ensures.added,
            with_warning was _ _ rest _ _ split (sym c.depends_on_characters.ensures ∙ w.if-depends_on_characters.true) w.in_ok-push_locale.ensures.exactly known.1,
          )
      | else-depends_on_characters w ↦
          rw w.findings-is (
            known.0,
            without_warning was _ rest _ _ split (sym c.depends_on_characters.ensures ∙ w.if-depends_on_characters.false) known.1,
          )
    ]
