use Rattle.sedck_advice.proofs.Common.{◌≡◌, ◌||◌, drop, map, list_any, command_of, AddsNoError, depends_on_characters, has_locale}
use Rattle.sedck_advice.proofs.locale.locale_warnings.Given as goal

-- what is warned of, with the commands that are left
abbrev pub invariant-loop-index : goal.invariant-loop-index
invariant-loop-index l =
    AddsNoError l.initial.findings.items l.findings.items
    × ((has_locale l.findings.items || list_any depends_on_characters (map command_of (drop l.index l.command-items)))
    ≡ (has_locale l.initial.findings.items || list_any depends_on_characters (map command_of l.command-items)))
