-- Verbs by what they need, and the two kinds of step at a command.
use Rattle.std.specs.Prelude.{◌≡◌}
use Rattle.sedck_script.specs.Program.{Verb, Read, Write, Substitute, Command, Program}
use Rattle.sedck_text.specs.Bytes.{newline}
use Rattle.sedck_flow.specs.Run.{Machine, State, Event, Silent, Does, MayApply, MaySkip, skip, posix}

-- the verb touches no file and matches nothing
abbrev pub IsPlain : Verb → Type 0
IsPlain (Read name) = ⊥
IsPlain (Write name) = ⊥
IsPlain (Substitute substitution) = ⊥
IsPlain _ = Unit {0}

abbrev pub Applies : Program → Command → Machine → Event → State → Type 0
Applies p c m e s = MayApply posix p c m × Does posix newline p c.address c.verb m e s

abbrev pub Skips : Program → Command → Machine → Event → State → Type 0
Skips p c m e s = MaySkip posix p c m × (e ≡ Silent) × (s ≡ skip c.verb m)
