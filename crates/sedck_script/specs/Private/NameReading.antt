-- The names that commands read, or write.
use Rattle.std.specs.Prelude.{ℕ, List, flat_map}
use Rattle.sedck_commands.specs.Program.{Command}
use Rattle.sedck_script.specs.Names.{accessed}
use Rattle.sedck_commands.specs.declared.names.Access.{Access}

abbrev pub all_accessed : Access → List Command → List (List ℕ)
all_accessed a cs = flat_map (λ c. accessed a c.verb) cs
