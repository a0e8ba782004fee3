-- What is warned of where the locale may be one of UTF-8, this project's own: where a script isn't byte safe.
use Rattle.std.specs.Prelude.{Bool}
use Rattle.std.specs.List.{list_any}
use Rattle.sedck_script.specs.Program.{Program}
use Rattle.sedck_script.specs.ByteSafe.{depends_on_characters}

-- one of the script's commands says something else by characters than by bytes: a script of which this is false is byte safe
abbrev pub depends_on_locale : Program → Bool
depends_on_locale p = list_any depends_on_characters p.commands
