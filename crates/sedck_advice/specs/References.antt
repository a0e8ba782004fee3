-- Which scripts have a reference to a group in an expression, this project's own. One in a replacement isn't meant.
use Rattle.std.specs.Prelude.{◌||◌, Bool, true, false}
use Rattle.std.specs.List.{list_any}
use Rattle.sedck_bre.specs.Tree.{Tree, Trees, Group, Ref, Seq, Repeat, Nil, Then}
use Rattle.sedck_script.specs.Program.{Program, Command}
use Rattle.sedck_script.specs.ByteSafe.{command_expressions}

abbrev mutual
  -- a reference is in the tree
  pub has_reference : Tree → Bool
  has_reference (Ref k) = true
  has_reference (Group k body) = has_reference body
  has_reference (Seq ts) = one_has_reference ts
  has_reference (Repeat body least most) = has_reference body
  has_reference _ = false

  pub one_has_reference : Trees → Bool
  one_has_reference Nil = false
  one_has_reference (Then t ts) = has_reference t || one_has_reference ts

-- one is in an expression of the command
abbrev pub refers : Command → Bool
refers c = list_any has_reference (command_expressions c)

-- one is in an expression of the script
abbrev pub has_references : Program → Bool
has_references p = list_any refers p.commands
