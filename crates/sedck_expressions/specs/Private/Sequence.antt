-- Values of the code one after another, as one tree.
use Rattle.std.specs.Prelude.{List, map}
use Rattle.sedck_expressions.specs.Tree.{Tree, Seq, trees}
use Rattle.sedck_expressions.specs.declared.tree.Bre.{Bre}
use Rattle.sedck_expressions.specs.View.{tree}

-- the trees of these values, one after another
abbrev pub sequence : List Bre → Tree
sequence items = Seq (trees (map tree items))
