-- Nodes and edges in words, as reports have them.
use Rattle.std.specs.Prelude.{ℕ, Bool, true, false, List, ◌++◌, decimal, codes}
use Rattle.sedck_flow.specs.declared.graph.Node.{Node}
use Rattle.sedck_flow.specs.declared.graph.Edge.{Edge}
use Rattle.sedck_flow.specs.declared.graph.Kind.{Kind}
use Rattle.sedck_flow.specs.declared.graph.Kind.TheVariants.{Consume, Shorten, Keep, Grow}

-- whether the flag is set, and whether the last line has been read
abbrev pub flag_text : Bool → List ℕ
flag_text false = codes "0"
flag_text true = codes "1"

abbrev pub kind_text : Kind → List ℕ
kind_text Consume = codes "consume"
kind_text Shorten = codes "shorten"
kind_text Keep = codes "keep"
kind_text Grow = codes "grow"

-- `at flag last`
abbrev pub node_words : Node → List ℕ
node_words n = decimal n.at ++ codes " " ++ flag_text n.flag ++ codes " " ++ flag_text n.last

-- `at flag last at flag last kind`, the node that is left first
abbrev pub edge_words : Edge → List ℕ
edge_words e = node_words e.from ++ codes " " ++ node_words e.to ++ codes " " ++ kind_text e.kind
