-- Scripts that never change the pattern space without reading a line.
use Rattle.sedck_commands.specs.Program.{Program}
use Rattle.sedck_flow.specs.Flow.{Flow}
use Rattle.sedck_flow.specs.declared.graph.Edge.{Edge}
use Rattle.sedck_flow.specs.declared.graph.Kind.{Kind}
use Rattle.sedck_search.specs.Private.Reaching.{IsFollowed}
use Rattle.sedck_search.specs.declared.filter.EdgeFilter.TheVariants.{Unread, Kept}

-- on an edge of this kind the pattern space is kept, where no line is read
abbrev pub KeepsOrReads : Kind → Type 0
KeepsOrReads kind = IsFollowed Unread kind → IsFollowed Kept kind

-- so it is on each edge of the script
abbrev pub KeepsSpace : Program → Type 0
KeepsSpace p = (e : Edge) → Flow p e → KeepsOrReads e.kind
