-- What a user sees of a pattern and of the parts of a replacement. It is a file of its own, since what a substitution knows of its
-- matches is said of these.
use Rattle.sedck_commands.specs.Program as clean
use Rattle.sedck_commands.specs.declared.types.Pattern.{Pattern}
use Rattle.sedck_commands.specs.declared.types.Pattern.TheVariants as pattern
use Rattle.sedck_commands.specs.declared.types.Part.{Part}
use Rattle.sedck_commands.specs.declared.types.Part.TheVariants as part

abbrev pub pattern_of : Pattern → clean.Pattern
pattern_of pattern.Previous = clean.Previous
pattern_of (pattern.Expr e) = clean.Expression e

abbrev pub part_of : Part → clean.Part
part_of (part.Text t) = clean.Text t.now
part_of part.Newline = clean.Newline
part_of part.Tab = clean.Tab
part_of part.Whole = clean.Whole
part_of (part.Group k) = clean.Group k
