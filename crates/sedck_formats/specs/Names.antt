-- Where a position is in the parts of a script, this project's own.
use Rattle.std.specs.Prelude.{◌≡◌, ◌≤◌, ◌+◌, ℕ, Bool, not, nat_lt, List, Option, Some, None, string_bytes}
use Rattle.std.specs.List.{filter, last_or}
use Rattle.sedck_report.specs.declared.places.Position.{Position}
use Rattle.sedck_formats.specs.declared.names.PartName.{PartName}
use Rattle.sedck_formats.specs.declared.names.Place.{Place}

-- the part begins at the line, or before it
abbrev pub begins_by : ℕ → PartName → Bool
begins_by line part = not (nat_lt line part.line)

-- the last of the parts that does
abbrev pub part_at : ℕ → List PartName → Option PartName
part_at line parts = last_or None (filter (begins_by line) parts)

-- the name and the line there are those of the part, and those of the whole where there is none; a part's first line is its line 1
abbrev pub IsPlaceIn : List ℕ → Option PartName → Position → Place → Type 0
IsPlaceIn whole None position place = (place.name.now ≡ whole) × (place.line ≡ position.line)
IsPlaceIn whole (Some part) position place =
    (place.name.now ≡ string_bytes part.name) × (1 ≤ part.line → place.line + part.line ≡ position.line + 1)

-- the place of a position in these parts of a script
abbrev pub IsPlace : List ℕ → List PartName → Position → Place → Type 0
IsPlace whole parts position place =
    IsPlaceIn whole (part_at position.line parts) position place × (place.column ≡ position.column)
