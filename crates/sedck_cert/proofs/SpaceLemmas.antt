-- Whether some command is `H`, and the numbers of the limit on the spaces.
use Rattle.sedck_cert.proofs.Common.{◌≡◌, ℕ, ◌<◌, ◌≤◌, inl, inr, refl, is_some, MatchOption, slice_get, cases_lt, Command, Program, HoldAppend, Flow, Edge, Certificate, Accepts, NeverGrows, IsFirstGrowth, AppendsToHold, IsCompact, IsInputSize}
use Rattle.std.specs.Prelude.{false, Option, Some}
use Rattle.sedck_cert.proofs.BoundingLemmas.{grows_nowhere}

-- none of the first commands is `H`
abbrev pub NoneAppends : Program → ℕ → Type 0
NoneAppends p end = (at : ℕ) → at < end → (c : Command) → slice_get p.commands at ≡ Some c → ¬ (c.verb ≡ HoldAppend)

-- nor any, where these are all
pub none_appends : (p : Program) (end : ℕ) → NoneAppends p end → ((at : ℕ) → end ≤ at → (c : Command) → ¬ (slice_get p.commands at ≡ Some c))
    → ¬ AppendsToHold p
none_appends p end none all (at, c, is, appends) = elim (cases_lt at end) [ inl less ↦ none at less c is appends | inr more ↦ all at more c is ]

-- the limit's numbers
pub input_size : IsInputSize (record { per_byte = 1; per_line = 1; fixed = 0 })
input_size = record { per_byte = refl; per_line = refl; fixed = refl }

-- an accepted certificate with no growing edge, for a script without `H`
pub is_compact : (p : Program) (c : Certificate) (found : Option Edge) → Accepts p c → MatchOption found (NeverGrows c (Flow p)) (IsFirstGrowth p c)
    → is_some found ≡ false → ¬ AppendsToHold p → IsCompact p c
is_compact p c found accepts growth none never = record {
  steady = record { accepted = accepts; never_grows = grows_nowhere p c found growth none };
  never_appends = never;
}
