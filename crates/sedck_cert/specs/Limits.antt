-- The limits that are known of a script's runs, for those who explain them.
use Rattle.std.specs.Prelude.{Bool, ◌&&◌, is_none}
use Rattle.sedck_script.specs.Program.{Program}
use Rattle.sedck_cert.specs.Certificate.{Certificate}
use Rattle.sedck_cert.specs.Headline.{IsLimit}
use Rattle.sedck_cert.specs.Bounds.{IsLimitByLines}
use Rattle.sedck_cert.specs.SpaceLimit.{IsSpaceLimit, IsSpaceLimitEverywhere}
use Rattle.sedck_cert.specs.Everywhere.{IsLimitEverywhere}
use Rattle.sedck_cert.specs.declared.limits.Limits.{Limits}

-- each limit is one of the script's runs, and is there where it can be
pub record AreLimits (p : Program) (c : Certificate) (limits : Limits) : Type 0 where
  pub steps : IsLimit p c limits.steps
  pub by_lines : IsLimitByLines p c limits.by_lines
  pub spaces : IsSpaceLimit p c limits.spaces

-- and of its wide runs
pub record AreLimitsEverywhere (p : Program) (limits : Limits) : Type 0 where
  pub steps : IsLimitEverywhere p limits.steps
  pub by_lines : IsLimitEverywhere p limits.by_lines
  pub spaces : IsSpaceLimitEverywhere p limits.spaces

-- no limit on the steps is known
abbrev pub is_unbounded : Limits → Bool
is_unbounded limits = is_none limits.steps && is_none limits.by_lines

-- no limit on the lengths of the spaces is known
abbrev pub is_growing : Limits → Bool
is_growing limits = is_none limits.spaces
