use Rattle.sedck_commands.proofs.Common.{◌≡◌, ◌<◌, ◌⊎◌, ℕ, false, List, length, subst, arith, ◌==◌, nat_tests, IsExpression, unread_length, IsNoExpression, IsMisjudged, PatternFault}
use Rattle.sedck_commands.proofs.ResultLemmas.{if_err_from}
use Rattle.sedck_commands.proofs.PieceLemmas.{pattern_none, pattern_some}
use Rattle.sedck_commands.proofs.delimited.read_pattern.Goals as goal

pub returns-then-is_empty-clause-read : goal.returns-then-is_empty-clause-read
returns-then-is_empty-clause-read c = pattern_none c.in_ok-bytes.ensures.read (grind (arith, c.if-is_empty.ensures))

-- a text that isn't empty has a byte
has_byte : (shown bytes : List ℕ) → false ≡ (length shown == 0) → shown ≡ bytes → 0 < length bytes
has_byte shown bytes test same = subst (λ b. 0 < length b) same (positive (length shown) test)
  where
    positive : (n : ℕ) → false ≡ (n == 0) → 0 < n
    positive n h = grind (arith, nat_tests)

pub returns-in-Ok-clause-read : goal.returns-in-Ok-clause-read
returns-in-Ok-clause-read c = pattern_some c.in_ok-bytes.ensures.read (has_byte _ _ c.if-is_empty.ensures c.as_slice-bytes.ensures.value)
    (subst (λ t. IsExpression t c.in-Ok.expression) c.as_slice-bytes.ensures.value c.in-Ok.ensures.read)

pub returns-in_err-bytes-clause-first : goal.returns-in_err-bytes-clause-first
returns-in_err-bytes-clause-first c =
    if_err_from _ c.from_residual.result _ c.from_residual.ensures.1 (λ memory. PatternFault.unread (c.in_err-bytes.ensures.first memory))

pub returns-clause-first : goal.returns-clause-first
returns-clause-first c = λ memory.
    let refused = c.in-Err.ensures.refused (c.expression_fault.ensures.memory memory) in
    rw (c.expression_fault.ensures.cause memory, c.offset.ensures)
    (PatternFault.refused c.in_ok-bytes.ensures.read (has_byte _ _ c.if-is_empty.ensures c.as_slice-bytes.ensures.value)
    (subst (λ t. IsNoExpression t c.in-Err.fault ⊎ IsMisjudged t c.in-Err.fault) c.as_slice-bytes.ensures.value refused) (unread_length c.args.text))
