use Rattle.sedck_cert.proofs.Common.{◌≡◌, ◌⊎◌, inr, suc, ◌+◌, ◌-◌, ◌<◌, [], ◌∷◌, ◌++◌, length, arith, ap, common_steps, Names, Version, Stops, OutOfMemory, if_err_from}
use Rattle.sedck_cert.proofs.LineLemmas.{leads_stops}
use Rattle.sedck_cert.proofs.DueLines.{leads_name, leads_no_names, leads_all_names}
use Rattle.sedck_cert.proofs.reading.names.names.Goals as goal

pub loop-before-init : goal.loop-before-init
loop-before-init c = (
  λ v left all. leads_no_names v _ c.args.files _ c.from-count.result left c.args.size _ c.from-count.ensures c.in_ok-names.ensures.items all
      (c.in_ok-list_count.ensures.read v c.args.size),
  omega (arith, ap length c.in_ok-names.ensures.items),
  omega arith,
)

pub returns-in_err-name-clause-refused : goal.returns-in_err-name-clause-refused
returns-in_err-name-clause-refused c =
    let below : length c.loop-before.names.items < c.from-count.result = grind (arith, common_steps, c.len.ensures) in
    let left = c.from-count.result - (length c.loop-before.names.items + 1) in
    if_err_from (λ fault. (v : Version) → (fault ≡ OutOfMemory) ⊎ Stops v (Names c.args.files c.args.size) c.args.lines.now fault)
    c.from_residual-in_err-name.result _ c.from_residual-in_err-name.ensures.1
    (λ v. inr (leads_stops (c.loop-before.invariant.0 v (suc left) (omega arith)) (c.in_err-name.ensures.refused v c.args.files left)))

pub loop-before-preserved : goal.loop-before-preserved
loop-before-preserved c =
    let below : length c.loop-before.names.items < c.from-count.result = grind (arith, common_steps, c.len.ensures) in
    let long : length (c.loop-before.names.items ++ c.in_ok-from_slice.field-0 ∷ []) ≡ length c.loop-before.names.items + 1 = grind (arith, common_steps) in
    rw c.in_ok-push.ensures.items (
      λ v left all. leads_name v _ c.args.files left _ c.loop-before.size _ c.loop-before.names.items c.in_ok-from_slice.field-0 c.in_ok-name.name.now
          c.in_ok-from_slice.ensures.items (c.loop-before.invariant.0 v (suc left) (omega arith)) (c.in_ok-name.ensures.read v c.args.files left),
      grind (arith, common_steps),
      omega (arith, c.in_ok-name.ensures.within),
    )

pub returns-clause-read : goal.returns-clause-read
returns-clause-read c v =
    let long : length c.loop-before.names.items ≡ c.from-count.result = grind (arith, common_steps, c.len.ensures, c.loop-before-test.false) in
    leads_all_names v _ c.args.files c.from-count.result c.loop-before.size c.loop-before.names.items long (c.loop-before.invariant.0 v 0 (omega arith))
