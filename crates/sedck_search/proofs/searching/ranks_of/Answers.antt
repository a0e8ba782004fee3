use Rattle.sedck_search.proofs.Common.{◌≡◌, ◌<◌, ◌+◌, ℕ, min, suc, List, [], ◌∷◌, ◌++◌, length, get_or, sym, ap, ap₂, ◌∙◌, arith, ranks_of_counts, ranks_from, take-suc, length-take}
use Rattle.std.specs.Prelude.{take}
use Rattle.sedck_search.proofs.Ranks.{positive_ranks, ranks_from-push}
use Rattle.sedck_search.proofs.searching.ranks_of.Goals.{then-first-eq0, else-first-eq0}
use Rattle.sedck_search.proofs.searching.ranks_of.Goals as goal

-- the ranks that are pushed
entry : (c : goal.In_ok-push) → c.if-first-eq0.push ≡ ranks_of_counts (get_or c.args.firsts.now c.loop-index.index 0)
    (get_or c.args.seconds.now c.loop-index.index 0)
entry c = elim c.if-first-eq0.branch [
  | then-first-eq0 w ↦ w.push-is ∙ sym (ap (λ n. ranks_of_counts n (get_or c.args.seconds.now c.loop-index.index 0)) w.if-first-eq0.true)
  | else-first-eq0 w ↦ w.push-is
      ∙ sym (positive_ranks (get_or c.args.firsts.now c.loop-index.index 0) (get_or c.args.seconds.now c.loop-index.index 0)
      (omega (arith, w.if-first-eq0.false)))
]

pub loop-index-preserved : goal.loop-index-preserved
loop-index-preserved c =
    let firsts : List ℕ = c.args.firsts.now in
    let seconds : List ℕ = c.args.seconds.now in
    let i : ℕ = c.loop-index.index in
    let below : i < length firsts = omega (arith, c.loop-index-test.true) in
    let next : i + 1 ≡ suc i = omega arith in
    let same : length (take i firsts) ≡ length (take i seconds) = length-take i firsts ∙ ap (min i) c.requires ∙ sym (length-take i seconds) in
    c.in_ok-push.ensures.items ∙ ap₂ (λ ranks r. ranks ++ r ∷ []) c.loop-index.invariant (entry c)
    ∙ sym (ranks_from-push (take i firsts) (take i seconds) (get_or firsts i 0) (get_or seconds i 0) same)
    ∙ sym (ap₂ ranks_from (ap (λ k. take k firsts) next ∙ take-suc firsts i 0 below)
    (ap (λ k. take k seconds) next ∙ take-suc seconds i 0 (omega (arith, below, c.requires))))
