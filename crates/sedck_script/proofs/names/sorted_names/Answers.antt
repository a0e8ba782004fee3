use Rattle.sedck_script.proofs.Common.{map, ap, ◌∙◌}
use Rattle.std.proofs.lemmas.List.Filters.{dedup_is}
use Rattle.sedck_script.proofs.NameLemmas.{sorted_once}
use Rattle.sedck_script.proofs.names.sorted_names.Goals as goal

pub returns-clause-sorted : goal.returns-clause-sorted
returns-clause-sorted c =
    ap (map (λ n. n.now)) (dedup_is _ _ _ c.dedup.ensures.filtered)
    ∙ sorted_once c.in_ok-names.names.items c.sort_unstable.new.self.items _ c.in_ok-names.ensures.names c.sort_unstable.ensures.permutation
    c.sort_unstable.ensures.sorted
