use Rattle.sedck_search.proofs.Common.{◌≡◌, ◌∙◌, length, drop, subst, sym, arith, take-append-le, take_all, node_same, AreCounted, Reaches}
use Rattle.sedck_search.proofs.Paths.{reaches_self}
use Rattle.sedck_search.proofs.counting.counts_of.Goals as goal

-- each node links to itself
pub count_all-requires-clause-order : goal.count_all-requires-clause-order
count_all-requires-clause-order c = record {
  is_order = c.in_ok-order.ensures.order.0;
  long = c.in_ok-order.ensures.order.1 ∙ c.requires.marks.long;
  links = λ n m is. subst (λ k. Reaches c.args.graph.script.now c.args.filter n k)
      (sym (node_same m n (c.in_ok-order.ensures.links _ _ is))) (reaches_self c.args.graph.script.now c.args.filter n);
}

pub returns : goal.returns
returns c =
    let counts = c.count_all.new.counts in
    let long : length counts ≡ c.extend_from_slice.new.self.len =
    omega (arith, c.count_all.ensures.long, c.requires.marks.long, c.in_ok-extend_from_slice.ensures.len, c.new-counts.ensures.len) in
    let front = take-append-le c.extend_from_slice.new.self.len counts (drop (length counts) c.extend_from_slice.new.self.items) (omega arith)
    ∙ take_all c.extend_from_slice.new.self.len counts (omega arith) in
    subst (AreCounted c.args.graph.script.now c.args.filter) (sym front) c.count_all.ensures
