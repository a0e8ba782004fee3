-- A set of nodes, each turned to the other side of the last line, has as many nodes.
use Rattle.sedck_search.proofs.Common.{◌≡◌, ◌≢◌, ℕ, zero, suc, ◌+◌, ◌*◌, ◌/◌, ◌<◌, ◌≤◌, Bool, true, false, List, replicate, refl, sym, ap, ◌∙◌, subst, arith, nat_tests, Program, node_index, nth_node, Node, node_same, index-nth, bit_count, IsNodeSet, HasChanged, turned, AsksNotForLast, IsIn, Reaches, IsReachCount, EdgeFilter, Every}
use Rattle.std.proofs.Common.{set}
use Rattle.std.specs.Prelude.{◌%◌}
use Rattle.sedck_search.specs.Private.NodeSet.{has}
use Rattle.sedck_search.proofs.NodeBits.{inserted, inserted_set, with_bit, bit_of, empty_set, empty_nodes, empty_count}
use Rattle.sedck_search.proofs.NodeSets.{fewer_or_same, inserted_count, node_inside, not_both}
use Rattle.sedck_search.proofs.OtherSide.{reaches_turned}

-- ---- A set of the numbers that pass a test

-- how many numbers below n pass the test
pub counted : (ℕ → Bool) → ℕ → ℕ
counted test zero = 0
counted test (suc n) = bit_of (test n) + counted test n

record IsRowOf (test : ℕ → Bool) (n : ℕ) (members : List ℕ) : Type 0 where
  is_set : IsNodeSet members
  below : (i : ℕ) → has members i ≡ true → (i < n) × (test i ≡ true)
  passes : (i : ℕ) → i < n → test i ≡ true → has members i ≡ true
  counts : bit_count members ≡ counted test n

none_of : (test : ℕ → Bool) → IsRowOf test zero (replicate 256 0)
unfolding counted
none_of test = record {
  is_set = empty_set;
  below = λ i h. absurd (not_both h (empty_nodes i));
  passes = λ i less _. absurd (omega (arith, less));
  counts = empty_count;
}

-- one number more, which doesn't pass
without : (test : ℕ → Bool) (n : ℕ) (members : List ℕ) → IsRowOf test n members → test n ≡ false → IsRowOf test (suc n) members
unfolding counted
without test n members h fails = record {
  is_set = h.is_set;
  below = λ i x. (omega (arith, (h.below i x).0), (h.below i x).1);
  passes = λ i less passes. grind (arith, h.passes i);
  counts = omega (arith, h.counts, ap bit_of fails);
}

-- or one that does
module _ (test : ℕ → Bool) (n : ℕ) (members : List ℕ) (h : IsRowOf test n members) (passed : test n ≡ true) (inside : n < 16384) where
  abbrev more : List ℕ
  more = set members (n / 64) (with_bit members n)

  is_more : IsNodeSet more
  is_more = inserted_set members n inside h.is_set

  changed : HasChanged members more n true
  changed = inserted members n inside h.is_set

  absent : has members n ≡ false
  absent = grind (arith, h.below n)

  with_number : IsRowOf test (suc n) more
  unfolding counted
  with_number = record {
    is_set = is_more;
    below = λ i x. grind (arith, changed.others i, h.below i);
    passes = λ i less passes. grind (arith, changed.at, changed.others i, h.passes i);
    counts = omega (arith, h.counts, ap bit_of passed, inserted_count members more h.is_set is_more n changed absent);
  }

row_of : (test : ℕ → Bool) (n : ℕ) → n ≤ 16384 → (members : List ℕ) × IsRowOf test n members
row_of test zero within = (replicate 256 0, none_of test)
row_of test (suc n) within = by_test (row_of test n (omega (arith, within))) (test n) refl
  where
    by_test : (members : List ℕ) × IsRowOf test n members → (b : Bool) → test n ≡ b → (members : List ℕ) × IsRowOf test (suc n) members
    by_test members false fails = (members.0, without test n members.0 members.1 fails)
    by_test members true passes = (more test n members.0 members.1 passes (omega (arith, within)), with_number test n members.0 members.1 passes (omega (arith, within)))

-- a set counts the numbers that it has
row_counts : (a : List ℕ) → IsNodeSet a → bit_count a ≡ counted (has a) 16384
row_counts a is_set =
    let r = row_of (has a) 16384 (omega arith) in
    let fewer = fewer_or_same r.0 a r.1.is_set is_set (λ i x. (r.1.below i x).1) in
    let more = fewer_or_same a r.0 is_set r.1.is_set (λ i x. let inside = node_inside a is_set i x in r.1.passes i (omega (arith, inside)) x) in
    omega (arith, fewer, more, r.1.counts)

-- ---- Turned nodes

turned_index : ℕ → ℕ
turned_index i = node_index (turned (nth_node i))

turned_is : (i : ℕ) → turned_index i + 2 * (i % 2) ≡ i + 1
unfolding turned_index
turned_is i = grind (arith, nat_tests)

turned_at : (n : Node) → turned_index (node_index n) ≡ node_index (turned n)
unfolding turned_index
turned_at n = ap (λ m. node_index (turned m)) (node_same (nth_node (node_index n)) n (index-nth (node_index n)))

turned_twice : (n : Node) → turned (turned n) ≡ n
turned_twice n = grind arith

-- two at a time, as many pass
double : ℕ → ℕ
double zero = zero
double (suc k) = suc (suc (double k))

double_is : (k : ℕ) → double k ≡ 2 * k
unfolding double
double_is zero = refl
double_is (suc k) = omega (arith, double_is k)

turned_counts : (test : ℕ → Bool) (k : ℕ) → counted (λ i. test (turned_index i)) (double k) ≡ counted test (double k)
unfolding counted double
turned_counts test zero = refl
turned_counts test (suc k) =
    let even : turned_index (double k) ≡ suc (double k) = omega (arith, turned_is (double k), double_is k) in
    let odd : turned_index (suc (double k)) ≡ double k = omega (arith, turned_is (suc (double k)), double_is k) in
    omega (
      arith,
      ap (λ i. bit_of (test i)) even,
      ap (λ i. bit_of (test i)) odd,
      turned_counts test k,
    )

pub turned_place : (k : ℕ) → node_index (turned (nth_node (2 * k))) ≡ 2 * k + 1
unfolding turned_index
turned_place k = let is : turned_index (2 * k) ≡ 2 * k + 1 = omega (arith, turned_is (2 * k)) in is

-- ---- What a turned node reaches

pub turned_count : (p : Program) → AsksNotForLast p → (filter : EdgeFilter) → filter ≢ Every → (n : Node) (count : ℕ) → IsReachCount p filter n count
    → IsReachCount p filter (turned n) count
turned_count p never filter other n count x = record {
  members = r.0;
  reach = record { is_set = r.1.is_set; same = λ m. (forth m, back m) };
  counts = r.1.counts ∙ same_counts ∙ sym (row_counts x.members x.reach.is_set) ∙ x.counts;
}
  where
    test : ℕ → Bool
    test i = has x.members (turned_index i)

    r : (members : List ℕ) × IsRowOf test 16384 members
    r = row_of test 16384 (omega arith)

    same_counts : counted test 16384 ≡ counted (has x.members) 16384
    same_counts = subst (λ k. counted test k ≡ counted (has x.members) k) (double_is 8192) (turned_counts (has x.members) 8192)

    test_at : (m : Node) → test (node_index m) ≡ has x.members (node_index (turned m))
    test_at m = ap (has x.members) (turned_at m)

    forth : (m : Node) → IsIn r.0 m → Reaches p filter (turned n) m
    forth m in_set =
        let to = (x.reach.same (turned m)).0 (sym (test_at m) ∙ (r.1.below (node_index m) in_set).1) in
        subst (Reaches p filter (turned n)) (turned_twice m) (reaches_turned p never filter other n (turned m) to)

    back : (m : Node) → Reaches p filter (turned n) m → IsIn r.0 m
    back m to =
        let from = subst (λ k. Reaches p filter k (turned m)) (turned_twice n) (reaches_turned p never filter other (turned n) m to) in
        let has_turned = (x.reach.same (turned m)).1 from in
        let inside = node_inside x.members x.reach.is_set (node_index (turned m)) has_turned in
        let near : node_index m ≤ node_index (turned m) + 1 = omega (arith, turned_at m, turned_is (node_index m)) in
        r.1.passes (node_index m) (below_set (node_index m) (node_index (turned m)) (turned_at m) inside) (test_at m ∙ has_turned)
      where
        below_set : (i j : ℕ) → turned_index i ≡ j → j / 64 < 256 → i < 16384
        below_set i j is inside = omega (arith, is, inside, turned_is i)
