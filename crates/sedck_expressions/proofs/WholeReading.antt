-- The reading of a whole text, from that of its list of items.
use Rattle.sedck_expressions.proofs.Common.{◌≡◌, ℕ, ◌+◌, ◌<◌, Bool, true, false, List, [], length, Some, Result, Ok, Err, refl, ap, subst, arith, ◌==◌, nat_tests, Tree, Trees, Seq, Whole, First, SpellsTree, Shape, ◌>>=◌, whole, full, free, ClosedIs, MatchOption, replicate, get_or-replicate, Stop, fault_in, ReFault, UnopenedGroup}
use Rattle.sedck_expressions.specs.Reading.{items, read}
use Rattle.sedck_expressions.specs.FirstFault.{first_fault}
use Rattle.sedck_expressions.proofs.ReadingSound.{read_sound}
use Rattle.sedck_expressions.proofs.ReadingComplete.{read_again}
use Rattle.sedck_expressions.proofs.ItemLoop.{full_takes, full_reads, free_reads}

-- the whole text is read at the first cursor
pub read-at : {first text : List ℕ} {o : Result (Trees × List ℕ) Stop} → first ≡ text
    → ((bound : ℕ) → length first < bound → items full bound Whole First 0 0 [] first ≡ o) → read full text ≡ (o >>= whole)
unfolding read
read-at {first} {text} {o} is h =
    ap (λ o. o >>= whole) (subst (λ t. items full (length t + 1) Whole First 0 0 [] t ≡ o) is (h (length first + 1) (omega arith)))

-- where something is left, it isn't read
pub whole-some : (ts : Trees) {slice rest : List ℕ} {over : Bool} → slice ≡ rest → over ≡ (length slice == 0) → over ≡ false
    → (whole (ts, rest) ≡ Err (UnopenedGroup, rest)) × (length rest ≡ 0 → ⊥)
whole-some ts is e told = grind (arith, nat_tests)

pub whole-none : (ts : Trees) {slice rest : List ℕ} {over : Bool} → slice ≡ rest → over ≡ (length slice == 0) → over ≡ true → whole (ts, rest) ≡ Ok (Seq ts)
whole-none ts is e told = grind (arith, nat_tests)

pub shape_of : (text : List ℕ) (t : Tree) → read full text ≡ Ok t → Shape text t
shape_of text t e = rw e at (read_sound full full_takes text)

shape_again : (text : List ℕ) (t : Tree) → Shape text t → read full text ≡ Ok t
shape_again text t h = read_again full full_reads text t (h.0, h.1.numbered) (λ _. h.1)

pub only_of : (text : List ℕ) (t : Tree) → read full text ≡ Ok t → (u : Tree) → Shape text u → u ≡ t
only_of text t e u h = cc (shape_again text u h)

-- no text spells two trees
pub one_spelling : (text : List ℕ) (a b : Tree) → SpellsTree text a → SpellsTree text b → a ≡ b
one_spelling text a b h i = cc (again a h, again b i)
  where
    again : (t : Tree) → SpellsTree text t → read free text ≡ Ok t
    again t h = read_again free free_reads text t h (λ wrong. absurd (cc wrong))

pub one_tree : (text : List ℕ) (a b : Tree) → Shape text a → Shape text b → a ≡ b
one_tree text a b h i = one_spelling text a b (h.0, h.1.numbered) (i.0, i.1.numbered)

-- a text with a first fault spells no expression
pub none_of : (text : List ℕ) (fault : ReFault) → first_fault text ≡ Some fault → (u : Tree) → Shape text u → ⊥
unfolding first_fault
none_of text fault e u h = cc (ap (fault_in (length text)) (shape_again text u h), e)

pub none_closed : ClosedIs (replicate 256 false) []
none_closed k l = get_or-replicate 256 k false false l

-- a text has a first fault, or it spells a tree
pub fault_or_tree : (text : List ℕ) → MatchOption (first_fault text) ((t : Tree) × Shape text t) (λ fault. (t : Tree) → Shape text t → ⊥)
unfolding first_fault
fault_or_tree text = go (read full text) refl
  where
    go : (r : Result Tree Stop) → read full text ≡ r
        → MatchOption (fault_in (length text) r) ((t : Tree) × Shape text t) (λ fault. (t : Tree) → Shape text t → ⊥)
    go (Ok t) e = (t, shape_of text t e)
    go (Err stop) e = λ t h. cc (e, shape_again text t h)
