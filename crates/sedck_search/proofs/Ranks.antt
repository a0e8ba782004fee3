-- Counts are ranks where no edge closes a walk.
use Rattle.sedck_search.proofs.Common.{◌≡◌, ◌⊎◌, ℕ, zero, suc, ◌+◌, ◌<◌, ◌≤◌, Bool, List, [], ◌∷◌, ◌++◌, length, get_or, refl, sym, ap, ◌∙◌, subst, subst₂, inl, inr, arith, Some, None, slice_get, All, cases_lt, same_Some, IsScript, Program, inside, start, node_index, node_count, Flow, Node, Edge, Kind, Consume, Keep, Grow, Certificate, ranks_at, Lowers, IsRanked, Accepts, IsReachable, HasCount, HasNoCount, AreCounted, Closes, ranks_of_counts, ranks_from, Unread, Kept, All-nil, All-cons, Shorten, IsCertificate, AreWithin, ListsNames}
use Rattle.std.specs.Option.{option_flatten}
use Rattle.sedck_script.specs.Names.{AreNames, names_size, reads, writes}
use Rattle.sedck_flow.specs.Run.{NamesForReading, NamesForWriting}
use Rattle.sedck_cert.proofs.NamesListed.{reads_listed, writes_listed}
use Rattle.sedck_cert.specs.declared.versions.Version.TheVariants.{Two}
use Rattle.sedck_search.proofs.Paths.{reaches_edge}
use Rattle.sedck_search.proofs.Counts.{count_falls}
use Rattle.sedck_search.proofs.DistanceLemmas.{distance_at}
use Rattle.sedck_search.proofs.ClosedWalks.{count_of, reachable_on}

pub ranks_from-length : (firsts seconds : List ℕ) → length firsts ≡ length seconds → length (ranks_from firsts seconds) ≡ length firsts
ranks_from-length [] seconds e = refl
ranks_from-length (f ∷ firsts) [] e = absurd (omega (arith, e))
ranks_from-length (f ∷ firsts) (s ∷ seconds) e = ap suc (ranks_from-length firsts seconds (let e' : length firsts ≡ length seconds = omega (arith, e) in e'))

pub ranks_from-push : (firsts seconds : List ℕ) (first second : ℕ) → length firsts ≡ length seconds
    → ranks_from (firsts ++ first ∷ []) (seconds ++ second ∷ []) ≡ ranks_from firsts seconds ++ ranks_of_counts first second ∷ []
ranks_from-push [] [] first second e = refl
ranks_from-push (f ∷ firsts) (s ∷ seconds) first second e =
    ap (λ l. ranks_of_counts f s ∷ l) (ranks_from-push firsts seconds first second (let e' : length firsts ≡ length seconds = omega (arith, e) in e'))
ranks_from-push _ _ first second e = absurd (omega (arith, e))

-- the ranks at a place are of the counts there
ranks_from-get : (firsts seconds : List ℕ) (i first second : ℕ) → slice_get firsts i ≡ Some first → slice_get seconds i ≡ Some second
    → slice_get (ranks_from firsts seconds) i ≡ Some (ranks_of_counts first second)
ranks_from-get [] seconds i first second e e' = cc
ranks_from-get (f ∷ firsts) [] i first second e e' = cc
ranks_from-get (f ∷ firsts) (s ∷ seconds) zero first second e e' =
    ap Some (ap (λ n. ranks_of_counts n s) (same_Some _ _ e) ∙ ap (ranks_of_counts first) (same_Some _ _ e'))
ranks_from-get (f ∷ firsts) (s ∷ seconds) (suc i) first second e e' = ranks_from-get firsts seconds i first second e e'

pub positive_ranks : (first second : ℕ) → 0 < first → ranks_of_counts first second ≡ Some (first, second)
positive_ranks zero second h = absurd (omega (arith, h))
positive_ranks (suc first) second h = refl

module _ (p : Program) (script : IsScript p) (firsts seconds : List ℕ) (are_firsts : AreCounted p Unread firsts) (are_seconds : AreCounted p Kept seconds) where
  same_length : length firsts ≡ length seconds
  same_length = are_firsts.long ∙ sym are_seconds.long

  module _ (c : Certificate) (is_ranks : c.ranks ≡ ranks_from firsts seconds) where
    -- a node that can be reached has its counts as ranks
    counts_at : (n : Node) (first second : ℕ) → slice_get firsts (node_index n) ≡ Some first → slice_get seconds (node_index n) ≡ Some second
        → ranks_at c n ≡ ranks_of_counts first second
    counts_at n first second f s = ap (λ ranks. option_flatten (slice_get ranks (node_index n))) is_ranks
        ∙ ap option_flatten (ranks_from-get firsts seconds (node_index n) first second f s)

    ranks_of_node : (n : Node) (f : HasCount p Unread firsts n) (s : HasCount p Kept seconds n) → ranks_at c n ≡ Some (f.count, s.count)
    ranks_of_node n f s = counts_at n f.count s.count f.at s.at ∙ positive_ranks f.count s.count f.positive

    module _ (idle : (e : Edge) → ¬ Closes p Keep seconds e) (growing : (e : Edge) → ¬ Closes p Grow firsts e) where
      module _ (e : Edge) (flow : Flow p e) (f : HasCount p Unread firsts e.from) (s : HasCount p Kept seconds e.from)
          (f' : HasCount p Unread firsts e.to) (s' : HasCount p Kept seconds e.to) where
        first_falls : (e.kind ≡ Consume → ⊥) → f'.count ≤ f.count
        first_falls unread = count_falls p Unread e.from e.to f.count f'.count f.is_count f'.is_count (reaches_edge p Unread e (flow, unread))

        first_lower : e.kind ≡ Grow → f'.count < f.count
        first_lower grows = elim (cases_lt f'.count f.count) [
          | inl less ↦ less
          | inr more ↦
              let same : f'.count ≡ f.count = omega (arith, more, first_falls (λ reads. cc)) in
              absurd (growing e
              (record { is_edge = flow; is_kind = grows; count = f.count; positive = f.positive; before = f.at; after = f'.at ∙ ap Some same }))
        ]

        second_lower : e.kind ≡ Keep → s'.count < s.count
        second_lower keeps = elim (cases_lt s'.count s.count) [
          | inl less ↦ less
          | inr more ↦
              let same : s'.count ≡ s.count = omega (
                arith,
                more,
                count_falls p Kept e.from e.to s.count s'.count s.is_count s'.is_count (reaches_edge p Kept e (flow, keeps)),
              ) in
              absurd (idle e (record { is_edge = flow; is_kind = keeps; count = s.count; positive = s.positive; before = s.at; after = s'.at ∙ ap Some same }))
        ]

        lowers : (kind : Kind) → e.kind ≡ kind → Lowers kind (f.count, s.count) (f'.count, s'.count)
        lowers Consume is = tt
        lowers Shorten is = first_falls (λ reads. cc)
        lowers Keep is = elim (cases_lt f'.count f.count) [
          | inl less ↦ inl less
          | inr more ↦ inr (omega (arith, more, first_falls (λ reads. cc)), second_lower is)
        ]
        lowers Grow is = first_lower is

      meets_from : (e : Edge) → Flow p e → (IsReachable p e.from × HasCount p Unread firsts e.from) ⊎ HasNoCount p firsts e.from → (before : ℕ × ℕ)
          → ranks_at c e.from ≡ Some before
          → (after : ℕ × ℕ) × (ranks_at c e.to ≡ Some after) × Lowers e.kind before after
      meets_from e flow (inl (reachable, f)) before has =
          let s = count_of p script Kept seconds are_seconds e.from reachable in
          let there = reachable_on p script e.from e.to reachable ((e.kind, e.to) ∷ []) (flow, refl) in
          let f' = count_of p script Unread firsts are_firsts e.to there in
          let s' = count_of p script Kept seconds are_seconds e.to there in
          let is : (f.count, s.count) ≡ before = same_Some _ _ (sym (ranks_of_node e.from f s) ∙ has) in
          ((f'.count, s'.count), ranks_of_node e.to f' s', subst (λ b. Lowers e.kind b (f'.count, s'.count)) is (lowers e flow f s f' s' e.kind refl))
      meets_from e flow (inr (none, zero_count)) before has =
          let second = distance_at p seconds are_seconds.long e.from (inside p script.targets e flow).0 in
          absurd (no_ranks (sym (counts_at e.from 0 second.0 zero_count second.1) ∙ has))
        where
          no_ranks : {r : ℕ × ℕ} → None ≡ Some r → ⊥
          no_ranks is = cc

      is_ranked : IsRanked p c
      is_ranked =
          let start_reachable : (last : Bool) → IsReachable p (start last) = λ last. (last, [], refl) in
          let f : (last : Bool) → HasCount p Unread firsts (start last) = λ last. count_of p script Unread firsts are_firsts (start last) (start_reachable last) in
          let s : (last : Bool) → HasCount p Kept seconds (start last) = λ last. count_of p script Kept seconds are_seconds (start last) (start_reachable last) in
          record {
            start_ranks = λ last. ((f last).count, (s last).count);
            has_start = λ last. ranks_of_node (start last) (f last) (s last);
            meets = λ e flow before has. meets_from e flow (are_firsts.each e.from (inside p script.targets e flow).0) before has;
          }

      pub counts_accepted : c.commands ≡ length p.commands → c.reads ≡ reads p → c.writes ≡ writes p → Accepts p c
      counts_accepted is_commands is_reads is_writes = record {
        count = is_commands;
        ranked = is_ranked;
        reads = subst (λ names. ListsNames names (NamesForReading p)) (sym is_reads) (reads_listed p);
        writes = subst (λ names. ListsNames names (NamesForWriting p)) (sym is_writes) (writes_listed p);
      }

    -- ---- The certificate is within the limits

    within : (firsts' seconds' : List ℕ) → ((i : ℕ) → get_or firsts' i 0 ≤ 65535) → ((i : ℕ) → get_or seconds' i 0 ≤ 65535)
        → All AreWithin (ranks_from firsts' seconds')
    within [] seconds' f s = All-nil AreWithin
    within (first ∷ firsts') [] f s = All-nil AreWithin
    within (first ∷ firsts') (second ∷ seconds') f s =
        All-cons AreWithin (ranks_of_counts first second) (ranks_from firsts' seconds') (one first second (f 0) (s 0))
        (within firsts' seconds' (λ i. f (suc i)) (λ i. s (suc i)))
      where
        one : (a b : ℕ) → a ≤ 65535 → b ≤ 65535 → AreWithin (ranks_of_counts a b)
        one zero b x y = tt
        one (suc a) b x y = (x, y)

    pub counts_certificate : ((i : ℕ) → get_or firsts i 0 ≤ 65535) → ((i : ℕ) → get_or seconds i 0 ≤ 65535) → c.commands ≡ length p.commands
        → c.reads ≡ reads p → c.writes ≡ writes p → IsCertificate Two c
    counts_certificate f s is_commands is_reads is_writes = record {
      commands = omega (arith, is_commands, script.count);
      nodes = ap length is_ranks ∙ ranks_from-length firsts seconds same_length ∙ are_firsts.long ∙ ap node_count (sym is_commands);
      ranks = subst (All AreWithin) (sym is_ranks) (within firsts seconds f s);
      reads = subst AreNames (sym is_reads) script.read;
      writes = subst AreNames (sym is_writes) script.written;
      size = subst₂ (λ r w. names_size r + names_size w ≤ 1048576) (sym is_reads) (sym is_writes) script.names;
    }
