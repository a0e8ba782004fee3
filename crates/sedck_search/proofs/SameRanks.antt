-- Where the pattern space is kept whenever no line is read, a node reaches the same nodes over the edges of either filter.
use Rattle.sedck_search.proofs.Common.{◌≡◌, ℕ, List, [], ◌∷◌, inl, inr, Program, Node, Edge, Kind, Consume, Keep, Grow, IsPath, IsReachable, AreFollowed, Reaches, IsReachOf, HasCount, HasNoCount, AreCounted, Closes, Unread, Kept, KeepsSpace}
use Rattle.std.specs.Prelude.{◌⊎◌}

module _ (p : Program) (keeps : KeepsSpace p) where
  kept_path : (path : List (Kind × Node)) (from to : Node) → IsPath p from path to → AreFollowed Unread path → AreFollowed Kept path
  kept_path [] from to is h = tt
  kept_path (edge ∷ path) from to is h =
      (keeps (record { from = from; to = edge.1; kind = edge.0 }) is.0 h.0, kept_path path edge.1 to is.1 h.1)

  unread_path : (path : List (Kind × Node)) → AreFollowed Kept path → AreFollowed Unread path
  unread_path [] h = tt
  unread_path (edge ∷ path) h = (λ reads. let kept : edge.0 ≡ Keep = h.0 in cc, unread_path path h.1)

  same_reach : (n : Node) (members : List ℕ) → IsReachOf p Kept n members → IsReachOf p Unread n members
  same_reach n members r = record {
    is_set = r.is_set;
    same = λ m. (
      λ inside. let reached : Reaches p Kept n m = (r.same m).0 inside in (reached.0, reached.1, unread_path reached.0 reached.2),
      λ reached. (r.same m).1 (reached.0, reached.1, kept_path reached.0 n m reached.1 reached.2),
    );
  }

  same_count : (counts : List ℕ) (n : Node) → HasCount p Kept counts n → HasCount p Unread counts n
  same_count counts n h = record {
    count = h.count;
    at = h.at;
    positive = h.positive;
    within = h.within;
    is_count = record { members = h.is_count.members; reach = same_reach n h.is_count.members h.is_count.reach; counts = h.is_count.counts };
  }

  pub same_counts : (counts : List ℕ) → AreCounted p Kept counts → AreCounted p Unread counts
  same_counts counts h = record {
    long = h.long;
    each = λ n inside. elim (h.each n inside) [ inl counted ↦ inl (counted.0, same_count counts n counted.1) | inr none ↦ inr none ];
  }

  -- no edge grows the pattern space
  pub none_grows : (counts : List ℕ) (e : Edge) → ¬ Closes p Grow counts e
  none_grows counts e closes =
      let grows : e.kind ≡ Grow = closes.is_kind in
      let kept : e.kind ≡ Keep = keeps e closes.is_edge (λ reads. cc) in
      cc
