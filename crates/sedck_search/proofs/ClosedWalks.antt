-- A closing edge, known by two counts that are the same, and the obstacle that begins with it.
use Rattle.sedck_search.proofs.Common.{◌≡◌, ℕ, ◌<◌, ◌≤◌, List, [], ◌∷◌, ◌++◌, length, refl, sym, ap, ◌∙◌, subst, inl, inr, arith, Some, slice_get, cases_lt, slice_get_within, same_Some, IsScript, Program, start, node_index, Node, Edge, Kind, Consume, Keep, Grow, node_same, IsPath, IsReachable, IsObstacle, HasForm, HasNone, HasOnly, IsFollowed, AreFollowed, Reaches, FollowedEdge, IsReachCount, HasCount, AreCounted, closing_kind, back_filter, Closes, IsFirstClosing, IsBegun, IsClosing, IsShortestLoop, EdgeFilter, Unread, Kept, Form, Idle, Growing, Walk, index-before, IsSought, BeginsGrowing, IsFirst, HasNoIdle, IsChosen}
use Rattle.sedck_search.specs.Found.{IsLoop}
use Rattle.sedck_search.proofs.Paths.{path-append, path_inside, reaches_edge}
use Rattle.sedck_search.proofs.Counts.{count_falls, same_count}
use Rattle.sedck_search.proofs.RuledOut.{ruled_out}

-- ---- Walks of a form

pub closing_follows : (form : Form) (kind : Kind) → kind ≡ closing_kind form → IsFollowed (back_filter form) kind
closing_follows Idle kind is = is
closing_follows Growing kind is = λ reads. cc

only_followed : (walk : List (Kind × Node)) → HasOnly Keep walk → AreFollowed Kept walk
only_followed [] h = tt
only_followed (edge ∷ walk) h = (h.0, only_followed walk h.1)

followed_only : (walk : List (Kind × Node)) → AreFollowed Kept walk → HasOnly Keep walk
followed_only [] h = tt
followed_only (edge ∷ walk) h = (h.0, followed_only walk h.1)

none_followed : (walk : List (Kind × Node)) → HasNone Consume walk → AreFollowed Unread walk
none_followed [] h = tt
none_followed (edge ∷ walk) h = (h.0, none_followed walk h.1)

followed_none : (walk : List (Kind × Node)) → AreFollowed Unread walk → HasNone Consume walk
followed_none [] h = tt
followed_none (edge ∷ walk) h = (h.0, followed_none walk h.1)

keeps_read_none : (walk : List (Kind × Node)) → HasOnly Keep walk → HasNone Consume walk
keeps_read_none [] h = tt
keeps_read_none (edge ∷ walk) h = ((λ reads. cc), keeps_read_none walk h.1)

-- what is sought begins with a closing edge
sought_begun : (form : Form) (walk : List (Kind × Node)) → 0 < length walk → HasNone Consume walk → HasForm form walk → IsSought form walk → IsBegun form walk
sought_begun Idle [] some none form sought = absurd (omega (arith, some))
sought_begun Idle (edge ∷ walk) some none form sought = (form.0, only_followed walk form.1)
sought_begun Growing [] some none form sought = absurd sought
sought_begun Growing (edge ∷ walk) some none form sought = (sought, none_followed walk none.1)

begun_some : (form : Form) (walk : List (Kind × Node)) → IsBegun form walk → 0 < length walk
begun_some form [] begun = absurd begun
begun_some form (edge ∷ walk) begun = omega arith

begun_none : (form : Form) (walk : List (Kind × Node)) → IsBegun form walk → HasNone Consume walk
begun_none form [] begun = absurd begun
begun_none Idle (edge ∷ walk) begun = ((λ reads. cc), keeps_read_none walk (followed_only walk begun.1))
begun_none Growing (edge ∷ walk) begun = ((λ reads. cc), followed_none walk begun.1)

begun_form : (form : Form) (walk : List (Kind × Node)) → IsBegun form walk → HasForm form walk
begun_form form [] begun = absurd begun
begun_form Idle (edge ∷ walk) begun = (begun.0, followed_only walk begun.1)
begun_form Growing (edge ∷ walk) begun = inl begun.0

begun_grows : (walk : List (Kind × Node)) → IsBegun Growing walk → BeginsGrowing walk
begun_grows [] begun = absurd begun
begun_grows (edge ∷ walk) begun = begun.0

module _ (p : Program) (script : IsScript p) where
  -- ---- Counted nodes

  pub reachable_inside : (n : Node) → IsReachable p n → n.at ≤ length p.commands
  reachable_inside n h = path_inside p script.targets h.1 (start h.0) n h.2 (omega arith)

  pub reachable_on : (n m : Node) → IsReachable p n → (path : List (Kind × Node)) → IsPath p n path m → IsReachable p m
  reachable_on n m h path is = (h.0, h.1 ++ path, path-append p (start h.0) n m h.1 path h.2 is)

  module _ (filter : EdgeFilter) (counts : List ℕ) (counted : AreCounted p filter counts) where
    pub count_of : (n : Node) → IsReachable p n → HasCount p filter counts n
    count_of n reachable = elim (counted.each n (reachable_inside n reachable)) [
      | inl (_, has) ↦ has
      | inr (none, _) ↦ absurd (none reachable)
    ]

    pub counted_reach : (n : Node) (count : ℕ) → slice_get counts (node_index n) ≡ Some count → 0 < count → IsReachable p n × IsReachCount p filter n count
    counted_reach n count is positive =
        let below : n.at ≤ length p.commands = omega (arith, slice_get_within counts (node_index n) count is, counted.long) in
        elim (counted.each n below) [
          | inl (reachable, has) ↦ (reachable, subst (IsReachCount p filter n) (same_Some _ _ (sym has.at ∙ is)) has.is_count)
          | inr (_, none) ↦ grind arith
        ]

  module _ (form : Form) (counts : List ℕ) (counted : AreCounted p (back_filter form) counts) where
    -- ---- Closing edges

    -- a node that reaches as many as one before it leads back there
    pub closes_back : (e : Edge) → Closes p (closing_kind form) counts e → IsClosing p form e
    closes_back e c =
        let from = counted_reach (back_filter form) counts counted e.from c.count c.before c.positive in
        let to = counted_reach (back_filter form) counts counted e.to c.count c.after c.positive in
        let edge : FollowedEdge p (back_filter form) e = (c.is_edge, closing_follows form e.kind c.is_kind) in
        record {
          is_edge = c.is_edge;
          is_kind = c.is_kind;
          reachable = from.0;
          back = same_count p (back_filter form) e.from e.to c.count c.count from.1 to.1 (reaches_edge p (back_filter form) e edge) refl;
        }

    -- a closed walk of the form begins with a closing edge
    pub begun_closes : (n : Node) (walk : List (Kind × Node)) → IsReachable p n → IsPath p n walk n → IsBegun form walk
        → (e : Edge) × Closes p (closing_kind form) counts e × (e.from ≡ n)
    begun_closes n [] reachable path begun = absurd begun
    begun_closes n (edge ∷ more) reachable path begun =
        let e : Edge = record { from = n; to = edge.1; kind = edge.0 } in
        let there : IsReachable p edge.1 = reachable_on n edge.1 reachable ((edge.0, edge.1) ∷ []) (path.0, refl) in
        let x = count_of (back_filter form) counts counted n reachable in
        let y = count_of (back_filter form) counts counted edge.1 there in
        let on : Reaches p (back_filter form) n edge.1 = reaches_edge p (back_filter form) e (path.0, closing_follows form edge.0 begun.0) in
        let back : Reaches p (back_filter form) edge.1 n = (more, path.1, begun.1) in
        let same : y.count ≡ x.count = omega (
          arith,
          count_falls p (back_filter form) n edge.1 x.count y.count x.is_count y.is_count on,
          count_falls p (back_filter form) edge.1 n y.count x.count y.is_count x.is_count back,
        ) in
        (e, record { is_edge = path.0; is_kind = begun.0; count = x.count; positive = x.positive; before = x.at; after = y.at ∙ ap Some same }, refl)

    -- without one there is no sought obstacle
    pub none_sought : ((e : Edge) → ¬ Closes p (closing_kind form) counts e) → (n : Node) (walk : List (Kind × Node)) → IsObstacle p n walk form
        → IsSought form walk → ⊥
    none_sought none n walk o sought =
        let c = begun_closes n walk o.reachable o.closed (sought_begun form walk o.some_edge o.reads_none o.has_form sought) in
        none c.0 c.1

    -- ---- The loop that is reported

    module _ (e : Edge) (first : IsFirstClosing p (closing_kind form) counts e) (w : Walk) (loop : IsShortestLoop p form e.from w) where
      pub loop_obstacle : IsObstacle p e.from loop.edges form
      loop_obstacle = record {
        closed = loop.closed;
        some_edge = begun_some form loop.edges loop.begun;
        reachable = (closes_back e first.closes).reachable;
        reads_none = begun_none form loop.edges loop.begun;
        has_form = begun_form form loop.edges loop.begun;
      }

      pub loop_first : IsFirst p form e.from (length loop.edges)
      loop_first other walk o sought =
          let begun = sought_begun form walk o.some_edge o.reads_none o.has_form sought in
          let c = begun_closes other walk o.reachable o.closed begun in
          let least : node_index e.from ≤ node_index other = omega (arith, first.first c.0 c.1, ap node_index c.2) in
          elim (cases_lt (node_index e.from) (node_index other)) [
            | inl less ↦ inl (index-before e.from other less)
            | inr more ↦
                let same : other ≡ e.from = node_same other e.from (omega (arith, least, more)) in
                inr (same, loop.shortest walk (subst (λ n. IsPath p n walk n) same o.closed) begun)
          ]

  pub none_idle : (seconds : List ℕ) → AreCounted p Kept seconds → ((e : Edge) → ¬ Closes p Keep seconds e) → HasNoIdle p
  none_idle seconds counted none n walk o = none_sought Idle seconds counted none n walk o tt

  pub idle_loop : (seconds : List ℕ) → AreCounted p Kept seconds → (e : Edge) → IsFirstClosing p Keep seconds e → (w : Walk)
      → IsShortestLoop p Idle e.from w → IsLoop p w
  idle_loop seconds counted e first w loop = record {
    first = e.from;
    edges = loop.edges;
    written = loop.written;
    is_obstacle = subst (IsObstacle p e.from loop.edges) (sym loop.is_form) (loop_obstacle Idle seconds counted e first w loop);
    is_chosen = subst (λ form. IsChosen p form e.from loop.edges) (sym loop.is_form) (loop_first Idle seconds counted e first w loop);
    rules_out = ruled_out p e.from loop.edges Idle (loop_obstacle Idle seconds counted e first w loop);
  }

  pub growing_loop : (seconds : List ℕ) → AreCounted p Kept seconds → ((e : Edge) → ¬ Closes p Keep seconds e) → (firsts : List ℕ)
      → AreCounted p Unread firsts → (e : Edge) → IsFirstClosing p Grow firsts e → (w : Walk) → IsShortestLoop p Growing e.from w → IsLoop p w
  growing_loop seconds counted' none firsts counted e first w loop = record {
    first = e.from;
    edges = loop.edges;
    written = loop.written;
    is_obstacle = subst (IsObstacle p e.from loop.edges) (sym loop.is_form) (loop_obstacle Growing firsts counted e first w loop);
    is_chosen = subst (λ form. IsChosen p form e.from loop.edges) (sym loop.is_form)
        (none_idle seconds counted' none, begun_grows loop.edges loop.begun, loop_first Growing firsts counted e first w loop);
    rules_out = ruled_out p e.from loop.edges Growing (loop_obstacle Growing firsts counted e first w loop);
  }
