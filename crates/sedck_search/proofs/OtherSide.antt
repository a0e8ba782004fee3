-- Where no command asks for the last line, edges on which no line is read lead alike before it and on it.
use Rattle.sedck_search.proofs.Common.{◌≡◌, ◌≢◌, ℕ, Bool, true, false, List, [], ◌∷◌, length, refl, ap, inl, inr, Some, None, MatchOption, slice_get, if◌then◌else◌, Command, Program, start, Flow, Node, Edge, Kind, Consume, Keep, IsPath, turned, IsLastAlone, AsksNotForLast, IsFollowed, AreFollowed, Reaches, EdgeFilter, Every, Unread, Kept, Option, MatchBool, Last, Address, One, Two, Verb, Block, Change, Delete, DeleteFirstLine, Next, NextAppend, Quit, Substitute, Test, moved_to, next, with_flag, MaySelectAt, MayNotSelectAt, ReadsLine, VerbEdge, node_past, CommandEdge, turned_edge}

-- ---- What is selected

select_turned : (a : Address) (n : Node) → ¬ IsLastAlone a → MaySelectAt a n → MaySelectAt a (turned n)
select_turned (One Last) n other h = absurd (other tt)
select_turned _ n other h = tt

not_select_turned : (a : Address) (n : Node) → ¬ IsLastAlone a → MayNotSelectAt a n → MayNotSelectAt a (turned n)
not_select_turned (One Last) n other h = absurd (other tt)
not_select_turned _ n other h = tt

apply_turned : (negated : Bool) (a : Address) (n : Node) → ¬ IsLastAlone a → MatchBool negated (MayNotSelectAt a n) (MaySelectAt a n)
    → MatchBool negated (MayNotSelectAt a (turned n)) (MaySelectAt a (turned n))
apply_turned true a n other h = not_select_turned a n other h
apply_turned false a n other h = select_turned a n other h

pass_turned : (negated : Bool) (a : Address) (n : Node) → ¬ IsLastAlone a → MatchBool negated (MaySelectAt a n) (MayNotSelectAt a n)
    → MatchBool negated (MaySelectAt a (turned n)) (MayNotSelectAt a (turned n))
pass_turned true a n other h = select_turned a n other h
pass_turned false a n other h = not_select_turned a n other h

-- ---- Edges

tests_turned : (target : ℕ) (n to : Node) (flag : Bool) → to ≡ (if flag then with_flag (moved_to n target) false else next n)
    → turned to ≡ (if flag then with_flag (moved_to (turned n) target) false else next (turned n))
tests_turned target n to true e = ap turned e
tests_turned target n to false e = ap turned e

verb_turned : (p : Program) (a : Address) (v : Verb) (n : Node) (kind : Kind) (to : Node) → kind ≢ Consume → VerbEdge p a v n kind to
    → VerbEdge p a v (turned n) kind (turned to)
verb_turned p (Two first end) (Change text) n kind to unread (inl h) = absurd (unread h.1)
verb_turned p (Two first end) (Change text) n kind to unread (inr (is, e)) = inr (is, ap turned e)
verb_turned p _ (Change text) n kind to unread h = absurd (unread h.1)
verb_turned p a Delete n kind to unread h = absurd (unread h.1)
verb_turned p a DeleteFirstLine n kind to unread (inl h) = absurd (unread h.1)
verb_turned p a DeleteFirstLine n kind to unread (inr (is, flag, kept, e)) = inr (is, flag, kept, ap turned e)
verb_turned p a Next n kind to unread (flag, kept, h) = absurd (unread h.1)
verb_turned p a NextAppend n kind to unread (flag, kept, h) = absurd (unread h.1)
verb_turned p a Quit n kind to unread h = h
verb_turned p a (Substitute s) n kind to unread (inl (is, e)) = inl (is, ap turned e)
verb_turned p a (Substitute s) n kind to unread (inr (has, e)) = inr (has, ap turned e)
verb_turned p a (Test target) n kind to unread (is, e) = (is, tests_turned target n to n.flag e)
verb_turned p a _ n kind to unread h = (h.0, ap turned h.1)

past_turned : (v : Verb) (n to : Node) → to ≡ node_past v n → turned to ≡ node_past v (turned n)
past_turned (Block behind) n to e = ap turned e
past_turned _ n to e = ap turned e

command_turned : (p : Program) (c : Command) (n : Node) (kind : Kind) (to : Node) → ¬ IsLastAlone c.address → kind ≢ Consume
    → CommandEdge p c n kind to → CommandEdge p c (turned n) kind (turned to)
command_turned p c n kind to other unread (inl (may, is, e)) =
    inl ((may.0, pass_turned c.negated c.address n other may.1), is, past_turned c.verb n to e)
command_turned p c n kind to other unread (inr (may, h)) =
    inr (apply_turned c.negated c.address n other may, verb_turned p c.address c.verb n kind to unread h)

turned_at : (p : Program) (o : Option Command) (n : Node) (kind : Kind) (to : Node) → ((c : Command) → o ≡ Some c → ¬ IsLastAlone c.address) → kind ≢ Consume
    → MatchOption o ((n.at ≡ length p.commands) × ReadsLine n start kind to) (λ c. CommandEdge p c n kind to)
    → MatchOption o ((n.at ≡ length p.commands) × ReadsLine (turned n) start kind (turned to)) (λ c. CommandEdge p c (turned n) kind (turned to))
turned_at p None n kind to other unread h = absurd (unread h.1.1)
turned_at p (Some c) n kind to other unread h = command_turned p c n kind to (other c refl) unread h

module _ (p : Program) (never : AsksNotForLast p) where
  pub flow_turned : (e : Edge) → e.kind ≢ Consume → Flow p e → Flow p (turned_edge e)
  flow_turned e unread h = turned_at p (slice_get p.commands e.from.at) e.from e.kind e.to (never e.from.at) unread h

  -- ---- Paths

  followed_unread : (filter : EdgeFilter) → filter ≢ Every → (kind : Kind) → IsFollowed filter kind → kind ≢ Consume
  followed_unread Every other kind h = absurd (other refl)
  followed_unread Unread other kind h = h
  followed_unread Kept other kind h = λ reads. let keeps : kind ≡ Keep = h in cc

  module _ (filter : EdgeFilter) (other : filter ≢ Every) where
    path_turned : (from : Node) (path : List (Kind × Node)) (to : Node) → IsPath p from path to → AreFollowed filter path
        → Reaches p filter (turned from) (turned to)
    path_turned from [] to is followed = ([], ap turned is, tt)
    path_turned from (edge ∷ path) to is followed =
        let rest = path_turned edge.1 path to is.1 followed.1 in
        let e : Edge = record { from = from; to = edge.1; kind = edge.0 } in (
          (edge.0, turned edge.1) ∷ rest.0,
          (flow_turned e (followed_unread filter other edge.0 followed.0) is.0, rest.1),
          (followed.0, rest.2),
        )

    pub reaches_turned : (n m : Node) → Reaches p filter n m → Reaches p filter (turned n) (turned m)
    reaches_turned n m r = path_turned n r.0 m r.1 r.2
