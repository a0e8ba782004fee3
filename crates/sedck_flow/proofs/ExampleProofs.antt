-- The worked examples hold.
use Rattle.sedck_flow.proofs.Common.{◌≡◌, ℕ, ◌≤◌, true, false, List, [], ◌∷◌, length, Contains, refl, sym, ap, ◌∙◌, subst, inl, inr, arith, length-append, false≢true, Tree, Any, Seq, Then, Nil, Groups, no_groups, text_of, Match, Language, Contains-cons_cases, Shortens, NeverLengthens, HasKind, HasNoWhole, named_groups, AreDistinct, AreTopGroups, KeepsGroups, Expression, Part, Machine, At, Node, Shorten, Keep, Occurrence, codes, true≢false, with_text, Reference}
use Rattle.std.specs.Fmt.{digits}
use Rattle.sedck_flow.specs.Words.{edge_words}
use Rattle.sedck_flow.specs.Examples.{ExamplesHold, one_x, any_xs, replacing, delete_matches, a_then_b, one_c, replacing_previous, replace_previous, b_in_group, replace_once, group_in_dashes, edge}
use Rattle.sedck_flow.proofs.ExpressionPatterns.{expressions_are_patterns}
use Rattle.sedck_flow.proofs.States.{at_inj}

-- an empty match, and what follows it
abbrev empty_before : List ℕ → Occurrence
empty_before behind = record { whole = []; groups = no_groups; behind = behind }

edge_text : edge_words (edge 1 false true 2 true true Shorten) ≡ codes "1 0 1 2 1 1 shorten"
unfolding digits
edge_text = refl

-- a match of `x` has one byte
length-one_x : (text : List ℕ) (groups : _) → Match one_x no_groups text groups → length text ≡ 1
length-one_x text groups (u, v, d, cut, (first, _), (rest, _)) = omega (arith, ap length cut, length-append u v, ap length first, ap length rest)

no_parts : KeepsGroups (Expression one_x) []
no_parts = record { no_whole = tt; distinct = tt; top = tt }

x_shortens : Shortens (delete_matches one_x) (replacing one_x [] false)
x_shortens = (no_parts, λ tree text groups is m. omega (arith, length-one_x text groups (subst (λ t. Match t no_groups text groups) is m)))

x_not_kept : HasKind (delete_matches one_x) (replacing one_x [] false) Keep → ⊥
x_not_kept (inl alone) = alone
x_not_kept (inr h) = h.0 x_shortens

-- `x*` matches the empty text
matches_empty : Match any_xs no_groups [] no_groups
matches_empty = ([], [], no_groups, refl, (0, omega arith, (refl, refl)), (refl, refl))

xs_not_shorten : ¬ Shortens (delete_matches any_xs) (replacing any_xs [] false)
xs_not_shorten h = let short = h.1 any_xs [] no_groups refl matches_empty in omega (arith, short)

xs_never_lengthen : NeverLengthens (delete_matches any_xs) (replacing any_xs [] false)
xs_never_lengthen = (record { no_whole = tt; distinct = tt; top = tt }, λ tree text groups is m. omega arith)

-- the texts of `ab` have two bytes, and those of `c` one
length-one_c : (text : List ℕ) (groups : _) → Match one_c no_groups text groups → length text ≡ 1
length-one_c text groups (u, v, d, cut, (first, _), (rest, _)) = omega (arith, ap length cut, length-append u v, ap length first, ap length rest)

length-a_then_b : (text : List ℕ) (groups : _) → Match a_then_b no_groups text groups → length text ≡ 2
length-a_then_b text groups (u, v, d, cut, (first, _), (w, x, e, more, (second, _), (rest, _))) =
    omega (arith, ap length cut, length-append u v, ap length first, ap length more, length-append w x, ap length second, ap length rest)

previous_text : (tree : Tree) (text : List ℕ) → Contains (a_then_b ∷ one_c ∷ []) tree → Language tree text → 1 ≤ length text
previous_text tree text inside (groups, m) =
    elim (Contains-cons_cases a_then_b (one_c ∷ []) tree inside) [
      | inl is ↦ omega (arith, length-a_then_b text groups (subst (λ (t : Tree). Match t no_groups text groups) (sym is) m))
      | inr more ↦ elim (Contains-cons_cases one_c [] tree more) [
        | inl is ↦ omega (arith, length-one_c text groups (subst (λ (t : Tree). Match t no_groups text groups) (sym is) m))
        | inr none ↦ absurd (omega (arith, none.1))
      ]
    ]

previous_never_lengthens : NeverLengthens replace_previous replacing_previous
previous_never_lengthens = (
  record { no_whole = tt; distinct = tt; top = tt },
  λ tree text groups inside m.
      let known = (expressions_are_patterns replace_previous.commands tree).1 inside in
      omega (arith, previous_text tree text known (groups, m)),
)

previous_not_shorten : ¬ Shortens replace_previous replacing_previous
previous_not_shorten h =
    let matches : Match one_c no_groups (99 ∷ []) no_groups = (99 ∷ [], [], no_groups, refl, (refl, refl), (refl, refl)) in
    let inside = (expressions_are_patterns replace_previous.commands one_c).0 (1, omega arith, refl) in
    let longer = h.1 one_c (99 ∷ []) no_groups inside matches in
    omega (arith, longer)

-- a match of `a\(b\)c` has three bytes, and its group has one
length-b_in_group : (text : List ℕ) (groups : Groups) → Match b_in_group no_groups text groups → (length text ≡ 3) × (length (text_of groups 1) ≡ 1)
length-b_in_group text groups (u, v, d, cut, (a, _), (w, x, e, more, (_, f, _, body, put), (y', z', _, last, (c, same), (end, is)))) =
    let (y, z, _, inner, (b, _), (nothing, _)) = body in
    let group : text_of groups 1 ≡ w = ap (λ (g : Groups). text_of g 1) (is ∙ same ∙ put) in
    let long : length w ≡ 1 = omega (arith, ap length inner, length-append y z, ap length b, ap length nothing) in (
      omega (
        arith,
        ap length cut,
        length-append u v,
        ap length a,
        ap length more,
        length-append w x,
        long,
        ap length last,
        length-append y' z',
        ap length c,
        ap length end,
      ),
      ap length group ∙ long,
    )

group_once : (parts : List Part) → HasNoWhole parts → named_groups parts ≡ 1 ∷ [] → KeepsGroups (Expression b_in_group) parts
group_once parts no_whole names = record {
  no_whole = no_whole;
  distinct = subst AreDistinct (sym names) (tt, tt);
  top = subst (AreTopGroups (Expression b_in_group)) (sym names) (refl, tt);
}

group_shortens : Shortens (replace_once b_in_group (Reference 1 ∷ [])) (replacing b_in_group (Reference 1 ∷ []) false)
group_shortens = (
  group_once (Reference 1 ∷ []) tt refl,
  λ tree text groups is m.
      let lengths = length-b_in_group text groups (subst (λ (t : Tree). Match t no_groups text groups) is m) in
      omega (arith, lengths.0, lengths.1),
)

group_never_lengthens : NeverLengthens (replace_once b_in_group group_in_dashes) (replacing b_in_group group_in_dashes false)
group_never_lengthens = (
  group_once group_in_dashes tt refl,
  λ tree text groups is m.
      let lengths = length-b_in_group text groups (subst (λ (t : Tree). Match t no_groups text groups) is m) in
      omega (arith, lengths.0, lengths.1),
)

-- the groups after `abc`
b_alone : Groups
b_alone = with_text no_groups 1 (98 ∷ [])

matches_abc : Match b_in_group no_groups (97 ∷ 98 ∷ 99 ∷ []) b_alone
unfolding b_alone
matches_abc = (
  97 ∷ [],
  98 ∷ 99 ∷ [],
  no_groups,
  refl,
  (refl, refl),
  (
    98 ∷ [],
    99 ∷ [],
    b_alone,
    refl,
    (no_groups, no_groups, inl refl, (98 ∷ [], [], no_groups, refl, (refl, refl), (refl, refl)), refl),
    (99 ∷ [], [], b_alone, refl, (refl, refl), (refl, refl)),
  ),
)

group_not_shortens : ¬ Shortens (replace_once b_in_group group_in_dashes) (replacing b_in_group group_in_dashes false)
unfolding b_alone
group_not_shortens h = let less = h.1 b_in_group (97 ∷ 98 ∷ 99 ∷ []) b_alone refl matches_abc in omega (arith, less)

unread_differ : {m n : Machine} → At m ≡ At n → length m.unread ≡ length n.unread
unread_differ e = ap (λ (x : Machine). length x.unread) (at_inj e)

later_differ : {m n : Machine} → At m ≡ At n → length m.later ≡ length n.later
later_differ e = ap (λ (x : Machine). length x.later) (at_inj e)

pub examples_hold : ExamplesHold
examples_hold = record {
  edge_text = edge_text;
  shortens = inr (tt, inr (x_shortens, refl));
  not_keeps = elim [
    | inl h ↦ false≢true h.0.0
    | inr (_, inl (_, e)) ↦ true≢false (ap (λ (n : Node). n.flag) e)
    | inr (_, inr (h, _)) ↦ x_not_kept h
  ];
  keeps = inr (tt, inr (inr (xs_not_shorten, xs_never_lengthen), refl));
  not_shortens = elim [ inl h ↦ false≢true h.0.0 | inr (_, inl (e, _)) ↦ cc | inr (_, inr (h, _)) ↦ xs_not_shorten h ];
  stays_before_last = elim [ inl h ↦ false≢true h.0.0 | inr (_, inl (e, _)) ↦ cc | inr (_, inr (_, e)) ↦ true≢false (ap (λ (n : Node). n.last) e) ];
  test_taken = inr (tt, (refl, refl));
  test_passed = inr (tt, (refl, refl));
  test_resets = elim [ inl h ↦ false≢true h.0.0 | inr (_, (_, e)) ↦ true≢false (ap (λ (n : Node). n.flag) e) ];
  drops_kept = inr (tt, inr (refl, true, inl refl, refl));
  drops_reset = inr (tt, inr (refl, false, inr refl, refl));
  drops_all = inr (tt, inl (refl, refl, true, refl));
  drops_last = elim [ inl (_, e, _) ↦ cc | inr (_, inl (left, _, _, _)) ↦ false≢true (sym left) | inr (_, inr (e, _, _, _)) ↦ cc ];
  skipped = inl ((refl, tt), refl, refl);
  not_skipped = elim [
    | inl (_, _, e) ↦ true≢false (ap (λ (n : Node). n.flag) (sym e))
    | inr (_, inl (_, e, _, _)) ↦ cc
    | inr (_, inr (e, _, _, _)) ↦ cc
  ];
  begins_again = (refl, (refl, refl, true, refl));
  ends = λ h. false≢true (sym h.1.0);
  appends = inr (refl, (false, inl refl, (refl, refl, false, refl)));
  appends_last = inr (refl, (false, inl refl, (refl, refl, true, refl)));
  always_appends = elim [ inl ((_, last), _, _) ↦ false≢true last | inr (_, (_, _, (_, e, _, _))) ↦ cc ];
  passed_on_last = inl ((refl, refl), refl, refl);
  never_appends = elim [ inl (_, e, _) ↦ cc | inr (left, _) ↦ false≢true (sym left) ];
  previous_keeps = inr (tt, inr (inr (previous_not_shorten, previous_never_lengthens), refl));
  previous_not_shortens = elim [ inl (_, e, _) ↦ cc | inr (_, inl (e, _)) ↦ cc | inr (_, inr (h, _)) ↦ previous_not_shorten h ];
  group_shortens = inr (tt, inr (group_shortens, refl));
  group_keeps = inr (tt, inr (inr (group_not_shortens, group_never_lengthens), refl));
  group_twice_grows = inr (tt, inr ((λ h. h, λ h. h.0.distinct.0.0 refl), refl));
  whole_keeps = inr (tt, inr (inl tt, refl));
  whole_twice_grows = inr (tt, inr ((λ h. h, λ h. h.0.no_whole), refl));
  selects_inside = (97 ∷ [], 120 ∷ [], 98 ∷ [], refl, one_x, refl, no_groups, (120 ∷ [], [], no_groups, refl, (refl, refl), (refl, refl)));
  last_line = inr ((inl refl, refl), refl, refl);
  not_applied = elim [ inl (may, _) ↦ may refl | inr (_, _, e) ↦ cc ];
  other_line = elim [ inl (_, (_, (flag, _, e))) ↦ omega (arith, unread_differ e) | inr ((_, e), _, _) ↦ cc ];
  empty_script = ((refl, refl), ((refl, refl, ([], inl refl, refl)), tt));
  substitutes = record {
    tree = any_xs;
    is_expression = refl;
    front = [];
    matches = empty_before (codes "a") ∷ empty_before (codes "b") ∷ empty_before [] ∷ [];
    some_match = omega arith;
    one_match = λ e. absurd (false≢true (sym e));
    are_matches = (matches_empty, (matches_empty, (matches_empty, tt)));
    are_apart = (omega arith, (omega arith, tt));
    is_old = refl;
    is_new = refl;
  };
  begins_file = inl (tt, (refl, ([], inl refl, refl)));
  empties_hold = inl (tt, (refl, ([], inr refl, refl)));
  no_file = inl (tt, (refl, ([], inl refl, refl)));
  quits = inl (tt, (refl, refl));
  last_of_file = inr ((inl refl, refl), refl, refl);
  no_other = λ h. elim h [ inl (may, _) ↦ absurd (may refl) | inr (_, _, is) ↦ omega (arith, later_differ is) ];
  appends_zero = inl (tt, (refl, refl));
  all_files = ((refl, refl), ((refl, refl, ([], inl refl, refl)), ((refl, refl, ([], inl refl, refl)), tt)));
  one_character = record {
    tree = Seq (Then Any Nil);
    is_expression = refl;
    front = [];
    matches = record { whole = 195 ∷ 169 ∷ []; groups = no_groups; behind = [] } ∷ [];
    some_match = omega arith;
    one_match = λ _. refl;
    are_matches = ((195 ∷ 169 ∷ [], [], no_groups, refl, (λ e. cc, refl), (refl, refl)), tt);
    are_apart = tt;
    is_old = refl;
    is_new = refl;
  };
  byte_safe = (refl, refl);
  half_character = λ e. cc;
  repeats_byte = λ e. cc;
  replaces_byte = λ e. cc;
}
