-- Where each list matches what it does in the POSIX locale, so does an expression.
use Rattle.std.proofs.Common.{◌≡◌, ◌≢◌, ℕ, suc, zero, List, [], ◌∷◌, ◌++◌, None, inl, inr, refl, ap, sym, ◌∙◌, subst}
use Rattle.std.specs.Prelude.{◌↔◌, ◌⊎◌, IsTrue, if◌then◌else◌}
use Rattle.std.proofs.lemmas.Bool.{false≢true}
use Rattle.sedck_expressions.specs.Tree.{Tree, Trees, Byte, Any, Set, Start, End, Maybe, Group, Ref, Seq, Repeat, Nil, Then, is_in, groups_in, groups_in_all}
use Rattle.sedck_expressions.specs.Shape.{Level, Position, First, behind, SpellsItem, SpellsItems, SpellsList, Inside}
use Rattle.sedck_expressions.specs.Brackets.{IsBracketList}
use Rattle.sedck_expressions.specs.WellFormed.{IsSound, AreSound}
use Rattle.sedck_expressions.proofs.WholeBracket.{bracket_again}
use Rattle.sedck_bre.specs.Match.{Groups, unset, Match, MatchAll, Times}
use Rattle.sedck_locales.specs.Written.{written_item, written_items, written_list}
use Rattle.sedck_locales.specs.Locales.{MatchIn, MatchAllIn, PosixLists}
use Rattle.sedck_locales.proofs.WrittenTrees.{one_ok}

-- one match after another, of either kind
times_same : (One Other : Groups → List ℕ → Groups → Type 0) → ((e : Groups) (w : List ℕ) (e' : Groups) → One e w e' → Other e w e')
    → (n : ℕ) (e : Groups) (w : List ℕ) (e' : Groups) → Times One n e w e' → Times Other n e w e'
times_same One Other h zero e w e' m = m
times_same One Other h (suc n) e w e' (u, v, d, is, one, more) = (u, v, d, is, h e u d one, times_same One Other h n d v e' more)

-- a list has one set of bytes, where each has one at least
one_set : (text bytes others : List ℕ) → IsBracketList text bytes → IsBracketList text others → bytes ≢ [] → others ≢ [] → bytes ≡ others
one_set text bytes others one two some more =
    ap (λ z. z.0) (one_ok (sym (bracket_again text bytes [] one some) ∙ bracket_again text others [] two more))

has_some : (b : ℕ) (bytes : List ℕ) → IsTrue (is_in b bytes) → bytes ≢ []
has_some b bytes h e = false≢true (ap (is_in b) (sym e) ∙ h)

-- ---- The groups are the same

mutual
  item_groups : (t : Tree) (level : Level) (position : Position) (text rest : List ℕ) (here : SpellsItem level position text rest t)
      → groups_in (written_item t level position text rest here) ≡ groups_in t
  item_groups (Byte c) level position text rest here = refl
  item_groups Any level position text rest here = refl
  item_groups (Set bytes) level position text rest here = refl
  item_groups Start level position text rest here = refl
  item_groups End level position text rest here = refl
  item_groups (Maybe c) level position text rest here = refl
  item_groups (Group k body) level position text rest here = ap (λ g. k ∷ g) (spelling_groups body Inside here.0 here.2)
  item_groups (Ref k) level position text rest here = refl
  item_groups (Seq ts) level position text rest here = absurd here
  item_groups (Repeat body least most) level position text rest here = item_groups body level position here.0 (here.1 ++ rest) here.4

  items_groups : (ts : Trees) (level : Level) (position : Position) (text : List ℕ) (here : SpellsItems level position text ts)
      → groups_in_all (written_items ts level position text here) ≡ groups_in_all ts
  items_groups Nil level position text here = refl
  items_groups (Then t ts) level position text here =
      ap (λ g. g ++ groups_in_all (written_items ts level (behind position t) here.1 here.4)) (item_groups t level position here.0 here.1 here.3)
      ∙ ap (λ g. groups_in t ++ g) (items_groups ts level (behind position t) here.1 here.4)

  spelling_groups : (t : Tree) (level : Level) (text : List ℕ) (here : SpellsList level text t) → groups_in (written_list t level text here) ≡ groups_in t
  spelling_groups (Seq ts) level text here = items_groups ts level First text here
  spelling_groups _ level text here = absurd here

entered : (t u : Tree) (d e : Groups) → groups_in t ≡ groups_in u → (d ≡ e) ⊎ (d ≡ unset t e) → (d ≡ e) ⊎ (d ≡ unset u e)
entered t u d e same (inl kept) = inl kept
entered t u d e same (inr gone) =
    let without : List ℕ → Groups = λ groups k. if is_in k groups then None else e k in
    inr (gone ∙ ap without same)

-- ---- What is matched

mutual
  item_same : (t : Tree) (level : Level) (position : Position) (text rest : List ℕ) (e : Groups) (w : List ℕ) (e' : Groups) → IsSound t
      → (here : SpellsItem level position text rest t) → Match t e w e' ↔ MatchIn PosixLists (written_item t level position text rest here) e w e'
  item_same (Byte c) level position text rest e w e' sound here = ((λ m. m), (λ m. m))
  item_same Any level position text rest e w e' sound here = ((λ m. m), (λ m. m))
  item_same (Set bytes) level position text rest e w e' sound here = (
    (λ m. ((bytes, here.0, m.0, m.1, m.2), m.3)),
    (λ m. let l = m.0 in
        (l.2, subst (λ s. IsTrue (is_in l.2 s)) (sym (one_set text bytes l.0 here.0 l.1 here.1 (has_some l.2 l.0 l.3))) l.3, l.4, m.1)),
  )
  item_same Start level position text rest e w e' sound here = ((λ m. m), (λ m. m))
  item_same End level position text rest e w e' sound here = ((λ m. m), (λ m. m))
  item_same (Maybe c) level position text rest e w e' sound here = ((λ m. m), (λ m. m))
  item_same (Group k body) level position text rest e w e' sound here = (
    (λ m. (
      m.0,
      m.1,
      entered body (written_list body Inside here.0 here.2) m.0 e (sym (spelling_groups body Inside here.0 here.2)) m.2,
      (spelling_same body Inside here.0 m.0 w m.1 sound here.2).0 m.3,
      m.4,
    )),
    (λ m. (
      m.0,
      m.1,
      entered (written_list body Inside here.0 here.2) body m.0 e (spelling_groups body Inside here.0 here.2) m.2,
      (spelling_same body Inside here.0 m.0 w m.1 sound here.2).1 m.3,
      m.4,
    )),
  )
  item_same (Ref k) level position text rest e w e' sound here = ((λ m. m), (λ m. m))
  item_same (Seq ts) level position text rest e w e' sound here = absurd here
  item_same (Repeat body least most) level position text rest e w e' sound here = (
    (λ m. (m.0, m.1, times_same (Match body) _ (λ d v d' x. (item_same body level position here.0 (here.1 ++ rest) d v d' sound.1 here.4).0 x) m.0 e w e' m.2)),
    (λ m. (m.0, m.1, times_same _ (Match body) (λ d v d' x. (item_same body level position here.0 (here.1 ++ rest) d v d' sound.1 here.4).1 x) m.0 e w e' m.2)),
  )

  items_same : (ts : Trees) (level : Level) (position : Position) (text : List ℕ) (e : Groups) (w : List ℕ) (e' : Groups) → AreSound ts
      → (here : SpellsItems level position text ts) → MatchAll ts e w e' ↔ MatchAllIn PosixLists (written_items ts level position text here) e w e'
  items_same Nil level position text e w e' sound here = ((λ m. m), (λ m. m))
  items_same (Then t ts) level position text e w e' sound here = (
    (λ m. (
      m.0,
      m.1,
      m.2,
      m.3,
      (item_same t level position here.0 here.1 e m.0 m.2 sound.0 here.3).0 m.4,
      (items_same ts level (behind position t) here.1 m.2 m.1 e' sound.1 here.4).0 m.5,
    )),
    (λ m. (
      m.0,
      m.1,
      m.2,
      m.3,
      (item_same t level position here.0 here.1 e m.0 m.2 sound.0 here.3).1 m.4,
      (items_same ts level (behind position t) here.1 m.2 m.1 e' sound.1 here.4).1 m.5,
    )),
  )

  pub spelling_same : (t : Tree) (level : Level) (text : List ℕ) (e : Groups) (w : List ℕ) (e' : Groups) → IsSound t
      → (here : SpellsList level text t) → Match t e w e' ↔ MatchIn PosixLists (written_list t level text here) e w e'
  spelling_same (Seq ts) level text e w e' sound here = items_same ts level First text e w e' sound here
  spelling_same _ level text e w e' sound here = absurd here
