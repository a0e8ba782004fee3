-- The kind of a substitution is its kind by literal parts alone, or that one is Grow.
use Rattle.sedck_flow.proofs.Common.{◌≡◌, ◌⊎◌, ◌↔◌, IsTrue, List, [], ◌∷◌, refl, sym, ap, subst, inl, inr, arith, false≢true, Groups, texts_length, Part, Whole, Group, Substitution, Program, HasNoWhole, named_groups, AreDistinct, AreTopGroups, KeepsGroups, IsWholeAlone, Shortens, NeverLengthens, HasKind, Kind, Consume, Shorten, Keep, Grow}
use Rattle.sedck_flow.specs.LiteralKinds.{is_literal, LiteralShortens, LiteralNeverLengthens, HasLiteralKind}
use Rattle.sedck_flow.proofs.VerbLemmas.{one_kind}

-- a literal replacement names no group and has no `&`
literal_names : (parts : List Part) → IsTrue (is_literal parts) → named_groups parts ≡ []
literal_names [] h = refl
literal_names (Whole ∷ parts) h = absurd (false≢true h)
literal_names (Group k ∷ parts) h = absurd (false≢true h)
literal_names (_ ∷ parts) h = literal_names parts h

literal_no_whole : (parts : List Part) → IsTrue (is_literal parts) → HasNoWhole parts
literal_no_whole [] h = tt
literal_no_whole (Whole ∷ parts) h = absurd (false≢true h)
literal_no_whole (Group k ∷ parts) h = absurd (false≢true h)
literal_no_whole (_ ∷ parts) h = literal_no_whole parts h

literal_not_alone : (parts : List Part) → IsTrue (is_literal parts) → IsWholeAlone parts → ⊥
literal_not_alone (Whole ∷ parts) h alone = false≢true h
literal_not_alone _ h alone = alone

literal_keeps : (s : Substitution) → IsTrue (is_literal s.parts) → KeepsGroups s.pattern s.parts
literal_keeps s h =
    let none = literal_names s.parts h in
    record {
      no_whole = literal_no_whole s.parts h;
      distinct = subst AreDistinct (sym none) tt;
      top = subst (AreTopGroups s.pattern) (sym none) tt;
    }

no_length : (s : Substitution) (groups : Groups) → IsTrue (is_literal s.parts) → texts_length groups (named_groups s.parts) ≡ 0
no_length s groups h = ap (texts_length groups) (literal_names s.parts h)

shortens_still : (p : Program) (s : Substitution) → LiteralShortens p s → Shortens p s
shortens_still p s (literal, h) =
    (literal_keeps s literal, λ tree text groups is m. omega (arith, h text (tree, is, (groups, m)), no_length s groups literal))

never_lengthens_still : (p : Program) (s : Substitution) → LiteralNeverLengthens p s → NeverLengthens p s
never_lengthens_still p s (literal, h) =
    (literal_keeps s literal, λ tree text groups is m. omega (arith, h text (tree, is, (groups, m)), no_length s groups literal))

-- where the replacement is literal, the rest of a match is its whole text
shortens_literally : (p : Program) (s : Substitution) → IsTrue (is_literal s.parts) → Shortens p s → LiteralShortens p s
shortens_literally p s literal h =
    (literal, λ text (tree, is, (groups, m)). omega (arith, h.1 tree text groups is m, no_length s groups literal))

never_lengthens_literally : (p : Program) (s : Substitution) → IsTrue (is_literal s.parts) → NeverLengthens p s → LiteralNeverLengthens p s
never_lengthens_literally p s literal h =
    (literal, λ text (tree, is, (groups, m)). omega (arith, h.1 tree text groups is m, no_length s groups literal))

pub kinds_agree : (p : Program) (s : Substitution) (literal kind : Kind) → HasLiteralKind p s literal → HasKind p s kind → (kind ≡ literal) ⊎ (literal ≡ Grow)
kinds_agree p s Consume kind h k = absurd h
kinds_agree p s Grow kind h k = inr refl
kinds_agree p s Shorten kind h k = inl (one_kind p s kind Shorten k (shortens_still p s h))
kinds_agree p s Keep kind h k =
    inl (one_kind p s kind Keep k (inr (λ short. h.0 (shortens_literally p s h.1.0 short), never_lengthens_still p s h.1)))

-- ---- A literal replacement

kept_literally : (p : Program) (s : Substitution) → IsTrue (is_literal s.parts) → HasKind p s Keep → HasLiteralKind p s Keep
kept_literally p s literal (inl alone) = absurd (literal_not_alone s.parts literal alone)
kept_literally p s literal (inr (not_shorter, never)) = (λ h. not_shorter (shortens_still p s h), never_lengthens_literally p s literal never)

pub literal_kinds_stay : (p : Program) (s : Substitution) → IsTrue (is_literal s.parts) → (kind : Kind) → HasKind p s kind ↔ HasLiteralKind p s kind
literal_kinds_stay p s literal Consume = (λ h. h, λ h. h)
literal_kinds_stay p s literal Shorten = (shortens_literally p s literal, shortens_still p s)
literal_kinds_stay p s literal Keep =
    (kept_literally p s literal, λ h. inr (λ short. h.0 (shortens_literally p s literal short), never_lengthens_still p s h.1))
literal_kinds_stay p s literal Grow =
    (λ h. λ never. h.1 (never_lengthens_still p s never), λ h. (literal_not_alone s.parts literal, λ never. h (never_lengthens_literally p s literal never)))
