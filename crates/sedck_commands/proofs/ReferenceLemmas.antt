-- The groups that a replacement keeps, read part after part, are those that it names; outside of them the rest is the same.
use Rattle.sedck_commands.proofs.Common.{◌≡◌, ◌≢◌, ℕ, ◌+◌, ◌<◌, ◌≤◌, ◌^◌, Bool, true, false, not, ◌||◌, List, [], ◌∷◌, map, get_or, drop, length, Option, Some, None, refl, sym, ap, subst, ◌∙◌, inl, inr, arith, All, AllByRecursion, get_or-map, length-map, or-false, false≢true, and_parts, not-true, nat_tests, eqb_tells, is_in, Tree, Pattern, Previous, Expression, Part, Whole, Group, part_of, IsPart, kept_from, named_groups, KeepsGroups, unwrap_or, drop_more, All-get_or, or-true, or_assoc, or_parts, Coded, may_keep, kept_with, HasNoWhole, IsNotIn, AreDistinct, AreTopGroups}
use Rattle.std.proofs.Common.{◌==◌, IsTrue}
use Rattle.std.specs.Prelude.{is_some}
use Rattle.std.specs.Int.{bit_at}
use Rattle.std.specs.Int.RustNames.{bit_or}
use Rattle.std.proofs.lemmas.Nat.Bits.{bit_at_or, bit_at-pow_same, bit_at-pow_other, bit_at-zero}
use Rattle.sedck_bre.specs.Match.{Groups}
use Rattle.sedck_bre.specs.Lengths.{IsLeastSize}
use Rattle.sedck_bre.specs.Rests.{names, named, is_top_group, NamesTopGroups, texts_length, HasRest}
use Rattle.sedck_bre.proofs.NamedSums.{sum_of, without, texts_sum, sum_of-none, sum_of-split}
use Rattle.sedck_bre.proofs.LeastRest.{lengths}

-- ---- One group more

abbrev pub IsWithin : ℕ → Type 0
IsWithin k = (1 ≤ k) × (k ≤ 9)

-- the bits name none of the groups
abbrev pub AreApart : ℕ → List ℕ → Type 0
AreApart bits ks = AllByRecursion (λ k. names bits k ≡ false) ks

more_same : (bits k : ℕ) → names (bit_or bits (2 ^ k)) k ≡ true
more_same bits k =
    let both = bit_at_or bits (2 ^ k) k in
    let here = bit_at-pow_same k in
    let low : bit_at bits k < 2 = omega arith in
    let is : bit_at (bit_or bits (2 ^ k)) k ≡ 1 = omega (arith, both, here, low) in
    rw is refl

pub more_other : (bits k j : ℕ) → j ≢ k → names (bit_or bits (2 ^ k)) j ≡ names bits j
more_other bits k j other =
    let both = bit_at_or bits (2 ^ k) j in
    let there = bit_at-pow_other k j other in
    let is : bit_at (bit_or bits (2 ^ k)) j ≡ bit_at bits j = omega (arith, both, there) in
    ap (λ n. n == 1) is

more_named : (bits k j : ℕ) → names (bit_or bits (2 ^ k)) j ≡ (names bits j || (k == j))
more_named bits k j = elim (eqb_tells k j) [
  | inl s ↦ (
      let here = subst (λ i. names (bit_or bits (2 ^ k)) i ≡ true) s.1 (more_same bits k) in
      rw (s.0, here) (sym (or-true (names bits j))))
  | inr s ↦ rw (s.0, more_other bits k j (λ e. s.1 (sym e))) (sym (or-false (names bits j)))
]

-- ---- One part more

-- a part of the code's list is a part
pub coded_part : (parts : List Coded) (i : ℕ) (d : Coded) → i < length parts → All IsPart (map part_of parts) → IsPart (part_of (get_or parts i d))
coded_part parts i d l h =
    subst IsPart (get_or-map part_of parts i d (part_of d) l)
    (All-get_or IsPart (map part_of parts) i (part_of d) (omega (arith, length-map parts part_of, l)) h)

-- what the parts from this one on decide, the part decides with those after it
pub kept_more : {next : Option ℕ} (pattern : Pattern) (bits : ℕ) (parts : List Coded) (i : ℕ) (d : Coded) → i < length parts
    → kept_with pattern bits (part_of (get_or parts i d)) ≡ next
    → kept_from pattern (Some bits) (drop i (map part_of parts)) ≡ kept_from pattern next (drop (i + 1) (map part_of parts))
kept_more {next} pattern bits parts i d l step =
    let cut = drop_more (map part_of parts) i (part_of d) (omega (arith, length-map parts part_of, l)) in
    let here = get_or-map part_of parts i d (part_of d) l in
    ap (kept_from pattern (Some bits)) (cut ∙ ap (λ p. p ∷ drop (i + 1) (map part_of parts)) here)
    ∙ ap (λ o. kept_from pattern o (drop (i + 1) (map part_of parts))) step

-- ---- The groups that are kept

-- From the groups of the bits on, the parts keep these groups, and none of those before.
pub record Keeps (pattern : Pattern) (bits : ℕ) (parts : List Part) (after : ℕ) : Type 0 where
  pub whole : HasNoWhole parts
  pub distinct : AreDistinct (named_groups parts)
  pub top : AreTopGroups pattern (named_groups parts)
  pub apart : AreApart bits (named_groups parts)
  pub within : AllByRecursion IsWithin (named_groups parts)
  pub is : (j : ℕ) → names after j ≡ (names bits j || is_in j (named_groups parts))

-- what is apart from one group more is apart from it
apart_more : (bits k : ℕ) (ks : List ℕ) → AreApart (bit_or bits (2 ^ k)) ks → IsNotIn k ks × AreApart bits ks
apart_more bits k [] h = (tt, tt)
apart_more bits k (j ∷ ks) h =
    let both = or_parts (names bits j) (k == j) (sym (more_named bits k j) ∙ h.0) in
    let more = apart_more bits k ks h.1 in
    ((λ e. absurd (grind (arith, nat_tests, both.1, e)), more.0), (both.0, more.1))

-- the other way round
apart_less : (bits k : ℕ) (ks : List ℕ) → IsNotIn k ks → AreApart bits ks → AreApart (bit_or bits (2 ^ k)) ks
apart_less bits k [] other h = tt
apart_less bits k (j ∷ ks) other h = (more_other bits k j (λ e. other.0 (sym e)) ∙ h.0, apart_less bits k ks other.1 h.1)

-- the same groups, where no part is the whole match
same_groups : {pattern : Pattern} {bits after : ℕ} {parts more : List Part} → named_groups more ≡ named_groups parts → (HasNoWhole parts → HasNoWhole more)
    → Keeps pattern bits parts after → Keeps pattern bits more after
same_groups {pattern} {bits} {after} same whole h = record {
  whole = whole h.whole;
  distinct = subst AreDistinct (sym same) h.distinct;
  top = subst (AreTopGroups pattern) (sym same) h.top;
  apart = subst (AreApart bits) (sym same) h.apart;
  within = subst (AllByRecursion IsWithin) (sym same) h.within;
  is = λ j. h.is j ∙ ap (λ ks. names bits j || is_in j ks) (sym same);
}

no_some : {n : ℕ} → None ≡ Some n → ⊥
no_some e = false≢true (ap is_some e)

pub kept_keeps : (pattern : Pattern) (bits : ℕ) (parts : List Part) (after : ℕ) → AllByRecursion IsPart parts
    → kept_from pattern (Some bits) parts ≡ Some after → Keeps pattern bits parts after
kept_keeps pattern bits [] after h e =
    let same : bits ≡ after = ap (λ o. unwrap_or o 0) e in
    record {
      whole = tt;
      distinct = tt;
      top = tt;
      apart = tt;
      within = tt;
      is = λ j. ap (λ b. names b j) (sym same) ∙ sym (or-false (names bits j));
    }
kept_keeps pattern bits (Whole ∷ parts) after h e = absurd (no_some e)
kept_keeps Previous bits (Group k ∷ parts) after h e = absurd (no_some e)
kept_keeps (Expression own) bits (Group k ∷ parts) after h e =
    go (may_keep (Expression own) bits k) refl (kept_keeps (Expression own) (bit_or bits (2 ^ k)) parts after h.1)
  where
    go : (b : Bool) → may_keep (Expression own) bits k ≡ b
        → (kept_from (Expression own) (Some (bit_or bits (2 ^ k))) parts ≡ Some after → Keeps (Expression own) (bit_or bits (2 ^ k)) parts after)
        → Keeps (Expression own) bits (Group k ∷ parts) after
    go false s later =
        let step : kept_with (Expression own) bits (Group k) ≡ None = rw s refl in
        absurd (no_some (sym (ap (λ o. kept_from (Expression own) o parts) step) ∙ e))
    go true s later =
        let step : kept_with (Expression own) bits (Group k) ≡ Some (bit_or bits (2 ^ k)) = rw s refl in
        let both = and_parts (is_top_group own k) (not (names bits k)) s in
        let clear = not-true (names bits k) both.1 in
        let more = later (sym (ap (λ o. kept_from (Expression own) o parts) step) ∙ e) in
        let split = apart_more bits k (named_groups parts) more.apart in
        record {
          whole = more.whole;
          distinct = (split.0, more.distinct);
          top = (both.0, more.top);
          apart = (clear, split.1);
          within = (h.0, more.within);
          is = λ j. more.is j ∙ ap (λ b. b || is_in j (named_groups parts)) (more_named bits k j)
              ∙ or_assoc (names bits j) (k == j) (is_in j (named_groups parts));
        }
kept_keeps pattern bits (_ ∷ parts) after h e = same_groups refl (λ w. w) (kept_keeps pattern bits parts after h.1 e)

-- where the parts aren't kept, the replacement doesn't keep groups
kept_none : (pattern : Pattern) (bits : ℕ) (parts : List Part) → kept_from pattern (Some bits) parts ≡ None
    → HasNoWhole parts → AreDistinct (named_groups parts) → AreTopGroups pattern (named_groups parts) → AreApart bits (named_groups parts) → ⊥
kept_none pattern bits [] e whole distinct top apart = no_some (sym e)
kept_none pattern bits (Whole ∷ parts) e whole distinct top apart = whole
kept_none Previous bits (Group k ∷ parts) e whole distinct top apart = top
kept_none (Expression own) bits (Group k ∷ parts) e whole distinct top apart =
    let free : may_keep (Expression own) bits k ≡ true = rw (top.0, apart.0) refl in
    let step : kept_with (Expression own) bits (Group k) ≡ Some (bit_or bits (2 ^ k)) = rw free refl in
    kept_none (Expression own) (bit_or bits (2 ^ k)) parts (sym (ap (λ o. kept_from (Expression own) o parts) step) ∙ e) whole distinct.1 top.1
    (apart_less bits k (named_groups parts) distinct.0 apart.1)
kept_none pattern bits (_ ∷ parts) e whole distinct top apart = kept_none pattern bits parts e whole distinct top apart

-- ---- From no group on

clear : (j : ℕ) → names 0 j ≡ false
clear j = rw (bit_at-zero j) refl

apart_clear : (ks : List ℕ) → AreApart 0 ks
apart_clear [] = tt
apart_clear (k ∷ ks) = (clear k, apart_clear ks)

pub none_kept : (pattern : Pattern) (parts : List Part) → kept_from pattern (Some 0) parts ≡ None → ¬ KeepsGroups pattern parts
none_kept pattern parts e h = kept_none pattern 0 parts e h.no_whole h.distinct h.top (apart_clear (named_groups parts))

pub keeps_groups : {pattern : Pattern} {bits after : ℕ} {parts : List Part} → Keeps pattern bits parts after → KeepsGroups pattern parts
keeps_groups h = record { no_whole = h.whole; distinct = h.distinct; top = h.top }

-- the bits are those of the groups
named_is : {pattern : Pattern} {parts : List Part} {after : ℕ} → Keeps pattern 0 parts after → (j : ℕ) → names after j ≡ is_in j (named_groups parts)
named_is {parts = parts} h j = h.is j ∙ ap (λ b. b || is_in j (named_groups parts)) (clear j)

in_top : (own : Tree) (k : ℕ) (ks : List ℕ) → is_in k ks ≡ true → AllByRecursion IsWithin ks → AreTopGroups (Expression own) ks
    → (1 ≤ k) × (k ≤ 9) × IsTrue (is_top_group own k)
in_top own k [] e within top = absurd (false≢true e)
in_top own k (j ∷ ks) e within top = elim (eqb_tells j k) [
  | inl s ↦ subst (λ i. (1 ≤ i) × (i ≤ 9) × IsTrue (is_top_group own i)) s.1 (within.0.0, within.0.1, top.0)
  | inr s ↦ in_top own k ks (rw s.0 at e) within.1 top.1
]

pub names_top : {own : Tree} {parts : List Part} {after : ℕ} → Keeps (Expression own) 0 parts after → NamesTopGroups own after
names_top {own} {parts} h k named = in_top own k (named_groups parts) (sym (named_is h k) ∙ named) h.within h.top

-- ---- How long their texts are

abbrev nine : List ℕ
nine = 1 ∷ 2 ∷ 3 ∷ 4 ∷ 5 ∷ 6 ∷ 7 ∷ 8 ∷ 9 ∷ []

pub not_in : (k : ℕ) (ks : List ℕ) → IsNotIn k ks → is_in k ks ≡ false
not_in k [] h = refl
not_in k (j ∷ ks) h =
    let other : (j == k) ≡ false = grind (arith, nat_tests, h.0) in
    rw other (not_in k ks h.1)

-- one group less
less : (k : ℕ) (ks : List ℕ) (picked : ℕ → Bool) → IsNotIn k ks → ((j : ℕ) → picked j ≡ is_in j (k ∷ ks)) → (j : ℕ) → without k picked j ≡ is_in j ks
less k ks picked other h j = elim (eqb_tells j k) [
  | inl s ↦ rw s.0 (sym (ap (λ i. is_in i ks) s.1 ∙ not_in k ks other))
  | inr s ↦ (let there : (k == j) ≡ false = grind (arith, nat_tests, s.1) in rw s.0 (h j ∙ ap (λ b. b || is_in j ks) there))
]

texts_of : (e : Groups) (ks : List ℕ) (picked : ℕ → Bool) → AreDistinct ks → AllByRecursion IsWithin ks → ((j : ℕ) → picked j ≡ is_in j ks)
    → sum_of picked (lengths e) nine ≡ texts_length e ks
texts_of e [] picked distinct within h = sum_of-none picked (lengths e) nine (λ k p. false≢true (sym (h k) ∙ p))
texts_of e (k ∷ ks) picked distinct within h =
    let first : (k == k) ≡ true = grind (arith, nat_tests) in
    let here : picked k ≡ true = h k ∙ ap (λ b. b || is_in k ks) first in
    let split = sum_of-split picked (lengths e) 1 k nine (refl, (refl, (refl, (refl, (refl, (refl, (refl, (refl, (refl, tt)))))))))
    within.0.0 (omega (arith, within.0.1)) here in
    let others = texts_of e ks (without k picked) distinct.1 within.1 (less k ks picked distinct.0 h) in
    split ∙ ap (λ n. lengths e k + n) others

-- the texts of the bits' groups are as long together as those of the groups that the parts name
texts_same : {own : Tree} {parts : List Part} {after : ℕ} → Keeps (Expression own) 0 parts after → (e : Groups)
    → texts_length e (named after) ≡ texts_length e (named_groups parts)
unfolding named
texts_same {parts = parts} {after} h e = texts_sum e (names after) nine ∙ texts_of e (named_groups parts) (names after) h.distinct h.within (named_is h)

-- so the least rest is the same
pub outside_named : {own : Tree} {parts : List Part} {after n : ℕ} → Keeps (Expression own) 0 parts after → IsLeastSize (HasRest own (named after)) n
    → IsLeastSize (HasRest own (named_groups parts)) n
outside_named {n = n} h least = record {
  floor = λ m (w, e, matches, is). least.floor m (w, e, matches, is ∙ ap (λ l. m + l) (sym (texts_same h e)));
  met = λ below.
      let shortest = least.met below in
      (shortest.0, shortest.1, shortest.2, shortest.3 ∙ ap (λ l. n + l) (texts_same h shortest.1));
  capped = least.capped;
}
