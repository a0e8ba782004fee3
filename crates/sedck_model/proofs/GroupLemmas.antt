-- The texts of groups, after a span is set or taken away.
use Rattle.sedck_model.proofs.Common.{◌≡◌, ℕ, ◌+◌, ◌-◌, ◌<◌, ◌≤◌, Bool, true, false, cond, eqb, List, [], ◌∷◌, ◌++◌, length, get_or, take, drop, Option, Some, None, inl, inr, refl, sym, ap, ◌∙◌, arith, length-drop, length-append, fun_ext, take_at, Tree, groups_in, is_in, unset, Span, Spot, reached, span_text, groups_of, IsNext, IsBetween, Closes}
use Rattle.std.proofs.Common.{set}
use Rattle.std.specs.Prelude.{slice_range, slice_set, slice_index_or, ◌||◌}
use Rattle.std.specs.List.{list_any}
use Rattle.std.proofs.lemmas.Bool.Decides.{eqb_tells}
use Rattle.std.proofs.lemmas.List.{get_or-set_same, get_or-set_other}
use Rattle.sedck_bre.specs.Match.{with_text}
use Rattle.sedck_model.specs.Private.Relations.{AreUnset, SetsGroup}

pub between_length : (text w : List ℕ) (start end : ℕ) → start ≤ length text → end ≤ length text → drop start text ≡ w ++ drop end text → end ≡ start + length w
between_length text w start end first last cut =
    omega (arith, ap length cut, length-append w (drop end text), length-drop start text, length-drop end text)

pub between_text : (text w : List ℕ) (start end : ℕ) → start ≤ length text → end ≤ length text → drop start text ≡ w ++ drop end text → slice_range text start end ≡ w
between_text text w start end first last cut =
    let size : length w ≡ end - start = omega (arith, between_length text w start end first last cut) in
    ap (take (end - start)) cut ∙ take_at w (drop end text) (end - start) size

pub set_groups : (text w : List ℕ) (spans : List (Option Span)) (k : ℕ) (span : Span) → k < length spans → slice_range text span.start span.end ≡ w
    → groups_of text (slice_set spans k (Some span)) ≡ with_text (groups_of text spans) k w
set_groups text w spans k span below cut = fun_ext at
  where
    at : (j : ℕ) → groups_of text (slice_set spans k (Some span)) j ≡ with_text (groups_of text spans) k w j
    at j = elim (eqb_tells j k) [
      | inl (same, is) ↦
          ap (span_text text) (ap (λ (i : ℕ). get_or (set spans k (Some span)) i None) is ∙ get_or-set_same spans k (Some span) None below)
          ∙ (ap Some cut ∙ sym (ap (λ b. cond b (Some w) (groups_of text spans j)) same))
      | inr (same, other) ↦
          ap (span_text text) (get_or-set_other spans k j (Some span) None other) ∙ sym (ap (λ b. cond b (Some w) (groups_of text spans j)) same)
    ]

span_of_unset : (text : List ℕ) (b : Bool) (span : Option Span) → span_text text (cond b None span) ≡ cond b None (span_text text span)
span_of_unset text true span = refl
span_of_unset text false span = refl

pub unset_groups : (text : List ℕ) (t : Tree) (old new : List (Option Span)) → AreUnset (groups_in t) old new → groups_of text new ≡ unset t (groups_of text old)
unset_groups text t old new h =
    fun_ext (λ k. ap (span_text text) (h k) ∙ span_of_unset text (is_in k (groups_in t)) (slice_index_or old k None))

any_both : (p : ℕ → Bool) (xs ys : List ℕ) → list_any p (xs ++ ys) ≡ (list_any p xs || list_any p ys)
any_both p [] ys = refl
any_both p (x ∷ xs) ys = by_test (p x) (any_both p xs ys)
  where
    by_test : (b : Bool) → list_any p (xs ++ ys) ≡ (list_any p xs || list_any p ys) → (b || list_any p (xs ++ ys)) ≡ ((b || list_any p xs) || list_any p ys)
    by_test true h = refl
    by_test false h = h

cleared_twice : (a b : Bool) (old new : Option Span) → new ≡ cond a None old → cond b None new ≡ cond (a || b) None old
cleared_twice true true old new is = refl
cleared_twice true false old new is = is
cleared_twice false b old new is = ap (cond b None) is

-- first the groups of one tree are unset, then those of the rest
pub clear_more : (k : ℕ) (first rest : List ℕ) (old new : Option Span) → new ≡ cond (is_in k first) None old
    → cond (is_in k rest) None new ≡ cond (is_in k (first ++ rest)) None old
clear_more k first rest old new is =
    cleared_twice (is_in k first) (is_in k rest) old new is ∙ sym (ap (λ b. cond b None old) (any_both (λ j. eqb j k) first rest))

-- where a group is closed there is one place
pub closes_next : (text : List ℕ) (start end x : Spot) (k : ℕ) → IsBetween text start.at end.at → x.at ≡ end.at → SetsGroup k start end x
    → IsNext (Closes k (reached text start)) text end (Some x)
closes_next text start end x k between place groups =
    let same : (w : List ℕ) → drop start.at text ≡ w ++ drop end.at text
    → reached text x ≡ record { rest = drop end.at text; groups = with_text (groups_of text end.groups) k w } =
    λ w cut i. record { rest = drop (place i) text; groups = groups text (record { first = between.first; last = between.last; part = (w, cut) }) i } in
    let part = between.part in (
      omega (arith, between.last, place),
      λ to. (λ (w, cut, is). is ∙ sym (same w cut), λ is. (part.0, part.1, is ∙ same part.0 part.1)),
    )
