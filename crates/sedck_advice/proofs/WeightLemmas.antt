-- What is known of expressions with one item or one command more, and warnings that are added.
use Rattle.sedck_advice.proofs.Common.{◌≡◌, Option, ◌∙◌, ◌||◌, ◌&&◌, ◌+◌, min, Bool, true, false, List, [], ◌∷◌, ◌++◌, map, refl, sym, ap, subst, list_any, list_any-append, trees, cap, tree, capped_sum, is_warning, is_locale, has_locale, Finding, written_out, all_written_out, copies, WeighsAll}
use Rattle.std.proofs.Common.{Some, None, ℕ, ◌<◌, arith}
use Rattle.std.specs.Prelude.{sum_by}
use Rattle.std.proofs.Math.Bool.{or-true, or-false}
use Rattle.std.proofs.lemmas.List.Sums.{sum_by_push}
use Rattle.sedck_expressions.specs.declared.tree.Bre.{Bre}
use Rattle.sedck_script.specs.Program.{Command}
use Rattle.sedck_script.specs.ByteSafe.{command_expressions}
use Rattle.sedck_advice.specs.Slow.{repeats_badly}
use Rattle.sedck_advice.specs.Private.Weights.{Weighs}
use Rattle.sedck_advice.specs.declared.weights.Weight.{Weight}

-- ---- Items that are written out

pub written_out-push : (inside : Bool) (xs : List Bre) (x : Bre)
    → all_written_out inside (trees (map tree (xs ++ x ∷ []))) ≡ all_written_out inside (trees (map tree xs)) + written_out inside (tree x)
written_out-push inside [] x = omega arith
written_out-push inside (y ∷ xs) x = let h = written_out-push inside xs x in omega (arith, h)

-- ---- Commands

any-push : (p : Command → Bool) (cs : List Command) (c : Command) → list_any p (cs ++ c ∷ []) ≡ (list_any p cs || p c)
any-push p cs c = list_any-append p cs (c ∷ []) ∙ ap (λ b. list_any p cs || b) (or-false (p c))

-- one command more
pub weighs_more : (cs more : List Command) (c : Command) (w own new : Weight) → more ≡ cs ++ c ∷ [] → WeighsAll cs w → Weighs (command_expressions c) own
    → new.repetition ≡ (w.repetition || own.repetition)
    → new.items ≡ min (min (w.items + own.items) 4294967295) cap → WeighsAll more new
weighs_more cs more c w own new is all one repetition items = subst (λ (ds : List Command). WeighsAll ds new) (sym is) (record {
  repetition = repetition ∙ ap (λ b. b || own.repetition) all.repetition
      ∙ ap (λ b. list_any (λ d. list_any repeats_badly (command_expressions d)) cs || b) one.repetition
      ∙ sym (any-push (λ d. list_any repeats_badly (command_expressions d)) cs c);
  items = items ∙ ap (λ n. min (min (n + own.items) 4294967295) cap) all.items
      ∙ ap (λ n. min (min (min (sum_by (λ d. sum_by (written_out false) (command_expressions d)) cs) cap + n) 4294967295) cap) one.items
      ∙ capped_sum (sum_by (λ d. sum_by (written_out false) (command_expressions d)) cs) (sum_by (written_out false) (command_expressions c))
      ∙ ap (λ n. min n cap) (sym (sum_by_push (λ d. sum_by (written_out false) (command_expressions d)) cs c));
})

pub copies_positive : (least : ℕ) (most : Option ℕ) → 0 < copies least most
copies_positive least None = omega arith
copies_positive least (Some most) = omega arith

-- ---- Warnings

-- what is warned of, with what is left: where the next one is warned of, and where it isn't
pub with_warning : (was now next rest left due : Bool) → left ≡ (next || rest) → next ≡ true → now ≡ true → (was || left) ≡ due → (now || rest) ≡ due
with_warning was now next rest left due split is warned known =
    ap (λ b. b || rest) warned ∙ sym (or-true was) ∙ ap (λ l. was || l) (sym (split ∙ ap (λ b. b || rest) is)) ∙ known

pub without_warning : (was next rest left due : Bool) → left ≡ (next || rest) → next ≡ false → (was || left) ≡ due → (was || rest) ≡ due
without_warning was next rest left due split none known = ap (λ l. was || l) (sym (split ∙ ap (λ b. b || rest) none)) ∙ known

-- the warning `locale` that is added
pub locale_push : (old new : List Finding) (f : Finding) → new ≡ old ++ f ∷ [] → (is_warning f.level && is_locale f.code) ≡ true
    → has_locale new ≡ true
locale_push old new f is warns =
    ap has_locale is
    ∙ list_any-append (λ finding. is_warning finding.level && is_locale finding.code) old (f ∷ [])
    ∙ ap (λ b. has_locale old || (b || false)) warns
    ∙ or-true (has_locale old)
