-- Where the trees lead, form by form.
use Rattle.sedck_model.proofs.Common.{◌≡◌, ℕ, zero, suc, List, [], ◌∷◌, ◌++◌, Option, ◌⊎◌, inl, inr, refl, sym, ap, ◌∙◌, subst, append_assoc, ◌↔◌, append_cancel_right, Tree, Trees, Group, Seq, Repeat, Then, Groups, Match, unset, text_of, Reached, Leads, Relation, Consumes, Repeats, Closes, Steps}
use Rattle.sedck_expressions.specs.Tree.{Byte, Any, Set, Maybe, Ref, Nil}
use Rattle.sedck_bre.specs.Match.{Times, IsWithin}
use Rattle.sedck_model.proofs.StepsLemmas.{After}

-- nothing is matched, and the groups keep their texts
abbrev Stays : Reached → Reached → Type 0
Stays from to = (w : List ℕ) × (from.rest ≡ w ++ to.rest) × ((w ≡ []) × (to.groups ≡ from.groups))

stays : (from to : Reached) → Stays from to ↔ (to ≡ from)
stays from to = (
  λ (w, cut, (empty, groups)).
      let rest : to.rest ≡ from.rest = sym (cut ∙ ap (λ v. v ++ to.rest) empty) in
      λ i. record { rest = rest i; groups = groups i },
  λ is. ([], sym (ap (λ (r : Reached). r.rest) is), (refl, ap (λ (r : Reached). r.groups) is)),
)

pub nil_leads : (from to : Reached) → Leads (Seq Nil) from to ↔ (to ≡ from)
nil_leads from to = stays from to

pub then_leads : (t : Tree) (ts : Trees) (from to : Reached) → Leads (Seq (Then t ts)) from to ↔ After (Leads t) (Leads (Seq ts)) from to
then_leads t ts from to = (
  λ (w, cut, (u, v, d, parts, first, rest)).
      (record { rest = v ++ to.rest; groups = d }, (u, cut ∙ (ap (λ x. x ++ to.rest) parts ∙ append_assoc u v to.rest), first), (v, refl, rest)),
  λ (between, (u, cut, first), (v, cut', rest)).
      (u ++ v, cut ∙ (ap (λ x. u ++ x) cut' ∙ sym (append_assoc u v to.rest)), (u, v, between.groups, refl, first, rest)),
)

times_lead : (t : Tree) (n : ℕ) (from to : Reached)
    → ((w : List ℕ) × (from.rest ≡ w ++ to.rest) × Times (Match t) n from.groups w to.groups) ↔ Steps (Leads t) n from to
times_lead t zero from to = stays from to
times_lead t (suc n) from to = (
  λ (w, cut, (u, v, d, parts, first, rest)).
      let between : Reached = record { rest = v ++ to.rest; groups = d } in
      (between, (u, cut ∙ (ap (λ x. x ++ to.rest) parts ∙ append_assoc u v to.rest), first), (times_lead t n between to).0 (v, refl, rest)),
  λ (between, (u, cut, first), steps).
      let (v, cut', rest) = (times_lead t n between to).1 steps in
      (u ++ v, cut ∙ (ap (λ x. u ++ x) cut' ∙ sym (append_assoc u v to.rest)), (u, v, between.groups, refl, first, rest)),
)

pub repeat_leads : (t : Tree) (least : ℕ) (most : Option ℕ) (from to : Reached)
    → Leads (Repeat t least most) from to ↔ ((n : ℕ) × IsWithin least most n × Steps (Leads t) n from to)
repeat_leads t least most from to = (
  λ (w, cut, (n, within, times)). (n, within, (times_lead t n from to).0 (w, cut, times)),
  λ (n, within, steps). let (w, cut, times) = (times_lead t n from to).1 steps in (w, cut, (n, within, times)),
)

pub byte_leads : (c : ℕ) (from to : Reached) → Consumes (Byte c) from to ↔ Leads (Byte c) from to
byte_leads c from to = (
  λ (b, is, cut, groups). (c ∷ [], cut ∙ ap (λ x. x ∷ to.rest) is, (refl, groups)),
  λ (w, cut, (is, groups)). (c, refl, cut ∙ ap (λ v. v ++ to.rest) is, groups),
)

pub any_leads : (from to : Reached) → Consumes Any from to ↔ Leads Any from to
any_leads from to = (
  λ (b, small, cut, groups). (b ∷ [], cut, (b, small, refl, groups)),
  λ (w, cut, (b, small, is, groups)). (b, small, cut ∙ ap (λ v. v ++ to.rest) is, groups),
)

pub set_leads : (bytes : List ℕ) (from to : Reached) → Consumes (Set bytes) from to ↔ Leads (Set bytes) from to
set_leads bytes from to = (
  λ (b, member, cut, groups). (b ∷ [], cut, (b, member, refl, groups)),
  λ (w, cut, (b, member, is, groups)). (b, member, cut ∙ ap (λ v. v ++ to.rest) is, groups),
)

pub maybe_leads : (c : ℕ) (from to : Reached) → ((to ≡ from) ⊎ Consumes (Maybe c) from to) ↔ Leads (Maybe c) from to
maybe_leads c from to = (forth, back)
  where
    forth : (to ≡ from) ⊎ Consumes (Maybe c) from to → Leads (Maybe c) from to
    forth (inl is) = let (w, cut, (empty, groups)) = (stays from to).1 is in (w, cut, (inl empty, groups))
    forth (inr (b, is, cut, groups)) = (c ∷ [], cut ∙ ap (λ x. x ∷ to.rest) is, (inr refl, groups))

    back : Leads (Maybe c) from to → (to ≡ from) ⊎ Consumes (Maybe c) from to
    back (w, cut, (inl empty, groups)) = inl ((stays from to).0 (w, cut, (empty, groups)))
    back (w, cut, (inr is, groups)) = inr (c, refl, cut ∙ ap (λ v. v ++ to.rest) is, groups)

pub ref_leads : (k : ℕ) (from to : Reached) → Repeats k from to ↔ Leads (Ref k) from to
ref_leads k from to = (
  λ (cut, groups). (text_of from.groups k, cut, (refl, groups)),
  λ (w, cut, (is, groups)). (cut ∙ ap (λ v. v ++ to.rest) is, groups),
)

-- where a group is entered that unsets the groups inside
abbrev pub unset_at : Tree → Reached → Reached
unset_at body from = record { rest = from.rest; groups = unset body from.groups }

-- the body of the group leads there, with the groups inside kept or unset
abbrev pub Enters : Tree → Relation
Enters body from to = Leads body from to ⊎ Leads body (unset_at body from) to

pub group_leads : (k : ℕ) (body : Tree) (from to : Reached)
    → ((end : Reached) × Enters body from end × Closes k from end to) ↔ Leads (Group k body) from to
group_leads k body from to = (forth, back)
  where
    forth : (end : Reached) × Enters body from end × Closes k from end to → Leads (Group k body) from to
    forth (end, inl (u, cut', match), (w, cut, is)) =
        let same : u ≡ w = append_cancel_right u w end.rest (sym cut' ∙ cut) in (
          w,
          cut ∙ ap (λ x. w ++ x) (sym (ap (λ (r : Reached). r.rest) is)),
          (from.groups, end.groups, inl refl, subst (λ (v : List ℕ). Match body from.groups v end.groups) same match, ap (λ (r : Reached). r.groups) is),
        )
    forth (end, inr (u, cut', match), (w, cut, is)) =
        let same : u ≡ w = append_cancel_right u w end.rest (sym cut' ∙ cut) in (
          w,
          cut ∙ ap (λ x. w ++ x) (sym (ap (λ (r : Reached). r.rest) is)),
          (unset body from.groups, end.groups, inr refl, subst (λ (v : List ℕ). Match body (unset body from.groups) v end.groups) same match, ap (λ (r : Reached). r.groups) is),
        )

    back : Leads (Group k body) from to → (end : Reached) × Enters body from end × Closes k from end to
    back (w, cut, (d, f, inl kept, match, is)) = (
      record { rest = to.rest; groups = f },
      inl (w, cut, subst (λ (e : Groups). Match body e w f) kept match),
      (w, cut, λ i. record { rest = to.rest; groups = is i }),
    )
    back (w, cut, (d, f, inr unset', match, is)) = (
      record { rest = to.rest; groups = f },
      inr (w, cut, subst (λ (e : Groups). Match body e w f) unset' match),
      (w, cut, λ i. record { rest = to.rest; groups = is i }),
    )
