-- The edges that are found for a verb are those that it has.
use Rattle.sedck_flow.proofs.Common.{◌≡◌, ◌⊎◌, ◌↔◌, ℕ, ◌<◌, Bool, true, false, List, refl, sym, subst, inl, inr, arith, Address, DeleteFirstLine, Next, Substitution, Substitute, Program, start, next, with_flag, with_last, HasKind, ReadsLine, VerbEdge, kind_index, Adds, AddsEdge, AddsLine, Node, Kind, Consume, Shorten, Keep, Grow, cases_order, verb_of, KeptOrReset}
use Rattle.sedck_commands.specs.declared.types.Substitution.{Substitution as CodedSubstitution}
use Rattle.sedck_commands.specs.declared.types.Verb.{Verb as Coded}
use Rattle.sedck_commands.specs.declared.types.Verb.TheVariants as coded
use Rattle.std.specs.Borrow.{Bor}
use Rattle.sedck_flow.proofs.EdgeOrder.{kind_same}
use Rattle.sedck_flow.proofs.References.{alone_has_whole}
use Rattle.sedck_flow.proofs.EdgeListLemmas.{adds_then, adds_same}

-- the targets of one edge
abbrev pub Only : Kind → Node → Kind → Node → Type 0
Only kind to k n = (k ≡ kind) × (n ≡ to)

-- the flag is kept, or it is reset
kept_or_reset : (old : Bool) (F : Bool → Type 0) → (F old ⊎ F false) ↔ ((flag : Bool) × KeptOrReset old flag × F flag)
kept_or_reset old F = (
  elim [ inl h ↦ (old, inl refl, h) | inr h ↦ (false, inr refl, h) ],
  λ h. elim h.1 [ inl kept ↦ inl (subst F kept h.2) | inr reset ↦ inr (subst F reset h.2) ],
)

-- `D`
pub drops : (p : Program) (a : Address) (n : Node) (before first second after : List (Node × Kind)) → AddsLine n (start n.last) before first
    → AddsEdge Shorten (with_flag (start n.last) n.flag) first second → AddsEdge Shorten (start n.last) second after
    → Adds (VerbEdge p a DeleteFirstLine n) before after
drops p a n before first second after line kept reset =
    adds_then (ReadsLine n start) _ before first after line (adds_same _ _ first after (λ k t. shorter k t) (adds_then _ _ first second after kept reset))
  where
    shorter : (k : Kind) (t : Node) → (Only Shorten (with_flag (start n.last) n.flag) k t ⊎ Only Shorten (start n.last) k t)
        ↔ ((k ≡ Shorten) × (flag : Bool) × KeptOrReset n.flag flag × (t ≡ with_flag (start n.last) flag))
    shorter k t = let same = kept_or_reset n.flag (λ f. Only Shorten (with_flag (start n.last) f) k t) in
        (λ h. let r = same.0 h in (r.2.0, r.0, r.1, r.2.1), λ h. same.1 (h.1, h.2, (h.0, h.3)))

-- `n` and `N`
pub reads : (p : Program) (a : Address) (n : Node) (before between after : List (Node × Kind)) → AddsLine n (next n) before between
    → AddsLine n (with_flag (next n) false) between after → Adds (VerbEdge p a Next n) before after
reads p a n before between after kept reset =
    adds_same _ (VerbEdge p a Next n) before after (λ k t. kept_or_reset n.flag (λ f. ReadsLine n (with_last (with_flag (next n) f)) k t))
    (adds_then _ _ before between after kept reset)

-- a substitution has one kind
apart : (p : Program) (s : Substitution) (k l : Kind) → kind_index k < kind_index l → HasKind p s k → HasKind p s l → ⊥
apart p s Consume l less h j = h
apart p s Shorten Keep less h (inl alone) = alone_has_whole s.parts alone h.0.no_whole
apart p s Shorten Keep less h (inr j) = j.0 h
apart p s Shorten Grow less h j = j.1 (h.0, λ tree text groups is m. omega (arith, h.1 tree text groups is m))
apart p s Keep Grow less (inl alone) j = j.0 alone
apart p s Keep Grow less (inr h) j = j.1 h.1
apart p s _ Consume less h j = j
apart p s _ _ less h j = omega arith

pub one_kind : (p : Program) (s : Substitution) (k l : Kind) → HasKind p s k → HasKind p s l → k ≡ l
one_kind p s k l h j = elim (cases_order (kind_index k) (kind_index l)) [
  | inl same ↦ kind_same k l same
  | inr (inl below) ↦ absurd (apart p s k l below h j)
  | inr (inr above) ↦ absurd (apart p s l k above j h)
]

-- `s`
pub substitutes : (p : Program) (a : Address) (s : Substitution) (kind : Kind) (n : Node) (before between after : List (Node × Kind)) → HasKind p s kind
    → AddsEdge Keep (next n) before between → AddsEdge kind (with_flag (next n) true) between after
    → Adds (VerbEdge p a (Substitute s) n) before after
substitutes p a s kind n before between after has kept made =
    adds_then (Only Keep (next n)) _ before between after kept
    (adds_same _ _ between after
    (λ k t. (λ h. (subst (λ l. HasKind p s l) (sym h.0) has, h.1), λ h. (one_kind p s k kind h.0 has, h.1))) made)

-- a verb that is none of these goes on to the next command
pub other_verb : (p : Program) (a : Address) (v : Coded) (n : Node) (before after : List (Node × Kind))
    → ((target : ℕ) → v ≡ coded.Branch target → ⊥) → ((target : ℕ) → v ≡ coded.Test target → ⊥) → ((text : Bor (List ℕ)) → v ≡ coded.Change text → ⊥)
    → ((s : CodedSubstitution) → v ≡ coded.Substitute s → ⊥)
    → (v ≡ coded.Delete → ⊥) → (v ≡ coded.DeleteFirstLine → ⊥) → (v ≡ coded.Get → ⊥) → (v ≡ coded.GetAppend → ⊥) → (v ≡ coded.Next → ⊥)
    → (v ≡ coded.NextAppend → ⊥) → (v ≡ coded.Quit → ⊥) → (v ≡ coded.Exchange → ⊥)
    → Adds (Only Keep (next n)) before after → Adds (VerbEdge p a (verb_of v) n) before after
other_verb p a (coded.Branch target) n before after branch test change substitute delete drop get append read read_more quit exchange adds = absurd (branch target refl)
other_verb p a (coded.Test target) n before after branch test change substitute delete drop get append read read_more quit exchange adds = absurd (test target refl)
other_verb p a (coded.Change text) n before after branch test change substitute delete drop get append read read_more quit exchange adds = absurd (change text refl)
other_verb p a (coded.Substitute s) n before after branch test change substitute delete drop get append read read_more quit exchange adds = absurd (substitute s refl)
other_verb p a _ n before after branch test change substitute delete drop get append read read_more quit exchange adds = search
