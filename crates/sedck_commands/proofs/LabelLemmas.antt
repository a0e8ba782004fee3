-- Labels of branches, and what may be after a label.
use Rattle.sedck_commands.proofs.Common.{◌≡◌, ℕ, Bool, true, false, not, ◌||◌, ◌≢◌, ◌<◌, List, ◌∷◌, ◌++◌, length, Option, Some, None, ap, sym, ◌∙◌, subst, arith, nil_from_length, ◌==◌, is_blank, is_separator, is_ending, is_label_byte, IsEmptyOr, Longest, Ends, LabelText, IsNoBrace, begins_braced_comment, BranchText, longest_one, IsNoComment, EndsJump}
use Rattle.sedck_commands.proofs.UniqueParts.{ends_first}
use Rattle.sedck_commands.specs.Private.Reading.{IsLabelAt}
use Rattle.sedck_commands.proofs.UniqueVerbs.{label_or_end}

pub label_same : {text f g r s : List ℕ} → IsLabelAt text f r → LabelText text g s → (f ≡ g) × (r ≡ s)
label_same {text} {f} {g} {r} {s} l m = longest_one l.run (subst (λ t. Longest is_label_byte t g s) (longest_one m.skipped l.skipped).1 m.run)

pub label_there : {text name behind : List ℕ} → IsLabelAt text name behind → 0 < length name → LabelText text name behind
label_there l some = record { blanks = l.blanks; begins = l.begins; skipped = l.skipped; run = l.run; some = some }

pub no_label_there : {text name behind g s : List ℕ} → IsLabelAt text name behind → length name ≡ 0 → LabelText text g s → ⊥
no_label_there l none m = let same = (label_same l m).0 in omega (arith, ap length same, m.some)

-- a branch with no label reads none
pub no_branch_end : {text name behind : List ℕ} → IsLabelAt text name behind → length name ≡ 0
    → (IsNoComment behind → IsEmptyOr is_ending behind → begins_braced_comment behind ≡ false → ⊥) → (label : Option (List ℕ)) (braced : Bool) (rest : List ℕ)
    → BranchText text label braced rest → ⊥
no_branch_end {name = name} {behind = behind} l none h None braced rest x =
    let same : rest ≡ behind = (longest_one x.1.0.run l.skipped).1 ∙ l.run.cut ∙ ap (λ t. t ++ behind) (nil_from_length name none) in
    h (subst IsNoComment same x.0) (subst (λ t. IsEmptyOr is_ending t) same x.1.0.ending) (subst (λ t. begins_braced_comment t ≡ false) same x.1.1)
no_branch_end l none h (Some name) braced rest x = no_label_there l none x.1

-- and one with a label reads that one
pub no_branch_label : {text name behind : List ℕ} → IsLabelAt text name behind → 0 < length name
    → ((rest : List ℕ) → IsNoComment behind → EndsJump behind rest → ⊥) → (label : Option (List ℕ)) (braced : Bool) (rest : List ℕ)
    → BranchText text label braced rest → ⊥
no_branch_label l some h None braced rest x = label_or_end (label_there l some) x.1.0
no_branch_label l some h (Some name) braced rest x =
    let same = sym (label_same l x.1).1 in
    h rest (subst IsNoComment same x.2) (subst (λ t. EndsJump t rest) same x.3)

pub no_definition : {text name behind n b r : List ℕ} → IsLabelAt text name behind → ((rest : List ℕ) → IsNoBrace behind → Ends behind rest → ⊥)
    → LabelText text n b → IsNoBrace b → Ends b r → ⊥
no_definition {r = r} l h m x e = let same = sym (label_same l m).1 in h r (subst IsNoBrace same x) (subst (λ t. Ends t r) same e)

-- ---- Bytes after a label

brace_no_end : (b : ℕ) → is_separator b ≡ false → not ((b == 35) || (b == 125)) ≡ true → (is_blank b || is_ending b) ≡ true → ⊥
brace_no_end b h n g = grind (arith, h, n, g)

comment_no_end : (b : ℕ) → is_separator b ≡ false → b ≢ 125 → not (b == 35) ≡ true → (is_blank b || is_ending b) ≡ true → ⊥
comment_no_end b h m n g = grind (arith, h, m, n, g)

pub no_end_behind_definition : {text more rest : List ℕ} {b : ℕ} → text ≡ b ∷ more → is_separator b ≡ false → IsNoBrace text → Ends text rest → ⊥
no_end_behind_definition {rest = rest} {b = b} e h n x = brace_no_end b h (subst IsNoBrace e n) (ends_first (subst (λ t. Ends t rest) e x))

pub no_end_behind_label : {text more rest : List ℕ} {b : ℕ} → text ≡ b ∷ more → is_separator b ≡ false → b ≢ 125 → IsNoComment text → Ends text rest → ⊥
no_end_behind_label {rest = rest} {b = b} e h m n x = comment_no_end b h m (subst IsNoComment e n) (ends_first (subst (λ t. Ends t rest) e x))
