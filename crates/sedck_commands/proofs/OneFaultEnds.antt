-- Ends of commands, comments, texts and names have one fault at most, and can't be read where they have one.
use Rattle.sedck_commands.proofs.Common.{◌≡◌, ℕ, ◌<◌, false, not, List, [], ◌∷◌, ◌++◌, length, refl, ap, sym, ◌∙◌, inl, inr, arith, false≢true, is_newline, is_continued, IsEmptyOr, Longest, Ends, Name, HasNoInnerReturn, ScriptFault, longest_one, Contains, Contains-append_right, EndsFlags, BeginsAt, EndFault, EndFlagsFault, CommentFault, TextFault, NameFault, ExtraText}
use Rattle.sedck_commands.specs.FirstFaults as o
use Rattle.sedck_commands.specs.FirstFaults.{FirstControl}
use Rattle.sedck_commands.specs.ReadAlike.{has_control}
use Rattle.sedck_commands.proofs.CommandEnds.{no_end}
use Rattle.sedck_commands.proofs.ControlLemmas.{control_has, control_one, control_some}
use Rattle.sedck_commands.proofs.FirstBytes.{heads, tails}
use Rattle.sedck_commands.proofs.UniqueParts.{ends_one}
use Rattle.sedck_commands.proofs.UniqueItems.{longest_along}

-- the same text begins at one offset
pub at_one : {size m n : ℕ} {s t : List ℕ} → s ≡ t → BeginsAt size s m → BeginsAt size t n → m ≡ n
at_one e h g = omega (arith, h, g, ap length e)

-- ---- Ends

pub end_one : {size : ℕ} {text : List ℕ} {f g : ScriptFault} → EndFault size text f → EndFault size text g → f ≡ g
end_one (o.extra l h a) (o.extra m i b) = ap ExtraText (at_one (longest_one l m).1 a b)

pub end_not : {size : ℕ} {text rest : List ℕ} {f : ScriptFault} → EndFault size text f → Ends text rest → ⊥
end_not (o.extra l h a) e = no_end l refl h e

pub end_flags_one : {size : ℕ} {text : List ℕ} {f g : ScriptFault} → EndFlagsFault size text f → EndFlagsFault size text g → f ≡ g
end_flags_one (o.ends x) (o.ends y) = end_one x y
end_flags_one (o.ends x) (o.joined e h l some c a) = absurd (end_not x e)
end_flags_one (o.joined e h l some c a) (o.ends y) = absurd (end_not y e)
end_flags_one (o.joined e h l some c a) (o.joined f i m more d b) =
    ap ExtraText (omega (arith, at_one (longest_one (longest_along (ends_one e f) l) m).1 a b))

pub end_flags_not : {size : ℕ} {text rest : List ℕ} {f : ScriptFault} → EndFlagsFault size text f → EndsFlags text rest → ⊥
end_flags_not (o.ends x) e = end_not x e.0
end_flags_not (o.joined f h l some c a) e =
    let same = ends_one f e.0 in
    elim (e.1 (rw same at h) _ _ (longest_along same l)) [
      | inl over ↦ omega (arith, some, ap length over)
      | inr single ↦ false≢true (sym single ∙ c)
    ]

-- ---- Comments

return_first : (front behind : List ℕ) → front ≡ 13 ∷ behind → Contains front 13
return_first front behind e = rw e (0, omega arith, refl)

-- what is after the first carriage return
after_return : (f g x y : List ℕ) → f ++ 13 ∷ x ≡ g ++ 13 ∷ y → (Contains f 13 → ⊥) → (Contains g 13 → ⊥) → x ≡ y
after_return [] [] x y e n m = tails e
after_return [] (b ∷ g) x y e n m = absurd (m (return_first (b ∷ g) g (ap (λ c. c ∷ g) (sym (heads e)))))
after_return (b ∷ f) [] x y e n m = absurd (n (return_first (b ∷ f) f (ap (λ c. c ∷ f) (heads e))))
after_return (b ∷ f) (c ∷ g) x y e n m =
    after_return f g x y (tails e) (λ k. n (Contains-append_right (b ∷ []) f 13 k)) (λ k. m (Contains-append_right (c ∷ []) g 13 k))

pub comment_one : {size : ℕ} {text : List ℕ} {f g : ScriptFault} → CommentFault size text f → CommentFault size text g → f ≡ g
comment_one (o.inner_return front more l e n some a) (o.inner_return front' more' m e' n' some' b) =
    let lines = longest_one l m in
    let after = after_return front front' more more' (sym e ∙ lines.0 ∙ e') n n' in
    ap ExtraText (at_one (λ i. (13 ∷ after i) ++ lines.1 i) a b)

pub comment_not : {size : ℕ} {text line rest : List ℕ} {f : ScriptFault} → CommentFault size text f → Longest (λ b. not (is_newline b)) text line rest
    → HasNoInnerReturn line → ⊥
comment_not (o.inner_return front more l e n some a) m none = omega (arith, some, ap length (none front more ((longest_one m l).0 ∙ e)))

-- ---- Texts

pub text_one : {opening : ℕ} {text : List ℕ} {f g : ScriptFault} → TextFault opening text f → TextFault opening text g → f ≡ g
text_one (o.missing l n) (o.missing m k) = refl

-- ---- Names

here_over : (text : List ℕ) → IsEmptyOr is_newline text → Longest (λ b. not (is_newline b)) text [] text
here_over [] h = record { cut = refl; passes = refl; stops = tt }
here_over (b ∷ text) h = record { cut = refl; passes = refl; stops = rw h refl }

-- a line that is over at once is no name
no_line : {text name rest : List ℕ} → IsEmptyOr is_newline text → Longest (λ b. not (is_newline b)) text name rest → 0 < length name → ⊥
no_line {text} h l some = omega (arith, some, ap length (longest_one l (here_over text h)).0)

-- a name without a control character
no_control : {name other behind : List ℕ} → FirstControl name behind → name ≡ other → has_control other ≡ false → ⊥
no_control f same plain = false≢true (sym (ap has_control same ∙ plain) ∙ control_has f)

pub file_one : {size opening : ℕ} {text : List ℕ} {f g : ScriptFault} → NameFault size opening text f → NameFault size opening text g → f ≡ g
file_one (o.missing l h) (o.missing m i) = refl
file_one (o.missing l h) (o.control m k f a) = absurd (no_line (rw (longest_one l m).1 at h) k (control_some _ f))
file_one (o.missing l h) (o.joined m k some plain more c a) = absurd (no_line (rw (longest_one l m).1 at h) k some)
file_one (o.control l k f a) (o.missing m h) = absurd (no_line (rw (longest_one m l).1 at h) k (control_some _ f))
file_one (o.control l k f a) (o.control m j g b) =
    let lines = longest_one (longest_along (longest_one l m).1 k) j in
    let behind = control_one (rw lines.0 at f) g in
    ap ExtraText (at_one (λ i. behind i ++ lines.1 i) a b)
file_one (o.control l k f a) (o.joined m j some plain more c b) =
    absurd (no_control f (longest_one (longest_along (longest_one l m).1 k) j).0 plain)
file_one (o.joined l k some plain more c a) (o.missing m h) = absurd (no_line (rw (longest_one m l).1 at h) k some)
file_one (o.joined l k some plain more c a) (o.control m j f b) =
    absurd (no_control f (longest_one (longest_along (longest_one m l).1 j) k).0 plain)
file_one (o.joined l k some plain more c a) (o.joined m j some' plain' more' d b) =
    ap ExtraText (omega (arith, at_one (longest_one (longest_along (longest_one l m).1 k) j).1 a b))

pub file_not : {size opening : ℕ} {text name rest : List ℕ} {f : ScriptFault} → NameFault size opening text f → Name text name rest → ⊥
file_not (o.missing l h) n = no_line (rw (longest_one l n.skipped).1 at h) n.run n.some
file_not (o.control l k f a) n = no_control f (longest_one (longest_along (longest_one l n.skipped).1 k) n.run).0 n.alike.plain
file_not (o.joined l k some plain more c a) n =
    let same = longest_one (longest_along (longest_one l n.skipped).1 k) n.run in
    elim n.alike.over [
      | inl over ↦ omega (arith, more, ap length (same.1 ∙ over))
      | inr single ↦ false≢true (sym single ∙ ap is_continued (sym same.0) ∙ c)
    ]
