-- What holds of a result where more is known of it.
use Rattle.sedck_commands.proofs.Common.{◌≡◌, ℕ, List, Option, Some, None, subst, sym, Bor, IfSome, Result, Ok, Err, IfOk, IfErr, IfNone, IsErrAnd}

pub if_ok_more : {A E : Type 0} {P Q : A → Type 0} (r : Result A E) → ((x : A) → P x → Q x) → IfOk r P → IfOk r Q
if_ok_more (Ok x) f h = f x h
if_ok_more (Err e) f h = tt

pub if_err_more : {A E : Type 0} {P Q : E → Type 0} (r : Result A E) → ((e : E) → P e → Q e) → IfErr r P → IfErr r Q
if_err_more (Ok x) f h = tt
if_err_more (Err e) f h = f e h

pub if_some_at : {A : Type 0} (P : A → Type 0) {o : Option A} {x : A} → o ≡ Some x → IfSome o P → P x
if_some_at P e h = subst (λ o. IfSome o P) e h

pub if_err_from : {A E : Type 0} (P : E → Type 0) (r : Result A E) (e : E) → IsErrAnd r (λ y. y ≡ e) → P e → IfErr r P
if_err_from P (Ok x) e h p = tt
if_err_from P (Err y) e h p = subst P (sym h) p

pub if_none_always : {A P : Type 0} (o : Option A) → P → IfNone o P
if_none_always (Some x) h = tt
if_none_always None h = h

-- what holds of an error in the text of a callee, which is the caller's
pub if_err_same : {A E : Type 0} (P : List ℕ → E → Type 0) (r : Result A E) (e : E) {whole other : Bor (List ℕ)} → IsErrAnd r (λ y. y ≡ e) → other ≡ whole
    → P other.now e → IfErr r (P whole.now)
if_err_same P r e {whole} {other} h same p = if_err_from (P whole.now) r e h (subst (λ w. P w.now e) same p)

-- the same, where more is known of the caller's
pub if_err_along : {A E : Type 0} (P : List ℕ → E → Type 0) (Q : E → Type 0) (r : Result A E) (e : E) {whole other : Bor (List ℕ)} → IsErrAnd r (λ y. y ≡ e)
    → other ≡ whole → (P whole.now e → Q e) → P other.now e → IfErr r Q
if_err_along P Q r e {whole} {other} h same f p = if_err_from Q r e h (f (subst (λ w. P w.now e) same p))
