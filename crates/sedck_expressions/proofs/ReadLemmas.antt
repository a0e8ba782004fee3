-- Tools on readings, what a bracket list and an interval reader must give, and which trees fit the groups so far.
use Rattle.sedck_expressions.proofs.Common.{◌≡◌, ◌≢◌, ℕ, ◌+◌, ◌<◌, ◌≤◌, Bool, true, false, cond, List, [], ◌∷◌, ◌++◌, length, drop, Option, Some, None, Result, Ok, Err, IfOk, IfSome, refl, arith, length-append, ◌&&◌, ◌||◌, nat_le, nat_tests, begins, CountsFrom, Tree, Trees, Seq, Then, groups_in, groups_in_all, is_empty, SpellsCount, IsRepeatable, IsBracketList, ◌>>=◌, Readers, begins_pair, is_repeatable, ok_or, depth, RefersBack}
use Rattle.sedck_expressions.proofs.NumberedGroups.{CountsFrom-left, CountsFrom-right, CountsFrom-join}

pub bind_holds : {A B E : Type 0} (r : Result A E) (f : A → Result B E) (P : B → Type 0) (Q : A → Type 0) → IfOk r Q → ((x : A) → Q x → IfOk (f x) P)
    → IfOk (r >>= f) P
bind_holds (Err e) f P Q h g = tt
bind_holds (Ok x) f P Q h g = g x h

pub ok_then : {A E : Type 0} (r : Result A E) {P Q : A → Type 0} → IfOk r P → ((x : A) → P x → Q x) → IfOk r Q
ok_then (Err e) h g = tt
ok_then (Ok x) h g = g x h

-- where a test chooses between two readings
pub cond_holds : {A E : Type 0} (b : Bool) (x y : Result A E) (P : A → Type 0) → (b ≡ true → IfOk x P) → (b ≡ false → IfOk y P) → IfOk (cond b x y) P
cond_holds true x y P f g = f refl
cond_holds false x y P f g = g refl

pub some_if : {A : Type 0} (b : Bool) (x y : Option A) (P : A → Type 0) → (b ≡ true → IfSome x P) → (b ≡ false → IfSome y P) → IfSome (cond b x y) P
some_if true x y P f g = f refl
some_if false x y P f g = g refl

pub ok_or_holds : {A E : Type 0} (o : Option A) (e : E) (P : A → Type 0) → IfSome o P → IfOk (ok_or o e) P
ok_or_holds None e P h = tt
ok_or_holds (Some x) e P h = h

pub and_left : (a b : Bool) → (a && b) ≡ true → (a ≡ true) × (b ≡ true)
and_left a b h = grind arith

pub pair_text : (c : ℕ) (text : List ℕ) → begins_pair c text ≡ true → text ≡ 92 ∷ c ∷ drop 2 text
pair_text c text h = grind (arith, nat_tests)

-- a bracket list is at the start of the text, before the rest
abbrev pub IsListBefore : List ℕ → List ℕ × List ℕ → Type 0
IsListBefore text x = (u : List ℕ) × (text ≡ u ++ x.1) × IsBracketList u x.0 × (x.0 ≢ [])

-- and an interval is
abbrev pub IsIntervalBefore : List ℕ → ℕ × Option ℕ × List ℕ → Type 0
IsIntervalBefore text x = (u : List ℕ) × (text ≡ u ++ x.2) × SpellsCount u x.0 x.1

-- what is read as a bracket list is one, and an interval is one; and the limits are kept
pub record Takes (readers : Readers) : Type 0 where
  pub bracket : (text : List ℕ) → IfOk (readers.bracket text) (IsListBefore text)
  pub interval : (text : List ℕ) → IfSome (readers.interval text) (IsIntervalBefore text)
  pub limited : readers.unlimited ≡ false

-- a bracket list is read, whatever follows it, and so is an interval
pub record Reads (readers : Readers) : Type 0 where
  pub bracket : (u words rest : List ℕ) → IsBracketList u words → words ≢ [] → readers.bracket (u ++ rest) ≡ Ok (words, rest)
  pub interval : (u : List ℕ) (least : ℕ) (most : Option ℕ) (rest : List ℕ) → begins_pair 123 u ≡ true → SpellsCount u least most
      → readers.interval (u ++ rest) ≡ Some (least, most, rest)

pub star_text : (text : List ℕ) → begins "*" text ≡ true → text ≡ 42 ∷ drop 1 text
star_text text h = grind (arith, nat_tests)

pub not_empty_more : (u w : List ℕ) → is_empty u ≡ false → is_empty (u ++ w) ≡ false
not_empty_more u w h = grind arith

pub repeatable_of : (t : Tree) → is_repeatable t ≡ true → IsRepeatable t
repeatable_of t h = grind arith

pub length_some : (u : List ℕ) → is_empty u ≡ false → 0 < length u
length_some u h = grind arith

-- the tree fits the groups and the depth so far
pub record Fit (deep opened : ℕ) (closed : List ℕ) (t : Tree) : Type 0 where
  pub counted : CountsFrom (opened + 1) (groups_in t)
  pub back : RefersBack closed t
  pub few : opened + length (groups_in t) ≤ 99
  pub shallow : deep + depth t ≤ 32

-- its groups are numbered, and it fits where the limits are kept
abbrev pub Fits : Bool → ℕ → ℕ → List ℕ → Tree → Type 0
Fits unlimited deep opened closed t = CountsFrom (opened + 1) (groups_in t) × (unlimited ≡ false → Fit deep opened closed t)

module _ (deep opened : ℕ) (closed : List ℕ) (t : Tree) (ts : Trees) where
  pub fits_first : {unlimited : Bool} → Fits unlimited deep opened closed (Seq (Then t ts)) → Fits unlimited deep opened closed t
  fits_first f =
      let counted = CountsFrom-left (opened + 1) (groups_in t) (groups_in_all ts) f.0 in
      let size = length-append (groups_in t) (groups_in_all ts) in
      (counted, λ limited. let g = f.1 limited in grind (arith, g, counted, size))

  pub fits_others : {unlimited : Bool} → Fits unlimited deep opened closed (Seq (Then t ts))
      → Fits unlimited deep (opened + length (groups_in t)) (closed ++ groups_in t) (Seq ts)
  fits_others f =
      let right = CountsFrom-right (opened + 1) (groups_in t) (groups_in_all ts) f.0 in
      let counted : CountsFrom ((opened + length (groups_in t)) + 1) (groups_in_all ts) = grind (arith, right) in
      let size = length-append (groups_in t) (groups_in_all ts) in
      (counted, λ limited. let g = f.1 limited in grind (arith, g, counted, size))

  pub fit_all : Fit deep opened closed t → Fit deep (opened + length (groups_in t)) (closed ++ groups_in t) (Seq ts) → Fit deep opened closed (Seq (Then t ts))
  fit_all f g =
      let more : CountsFrom ((opened + 1) + length (groups_in t)) (groups_in_all ts) = grind (arith, g) in
      let counted = CountsFrom-join (opened + 1) (groups_in t) (groups_in_all ts) f.counted more in
      let size = length-append (groups_in t) (groups_in_all ts) in
      grind (arith, f, g, counted, size)

-- ---- Tests

-- what is asked only where the limits are kept
pub allowed : (unlimited test : Bool) → (unlimited ≡ false → test ≡ true) → (unlimited || test) ≡ true
allowed true test h = refl
allowed false test h = h refl

pub nat_le_of : (a b : ℕ) → nat_le a b ≡ true → a ≤ b
nat_le_of a b h = grind (arith, nat_tests)
