-- The loop over the items of a list: what has been read, before what is left to read.
use Rattle.sedck_expressions.proofs.Common.{◌≡◌, ℕ, zero, suc, ◌+◌, ◌<◌, ◌≤◌, Bool, true, false, List, [], ◌∷◌, ◌++◌, length, Some, Result, Ok, Err, refl, sym, ap, ◌∙◌, append_assoc, arith, set, nat_tests, nat_lt, ◌&&◌, ClosedIs, append-nil, Tree, Trees, Nil, Then, trees, groups_in, tree, sequence, Level, Inside, Position, First, behind, ◌>>=◌, at_end, atom, with_sign, full, free, Bre, get_or-set_same, get_or-set_other, fault_in, ReFault, Stop, closed_by, group_at, before_all, more, some_items}
use Rattle.sedck_expressions.proofs.NumberedGroups.{is_in-append}
use Rattle.sedck_expressions.specs.Reading.{items}
use Rattle.sedck_expressions.proofs.ReadLemmas.{Takes, Reads}
use Rattle.sedck_expressions.proofs.IntervalLemmas.{interval_takes, interval_again}
use Rattle.sedck_expressions.proofs.WholeBracket.{bracket_takes, bracket_again}

pub full_takes : Takes full
full_takes = record { bracket = bracket_takes; interval = interval_takes; limited = refl }

pub full_reads : Reads full
full_reads = record { bracket = bracket_again; interval = interval_again }

pub free_reads : Reads free
free_reads = record { bracket = bracket_again; interval = interval_again }

-- what stops at a step stops at the same fault with more steps after it
pub fails_then : {A B : Type 0} (size : ℕ) (fault : ReFault) (r : Result A Stop) (f : A → Result B Stop) → fault_in size r ≡ Some fault
    → fault_in size (r >>= f) ≡ Some fault
fails_then size fault (Ok x) f h = absurd (cc h)
fails_then size fault (Err stop) f h = h

-- a group within the limits stops where its items do
pub group_stops : (size : ℕ) (fault : ReFault) (inner : List ℕ → Result (Trees × List ℕ) Stop) (deep opened : ℕ) (text : List ℕ) → deep < 32 → opened < 99
    → fault_in size (inner text) ≡ Some fault → fault_in size (group_at full inner deep opened text) ≡ Some fault
group_stops size fault inner deep opened text shallow few h =
    let within : (nat_lt deep 32 && nat_lt opened 99) ≡ true = grind (arith, nat_tests) in
    rw within (fails_then size fault (inner text) (closed_by (opened + 1) (92 ∷ 40 ∷ text)) h)

fails_first : {A B C D : Type 0} (size : ℕ) (fault : ReFault) (r : Result A Stop) (f : A → Result B Stop) (g : B → Result C Stop) (h : C → Result D Stop)
    → fault_in size r ≡ Some fault → fault_in size (r >>= f >>= g >>= h) ≡ Some fault
fails_first size fault r f g h is = fails_then size fault _ h (fails_then size fault _ g (fails_then size fault r f is))

-- trees before others
abbrev pub onto : List Tree → Trees → Trees
onto [] ts = ts
onto (t ∷ front) ts = Then t (onto front ts)

abbrev pub front_before : List Tree → Trees × List ℕ → Result (Trees × List ℕ) Stop
front_before front (ts, rest) = Ok (onto front ts, rest)

abbrev pub with_front : List Tree → Result (Trees × List ℕ) Stop → Result (Trees × List ℕ) Stop
with_front front o = o >>= front_before front

onto-nil : (front : List Tree) → onto front Nil ≡ trees front
onto-nil [] = refl
onto-nil (t ∷ front) = ap (Then t) (onto-nil front)

onto-push : (front : List Tree) (t : Tree) (ts : Trees) → onto front (Then t ts) ≡ onto (front ++ t ∷ []) ts
onto-push [] t ts = refl
onto-push (u ∷ front) t ts = ap (Then u) (onto-push front t ts)

with_front-push : (front : List Tree) (t : Tree) (o : Result (Trees × List ℕ) Stop) → with_front front (o >>= before_all t) ≡ with_front (front ++ t ∷ []) o
with_front-push front t (Err stop) = refl
with_front-push front t (Ok x) = ap (λ ts. Ok (ts, x.1)) (onto-push front t x.0)

pub groups-push : (xs : List Bre) (x : Bre) → groups_in (sequence (xs ++ x ∷ [])) ≡ groups_in (sequence xs) ++ groups_in (tree x)
groups-push [] x = append-nil (groups_in (tree x))
groups-push (y ∷ xs) x = ap (λ g. groups_in (tree y) ++ g) (groups-push xs x)
    ∙ sym (append_assoc (groups_in (tree y)) (groups_in (sequence xs)) (groups_in (tree x)))

-- the whole reading is that of the rest of the text, with the trees before it
pub record LeftToRead (read : Result (Trees × List ℕ) Stop) (front : List Tree) (level : Level) (place : Position) (deep opened : ℕ) (closed text : List ℕ)
    : Type 0 where
  pub bound : ℕ
  pub enough : length text < bound
  pub is : with_front front (items full bound level place deep opened closed text) ≡ read

with_front-nil : (o : Result (Trees × List ℕ) Stop) → with_front [] o ≡ o
with_front-nil o = grind arith

pub loop_starts : (bound : ℕ) (level : Level) (place : Position) (deep opened : ℕ) (closed text : List ℕ) → length text < bound
    → LeftToRead (items full bound level place deep opened closed text) [] level place deep opened closed text
loop_starts bound level place deep opened closed text enough = record { bound = bound; enough = enough; is = with_front-nil _ }

module _ {read : Result (Trees × List ℕ) Stop} {front : List Tree} {level : Level} {place : Position} {deep opened : ℕ} {closed text : List ℕ}
    (left : LeftToRead read front level place deep opened closed text) where
  abbrev bare_read : ℕ → Result (Tree × List ℕ) Stop
  bare_read n = atom full (items full n Inside First (deep + 1) (opened + 1) closed) level place deep opened closed text

  -- a bound for what follows the first item
  abbrev Step : Type 0
  Step = (n : ℕ) × (length text ≤ n) × (with_front front (some_items full (items full n) level place deep opened closed text) ≡ read)

  step : Step
  unfolding items
  step = go left.bound left.enough left.is
    where
      go : (n : ℕ) → length text < n → with_front front (items full n level place deep opened closed text) ≡ read → Step
      go zero enough is = absurd (omega arith)
      go (suc n) enough is = (n, omega (arith, enough), is)

  pub loop_ends : at_end text ≡ true → read ≡ Ok (trees front, text)
  loop_ends e = sym (rw (e, onto-nil front) at step.2)

  pub loop_fails : (size : ℕ) (fault : ReFault) → at_end text ≡ false → ((n : ℕ) → length text ≤ n → fault_in size (bare_read n) ≡ Some fault)
      → fault_in size read ≡ Some fault
  loop_fails size fault e a = ap (fault_in size) (sym (rw e at step.2)) ∙ fails_first size fault _ _ _ _ (a step.0 step.1)

  module _ (bare : Tree) (sign : List ℕ) (going : at_end text ≡ false) (is : (n : ℕ) → length text ≤ n → bare_read n ≡ Ok (bare, sign)) where
    signed_read : with_front front (with_sign full (bare, sign) >>= more (items full step.0) level place deep opened closed) ≡ read
    signed_read = rw (going, is step.0 step.1) at step.2

    pub loop_fails_at : (size : ℕ) (fault : ReFault) → fault_in size (with_sign full (bare, sign)) ≡ Some fault → fault_in size read ≡ Some fault
    loop_fails_at size fault s = ap (fault_in size) (sym signed_read) ∙ fails_then size fault _ _ (fails_then size fault _ _ s)

    pub loop_goes : (item : Tree) (after : List ℕ) → with_sign full (bare, sign) ≡ Ok (item, after) → length after < length text
        → LeftToRead read (front ++ item ∷ []) level (behind place item) deep (opened + length (groups_in item)) (closed ++ groups_in item) after
    loop_goes item after s less =
        record { bound = step.0; enough = omega (arith, less, step.1); is = sym (with_front-push front item _) ∙ (rw s at signed_read) }

-- the same is left to read, from equal parts
pub same_left : {read : Result (Trees × List ℕ) Stop} {level : Level} {deep : ℕ} {after : List ℕ} {f g : List Tree} {p q : Position} {m n : ℕ} {c d : List ℕ}
    → f ≡ g → p ≡ q → m ≡ n → c ≡ d → LeftToRead read g level q deep n d after → LeftToRead read f level p deep m c after
same_left e1 e2 e3 e4 l = rw (e1, e2, e3, e4) l

pub closed-push : (closed : List ℕ) (xs : List Bre) (x : Bre)
    → closed ++ groups_in (sequence (xs ++ x ∷ [])) ≡ (closed ++ groups_in (sequence xs)) ++ groups_in (tree x)
closed-push closed xs x = ap (λ g. closed ++ g) (groups-push xs x) ∙ sym (append_assoc closed (groups_in (sequence xs)) (groups_in (tree x)))

-- the flags with one group more
pub closed_more : (flags : List Bool) (closed inner : List ℕ) (k : ℕ) → k < length flags → ClosedIs flags (closed ++ inner)
    → ClosedIs (set flags k true) (closed ++ k ∷ inner)
closed_more flags closed inner k l h j m =
    let same = get_or-set_same flags k true false l in
    let other = get_or-set_other flags k j true false in
    grind (arith, nat_tests, h j m, is_in-append j closed (k ∷ inner), is_in-append j closed inner, same, other)
