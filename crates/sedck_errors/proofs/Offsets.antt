-- The offset in a script's text of a byte of an expression, found one byte after another.
use Rattle.std.proofs.Common.{◌≡◌, ◌≢◌, ◌<◌, ◌≤◌, ◌+◌, ◌-◌, ◌⊎◌, ℕ, zero, suc, Bool, true, false, List, [], ◌∷◌, length, length-drop, drop, refl, sym, ap, ◌∙◌, subst, inl, inr, arith}
use Rattle.std.specs.Prelude.{Some, unwrap_or}
use Rattle.std.proofs.lemmas.Bool.{true≢false}
use Rattle.std.proofs.lemmas.Grind.{common_steps}
use Rattle.sedck_expressions.specs.Faults.{IsOfText}
use Rattle.sedck_expressions.specs.Faults as expressions
use Rattle.sedck_expressions.specs.FaultWords as words
use Rattle.sedck_expressions.specs.declared.fault.ReFault.{ReFault}
use Rattle.sedck_expressions.specs.declared.fault.ReFault.TheVariants as cause
use Rattle.sedck_commands.specs.Cuts.{backslash}
use Rattle.sedck_commands.specs.Faults.{StandsAt, IsPlaced, IsNoExpression, IsMisjudged, IsRefusedExpression}
use Rattle.sedck_commands.specs.declared.fault.ScriptFault.{ScriptFault}
use Rattle.sedck_commands.specs.declared.fault.ScriptFault.TheVariants.{BadExpression}
use Rattle.sedck_commands.specs.Parts.{DelimitedExpression}
use Rattle.sedck_commands.specs.Parts.DelimitedExpression.{ends, byte, escaped, pair}
use Rattle.sedck_errors.specs.Errors.{bytes_before, IsFaultOffset}
use Rattle.sedck_errors.specs.Private.Errors.{is_escaped, is_pair}

-- what is left of the text begins at the byte itself, or with a part of the expression in which so many bytes are before it
abbrev pub IsBefore : ℕ → List ℕ → List ℕ → List ℕ → ℕ → ℕ → Type 0
IsBefore delimiter text rest after left offset =
    ((left ≡ 0) × (offset + length rest ≡ length text))
    ⊎ ((expression : List ℕ) × (cut : DelimitedExpression delimiter rest expression after) × (left < length expression)
    × (offset + length rest ≡ length text + bytes_before cut left))

-- a first byte that is no backslash
plain_is_free : (delimiter b : ℕ) (text : List ℕ) → b ≢ backslash → is_escaped delimiter (b ∷ text) ≡ false
plain_is_free delimiter b [] plain = refl
plain_is_free delimiter b (next ∷ text) plain = grind (arith, common_steps)

plain_is_single : (b : ℕ) (text : List ℕ) → b ≢ backslash → is_pair (b ∷ text) ≡ false
plain_is_single b [] plain = refl
plain_is_single b (next ∷ text) plain = grind (arith, common_steps)

-- an escaped delimiter, and another pair
escape_is_escaped : (delimiter a b : ℕ) (text : List ℕ) → a ≡ backslash → b ≡ delimiter → is_escaped delimiter (a ∷ b ∷ text) ≡ true
escape_is_escaped delimiter a b text mark is = grind (arith, common_steps)

pair_is_free : (delimiter a b : ℕ) (text : List ℕ) → b ≢ delimiter → is_escaped delimiter (a ∷ b ∷ text) ≡ false
pair_is_free delimiter a b text other = grind (arith, common_steps)

pair_is_pair : (a b : ℕ) (text : List ℕ) → a ≡ backslash → is_pair (a ∷ b ∷ text) ≡ true
pair_is_pair a b text mark = grind (arith, common_steps)

-- one boolean has one value
both : {A : Type 0} {b : Bool} → b ≡ true → b ≡ false → A
both holds fails = absurd (true≢false (sym holds ∙ fails))

module _ {delimiter : ℕ} {after : List ℕ} where
  -- a part of the expression is left, in which so many bytes are before the one that is looked for
  pub record Leaves {text expression : List ℕ} (cut : DelimitedExpression delimiter text expression after) (index : ℕ) (rest : List ℕ) (left taken : ℕ) : Type 0 where
    pub part : List ℕ
    pub more : DelimitedExpression delimiter rest part after
    pub inside : left < length part
    pub counts : bytes_before cut index ≡ taken + bytes_before more left
    pub long : length text ≡ taken + length rest

  step_escaped : {text expression : List ℕ} (cut : DelimitedExpression delimiter text expression after) (left : ℕ) → is_escaped delimiter text ≡ true
      → suc left < length expression → Leaves cut (suc left) (drop 2 text) left 2
  step_escaped (ends is) left holds less = absurd (omega (arith, less))
  step_escaped (byte {b = b} {text = text} other plain inside more) left holds less = both holds (plain_is_free delimiter b text plain)
  step_escaped (escaped mark is allowed more) left holds less = record { part = _; more = more; inside = omega (arith, less); counts = refl; long = omega arith }
  step_escaped (pair {a = a} {b = b} {text = text} mark other inside more) left holds less = both holds (pair_is_free delimiter a b text other)

  step_pair : {text expression : List ℕ} (cut : DelimitedExpression delimiter text expression after) (left : ℕ) → is_escaped delimiter text ≡ false
      → is_pair text ≡ true → suc (suc left) < length expression → Leaves cut (suc (suc left)) (drop 2 text) left 2
  step_pair (ends is) left fails single less = absurd (omega (arith, less))
  step_pair (byte {b = b} {text = text} other plain inside more) left fails single less = both single (plain_is_single b text plain)
  step_pair (escaped {a = a} {b = b} {text = text} mark is allowed more) left fails single less = both (escape_is_escaped delimiter a b text mark is) fails
  step_pair (pair mark other inside more) left fails single less = record { part = _; more = more; inside = omega (arith, less); counts = refl; long = omega arith }

  step_byte : {text expression : List ℕ} (cut : DelimitedExpression delimiter text expression after) (left : ℕ) → is_escaped delimiter text ≡ false
      → (is_pair text ≡ false) ⊎ (left ≡ 0) → suc left < length expression
      → ((left ≡ 0) × (bytes_before cut (suc left) ≡ 1) × (length text ≡ 1 + length (drop 1 text))) ⊎ Leaves cut (suc left) (drop 1 text) left 1
  step_byte (ends is) left fails single less = absurd (omega (arith, less))
  step_byte (byte other plain inside more) left fails single less =
      inr (record { part = _; more = more; inside = omega (arith, less); counts = refl; long = omega arith })
  step_byte (escaped {a = a} {b = b} {text = text} mark is allowed more) left fails single less = both (escape_is_escaped delimiter a b text mark is) fails
  step_byte (pair mark other inside more) zero fails single less = inl (refl, refl, omega arith)
  step_byte (pair {a = a} {b = b} {text = text} mark other inside more) (suc left) fails (inl single) less = both (pair_is_pair a b text mark) single
  step_byte (pair mark other inside more) (suc left) fails (inr none) less = absurd (omega (arith, none))

module _ (delimiter : ℕ) (text after rest : List ℕ) (offset : ℕ) where
  leaves : (expression : List ℕ) (cut : DelimitedExpression delimiter rest expression after) (index : ℕ) (less : List ℕ) (left taken : ℕ)
      → Leaves cut index less left taken → offset + length rest ≡ length text + bytes_before cut index → IsBefore delimiter text less after left offset
  leaves expression cut index less left taken h at = inr (h.part, h.more, h.inside, omega (arith, at, h.counts, h.long))

  pub escaped_skipped : (left : ℕ) → IsBefore delimiter text rest after (suc left) offset → is_escaped delimiter rest ≡ true
      → IsBefore delimiter text (drop 2 rest) after left offset
  escaped_skipped left (inl (none, at)) holds = absurd (omega (arith, none))
  escaped_skipped left (inr (expression, cut, less, at)) holds =
      leaves expression cut (suc left) (drop 2 rest) left 2 (step_escaped cut left holds less) at

  pub pair_skipped : (left : ℕ) → IsBefore delimiter text rest after (suc (suc left)) offset → is_escaped delimiter rest ≡ false → is_pair rest ≡ true
      → IsBefore delimiter text (drop 2 rest) after left offset
  pair_skipped left (inl (none, at)) fails single = absurd (omega (arith, none))
  pair_skipped left (inr (expression, cut, less, at)) fails single =
      leaves expression cut (suc (suc left)) (drop 2 rest) left 2 (step_pair cut left fails single less) at

  pub byte_skipped : (left : ℕ) → IsBefore delimiter text rest after (suc left) offset → is_escaped delimiter rest ≡ false
      → (is_pair rest ≡ false) ⊎ (left ≡ 0) → IsBefore delimiter text (drop 1 rest) after left offset
  byte_skipped left (inl (none, at)) fails single = absurd (omega (arith, none))
  byte_skipped left (inr (expression, cut, less, at)) fails single =
      elim (step_byte cut left fails single less) [
        | inl (none, counts, long) ↦ inl (none, omega (arith, at, counts, long))
        | inr h ↦ leaves expression cut (suc left) (drop 1 rest) left 1 h at
      ]

  -- the same for what a program has: it knows what is left by an equation, and the delimiter too
  module _ (known left next : ℕ) (less : List ℕ) (same : known ≡ delimiter) (before : IsBefore delimiter text rest after left offset) where
    with_left : (count : ℕ) → left ≡ count → IsBefore delimiter text rest after count offset
    with_left count is = subst (λ n. IsBefore delimiter text rest after n offset) is before

    with_less : (shorter : List ℕ) → less ≡ shorter → IsBefore delimiter text shorter after next offset → IsBefore delimiter text less after next offset
    with_less shorter is = subst (λ xs. IsBefore delimiter text xs after next offset) (sym is)

    with_known : {b : Bool} → is_escaped known rest ≡ b → is_escaped delimiter rest ≡ b
    with_known is = ap (λ d. is_escaped d rest) (sym same) ∙ is

    pub escaped_step : left ≡ suc next → less ≡ drop 2 rest → is_escaped known rest ≡ true → IsBefore delimiter text less after next offset
    escaped_step count is holds = with_less (drop 2 rest) is (escaped_skipped next (with_left (suc next) count) (with_known holds))

    pub pair_step : left ≡ suc (suc next) → less ≡ drop 2 rest → is_escaped known rest ≡ false → is_pair rest ≡ true
        → IsBefore delimiter text less after next offset
    pair_step count is fails single = with_less (drop 2 rest) is (pair_skipped next (with_left (suc (suc next)) count) (with_known fails) single)

    pub byte_step : left ≡ suc next → less ≡ drop 1 rest → is_escaped known rest ≡ false → (is_pair rest ≡ false) ⊎ (next ≡ 0)
        → IsBefore delimiter text less after next offset
    byte_step count is fails single = with_less (drop 1 rest) is (byte_skipped next (with_left (suc next) count) (with_known fails) single)

  -- nothing is left to be skipped
  pub at_byte : (left : ℕ) → IsBefore delimiter text rest after left offset → left ≡ 0 → offset + length rest ≡ length text
  at_byte left (inl (none, at)) is = at
  at_byte zero (inr (expression, cut, less, at)) is = omega (arith, at)
  at_byte (suc left) (inr (expression, cut, less, at)) is = absurd (omega (arith, is))

-- the walk begins where the expression does
pub begins_before : (delimiter : ℕ) (text rest expression after : List ℕ) (start index : ℕ) (cut : DelimitedExpression delimiter (drop start text) expression after)
    → rest ≡ drop start text → start ≤ length text → index < length expression → IsBefore delimiter text rest after index (start + bytes_before cut index)
begins_before delimiter text rest expression after start index cut is inside less =
    rw is (inr (expression, cut, less, omega (arith, inside, length-drop start text)))

-- what is left gets no longer
pub shorter : (count : ℕ) (text rest less : List ℕ) → less ≡ drop count rest → length rest ≤ length text → length less ≤ length text
shorter count text rest less is within = omega (arith, within, ap length is, length-drop count rest)

-- the byte of an expression for which it is refused is one of its bytes
cause_inside : (expression : List ℕ) (why : ReFault) → IsOfText why → expressions.IsPlaced expression why
    → (index : ℕ) × (words.fault_place why ≡ Some index) × (index < length expression)
cause_inside expression (cause.TrailingBackslash place) of_text placed = (place, refl, placed.0)
cause_inside expression (cause.BadEscape place) of_text placed = (place, refl, placed.0)
cause_inside expression (cause.UnclosedBracket place) of_text placed = (place, refl, placed.0)
cause_inside expression (cause.BadBracket place) of_text placed = (place, refl, placed)
cause_inside expression (cause.EmptySet place) of_text placed = (place, refl, placed.0)
cause_inside expression (cause.UnclosedGroup place) of_text placed = (place, refl, placed.0)
cause_inside expression (cause.UnopenedGroup place) of_text placed = (place, refl, placed.0)
cause_inside expression (cause.BadInterval place) of_text placed = (place, refl, placed.0)
cause_inside expression (cause.NothingToRepeat place) of_text placed = (place, refl, placed.0)
cause_inside expression (cause.DoubleRepeat place) of_text placed = (place, refl, placed.0)
cause_inside expression (cause.BadReference place) of_text placed = (place, refl, placed.0)
cause_inside expression (cause.TooDeep place) of_text placed = (place, refl, placed.0)
cause_inside expression (cause.TooManyGroups place) of_text placed = (place, refl, placed.0)
cause_inside expression cause.OutOfMemory of_text placed = absurd of_text

-- an expression that matchers get wrong is refused at one of its bytes, too
refused_inside : (expression : List ℕ) (why : ReFault) → IsNoExpression expression why ⊎ IsMisjudged expression why
    → (index : ℕ) × (words.fault_place why ≡ Some index) × (index < length expression)
refused_inside expression why (inl none) = cause_inside expression why none.of_text none.placed
refused_inside expression (cause.BadReference place) (inr judged) = (place, refl, judged.placed.0.0)
refused_inside expression (cause.NothingToRepeat place) (inr judged) = (place, refl, judged.placed.0.0)
refused_inside expression why (inr judged) = absurd judged.placed

-- so the walk finds the offset of the fault
pub fault_offset : (text : List ℕ) (why : ScriptFault) (place : ℕ) (cause : ReFault) (index offset : ℕ) → why ≡ BadExpression place cause → IsPlaced text why
    → index ≡ unwrap_or (words.fault_place cause) 0
    → ((delimiter : ℕ) (expression after : List ℕ) → StandsAt text (place - 1) delimiter
    → (cut : DelimitedExpression delimiter (drop place text) expression after) → index < length expression → offset ≡ place + bytes_before cut index)
    → IsFaultOffset text why offset
fault_offset text why place cause index offset is placed by_place found =
    let refused : IsRefusedExpression text place cause = subst (IsPlaced text) is placed in
    let inside = refused_inside refused.expression cause refused.refused in
    let same : index ≡ inside.0 = by_place ∙ ap (λ o. unwrap_or o 0) inside.1 in
    let at = found refused.delimiter refused.expression refused.rest refused.opened refused.written.cut (omega (arith, same, inside.2)) in
    rw is (refused, (inside.0, inside.1, at ∙ ap (λ k. place + bytes_before refused.written.cut k) same))
