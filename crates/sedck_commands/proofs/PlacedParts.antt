-- What is at the offset of a fault of a part between delimiters.
use Rattle.sedck_commands.proofs.Common.{◌≡◌, ℕ, ◌-◌, ◌<◌, true, List, ◌∷◌, ◌++◌, length, refl, ap, sym, ◌∙◌, subst, append_assoc, length-append, inl, inr, arith, and_from, IsTrue, is_delimiter, ScriptFault, StandsAt, IsPlaced, EndsIn, BeginsAt, PieceFault, CutFault, ExpressionTextFault, PatternFault, ListFault, FirstListFault, ReplacementFault}
use Rattle.sedck_commands.specs.FirstFaults as o
use Rattle.sedck_commands.specs.declared.fault.ScriptFault.TheVariants as fault
use Rattle.sedck_commands.proofs.OffsetLemmas.{tail_cut, tail_tail, tail_behind}
use Rattle.sedck_commands.proofs.BracketLemmas.{closed_tail}
use Rattle.sedck_commands.proofs.TextEnds.{whole_from, byte_at}

-- what is known of the fault of a part: one without an end is reported at what opens the part
abbrev pub IsPartPlaced : ℕ → List ℕ → ScriptFault → Type 0
IsPartPlaced opening whole (fault.Unterminated place) = place ≡ opening
IsPartPlaced opening whole other = IsPlaced whole other

-- so the fault is placed where a missing end is
pub part_placed : (opening : ℕ) (whole : List ℕ) (f : ScriptFault) → IsPartPlaced opening whole f
    → (f ≡ fault.Unterminated opening → IsPlaced whole (fault.Unterminated opening)) → IsPlaced whole f
part_placed opening whole (fault.Unterminated place) h k = subst (λ p. IsPlaced whole (fault.Unterminated p)) (sym h) (k (ap fault.Unterminated h))
part_placed opening whole _ h k = h

-- ---- Offsets

-- where a text begins that ends the whole
pub begins_at : {whole text : List ℕ} (h : EndsIn whole text) → BeginsAt (length whole) text (length h.0)
begins_at {text = text} h = sym (ap length h.1 ∙ length-append h.0 text)

-- the byte before the text
before : {whole text : List ℕ} {b : ℕ} (offset : ℕ) → EndsIn whole (b ∷ text) → BeginsAt (length whole) text offset → (0 < offset) × StandsAt whole (offset - 1) b
before offset h a = let at = begins_at h in (omega (arith, at, a), byte_at _ h refl (omega (arith, at, a)))

-- ---- Parts

module _ {whole : List ℕ} {opening delimiter : ℕ} (d : IsTrue (is_delimiter delimiter)) where
  pub piece_placed : {text : List ℕ} {f : ScriptFault} → EndsIn whole text → PieceFault (length whole) opening delimiter text f → IsPartPlaced opening whole f
  piece_placed h (o.over e) = refl
  piece_placed h (o.line e) = refl
  piece_placed h (o.last e) = refl
  piece_placed h (o.forbidden e n a) =
      let next = byte_at _ (tail_behind h e) refl (omega (arith, a, ap length e)) in
      inl (byte_at _ h e a, (delimiter, next, rw n (and_from (is_delimiter delimiter) true d refl)))

  pub cut_placed : {text : List ℕ} {f : ScriptFault} → EndsIn whole text → CutFault (length whole) opening delimiter text f → IsPartPlaced opening whole f
  cut_placed h (o.piece x) = piece_placed h x
  cut_placed h (o.line e) = refl
  cut_placed h (o.byte e i j k x) = cut_placed (tail_behind h e) x
  cut_placed h (o.escaped e i x) = cut_placed (tail_behind (tail_behind h e) refl) x
  cut_placed h (o.pair e i j x) = cut_placed (tail_behind (tail_behind h e) refl) x

  pub expression_text_placed : {text : List ℕ} {f : ScriptFault} → EndsIn whole (delimiter ∷ text)
      → ExpressionTextFault (length whole) opening delimiter text f → IsPartPlaced opening whole f
  expression_text_placed h (o.cut x) = cut_placed (tail_behind h refl) x
  expression_text_placed {text} h (o.misread {expression = expression} {rest = rest} front behind more x i e g a) =
      let tail = tail_behind h refl in
      let at = begins_at tail in
      let here = whole_from _ tail at in
      let opened = before _ h at in
      inr (record {
        start = length tail.0;
        behind = opened.0;
        delimiter = delimiter;
        opened = opened.1;
        expression = expression;
        rest = rest;
        cut = rw here x;
        misread = i;
        front = front;
        after = behind;
        more = more;
        written = here ∙ e;
        replaced = g;
        here = whole_from _ (tail_tail tail (front, e)) a;
      })

  pub pattern_placed : {text : List ℕ} {f : ScriptFault} → EndsIn whole (delimiter ∷ text) → PatternFault (length whole) opening delimiter text f
      → IsPartPlaced opening whole f
  pattern_placed h (o.unread x) = expression_text_placed h x
  pattern_placed h (o.refused {expression = expression} {rest = rest} x some c a) =
      let opened = before _ h a in
      record {
        delimiter = delimiter;
        allowed = d;
        behind = opened.0;
        opened = opened.1;
        expression = expression;
        rest = rest;
        written = rw (whole_from _ (tail_behind h refl) a) x;
        refused = c;
      }

  pub list_placed : {text : List ℕ} {f : ScriptFault} → EndsIn whole text → ListFault (length whole) opening delimiter text f → IsPartPlaced opening whole f
  list_placed h (o.piece x) = piece_placed h x
  list_placed h (o.line e) = refl
  list_placed h (o.meaningless e i j k l a) = inl (92, byte_at _ h e a, refl)
  list_placed h (o.byte e i j k x) = list_placed (tail_behind h e) x
  list_placed h (o.escaped e i x) = list_placed (tail_behind (tail_behind h e) refl) x
  list_placed h (o.meant e i j x) = list_placed (tail_behind (tail_behind h e) refl) x

  pub first_list_placed : {text : List ℕ} {f : ScriptFault} → EndsIn whole (121 ∷ delimiter ∷ text)
      → FirstListFault (length whole) opening delimiter text f → IsPartPlaced opening whole f
  first_list_placed h (o.list x) = list_placed (tail_behind (tail_behind h refl) refl) x
  first_list_placed {text} h (o.bracket {bytes = bytes} {rest = rest} {written = written} {more = more} x cut closed none a) =
      let second = tail_behind h refl in
      let tail = tail_behind second refl in
      let at = begins_at tail in
      let here = whole_from _ tail at in
      let verb = before _ h (begins_at second) in
      let opened = before _ second at in
      let front = closed_tail closed in
      let begun = front.0 in
      let ends : text ≡ begun ++ 91 ∷ (more ++ delimiter ∷ rest) =
      cut ∙ ap (λ t. t ++ delimiter ∷ rest) front.1 ∙ append_assoc begun (91 ∷ more) (delimiter ∷ rest) in
      inr (record {
        start = length tail.0;
        delimiter = delimiter;
        behind = omega (arith, at, begins_at h);
        verb = byte_at _ h refl (omega (arith, at, begins_at h));
        opened = opened.1;
        bytes = bytes;
        rest = rest;
        list = rw here x;
        written = written;
        cut = here ∙ cut;
        more = more;
        closed = closed;
        unclosed = none;
        here = whole_from _ (tail_tail tail (begun, ends)) a;
      })

  pub replacement_placed : {greatest : ℕ} {text : List ℕ} {f : ScriptFault} → EndsIn whole text
      → ReplacementFault (length whole) opening delimiter greatest text f → IsPartPlaced opening whole f
  replacement_placed h (o.piece x) = piece_placed h x
  replacement_placed h (o.meaningless e i none a) = byte_at _ h e a
  replacement_placed h (o.whole e i x) = replacement_placed (tail_behind h e) x
  replacement_placed h (o.escaped e i x) = replacement_placed (tail_behind (tail_behind h e) refl) x
  replacement_placed h (o.part e i p w x) = replacement_placed (tail_behind (tail_behind h e) refl) x
  replacement_placed h (o.run l x) = replacement_placed (tail_tail h (tail_cut l)) x
