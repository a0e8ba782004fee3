-- What is wrong with a part between delimiters, as its readers meet it.
use Rattle.sedck_commands.proofs.Common.{◌≡◌, ◌≢◌, ℕ, ◌⊎◌, Option, Some, None, ◌-◌, List, ◌∷◌, ◌++◌, length, length-append, subst, ap, ◌∙◌, arith, nat_tests, length-drop, IsTrue, Bor, ScriptFault, DelimitedExpression, DelimitedList, is_misread, unread, unread_length, Cursor, IsFirstEscape, as_written, list_escape, IsPiece, Longest, is_plain, BracketList, BracketsClose, PieceFault, ExpressionTextFault, FirstListFault, ReplacementFault, escaped, EscapedDelimiter, BadTransliteration}
use Rattle.sedck_commands.specs.declared.delimited.Piece.TheVariants as piece
use Rattle.sedck_commands.proofs.BracketLemmas.{open_shorter}
use Rattle.sedck_commands.proofs.ReplacementLemmas.{run_of}

-- what is wrong in the text of a callee, which is the caller's
pub piece_in_same : {opening d : ℕ} {text : List ℕ} {fault : ScriptFault} {whole other : Bor (List ℕ)} → other ≡ whole
    → PieceFault (length other.now) opening d text fault → PieceFault (length whole.now) opening d text fault
piece_in_same {opening} {d} {text} {fault} same h = subst (λ w. PieceFault (length w.now) opening d text fault) same h

pub replacement_in_same : {opening d g : ℕ} {text : List ℕ} {fault : ScriptFault} {whole other : Bor (List ℕ)} → other ≡ whole
    → ReplacementFault (length other.now) opening d g text fault → ReplacementFault (length whole.now) opening d g text fault
replacement_in_same {opening} {d} {g} {text} {fault} same h = subst (λ w. ReplacementFault (length w.now) opening d g text fault) same h

-- an escaped delimiter that some sed reads otherwise is at the first one
pub misread_fault : {d : ℕ} {whole text bytes rest : List ℕ} {escape : Option ℕ} (opening : ℕ) → DelimitedExpression d text bytes rest
    → IsFirstEscape d whole text bytes (d ∷ rest) escape → (place : ℕ) → escape ≡ Some place → IsTrue (is_misread d bytes)
    → ExpressionTextFault (length whole) opening d text (EscapedDelimiter place)
misread_fault opening x (as_written h) place some misread = absurd (cc some)
misread_fault {whole = whole} opening x (escaped {place = found} front behind more h g k) place some misread =
    let at : found ≡ place = cc some in
    ExpressionTextFault.misread front behind more x misread h g (omega (arith, at, ap length k, length-drop found whole))

-- an escape of a list that means something, and one that doesn't
pub list_meant : (b m : ℕ) → list_escape b ≡ Some m → (b ≡ 92) ⊎ (b ≡ 110)
list_meant b m h = grind (arith, nat_tests, h)

pub list_meaningless : (b : ℕ) → list_escape b ≡ None → (b ≢ 92) × (b ≢ 110)
list_meaningless b h = (grind (arith, nat_tests, h), grind (arith, nat_tests, h))

-- a bracket list that is left open in the first list
pub bracket_fault : (opening : ℕ) (text rest : Cursor) {d : ℕ} {bytes written more : List ℕ} → DelimitedList d (unread text) bytes (unread rest)
    → unread text ≡ written ++ d ∷ unread rest → BracketsClose written (91 ∷ more) → ((behind : List ℕ) → BracketList more behind → ⊥)
    → rest.whole ≡ text.whole → FirstListFault (length text.whole.now) opening d (unread text) (BadTransliteration (rest.at - length more - 2))
bracket_fault opening text rest {d} {written = written} {more = more} x cut closed none same = FirstListFault.bracket x cut closed none
    (omega (
      arith,
      open_shorter closed,
      ap length cut,
      length-append written (d ∷ unread rest),
      unread_length text,
      unread_length rest,
      ap (λ w. length w.now) same,
      length-append more (d ∷ unread rest),
    ))

-- what is wrong behind a byte of a replacement is wrong from it on
pub behind_whole : {size opening d g b : ℕ} {text behind : List ℕ} {fault : ScriptFault} → IsPiece d text (piece.Byte b) behind → b ≡ 38
    → ReplacementFault size opening d g behind fault → ReplacementFault size opening d g text fault
behind_whole {behind = behind} h e wrong = ReplacementFault.whole (h.0 ∙ ap (λ b. b ∷ behind) e) (λ same. h.1 (e ∙ same)) wrong

pub behind_run : {size opening d g b : ℕ} {text behind run after : List ℕ} {fault : ScriptFault} → IsPiece d text (piece.Byte b) behind → b ≢ 38
    → Longest (is_plain d) text run after → ReplacementFault size opening d g after fault → ReplacementFault size opening d g text fault
behind_run {d = d} {text = text} {run = run} {after = after} h e l wrong =
    let some = run_of run h e l in ReplacementFault.run (subst (λ t. Longest (is_plain d) text t after) some.1 l) wrong
