-- Where a text begins of which it is said what is wrong with it.
use Rattle.sedck_commands.proofs.Common.{◌≡◌, ◌≢◌, ◌∙◌, ℕ, suc, ◌+◌, ◌-◌, ◌<◌, ◌≤◌, Bool, true, false, not, List, [], ◌∷◌, ◌++◌, Some, length, take, drop, refl, ap, sym, arith, length-append, length-drop, eq-eqb, nil_from_length, is_blank, is_digit, is_ending, is_continued, is_newline, IsEmptyOr, Longest, unread, unread_length, IsAhead, Bor, Cursor, get_or-take, length-take-le, IsFirstByte, is_byte, BeginsAt, CommentFault, begins_flag, ExtraText}
use Rattle.std.proofs.lemmas.Grind.{get_or_default_zero}
use Rattle.sedck_commands.proofs.LineBytes.{continued_last}
use Rattle.sedck_commands.proofs.CommentLemmas.{return_cut}
use Rattle.sedck_commands.proofs.ControlLemmas.{control_cut}
use Rattle.sedck_commands.specs.FirstFaults as fault
use Rattle.sedck_commands.specs.FirstFaults.{FirstControl}

-- what hasn't been read begins at the cursor's offset
pub begins_here : (cursor : Cursor) {whole : Bor (List ℕ)} {cut : List ℕ} {offset : ℕ} → cursor.whole ≡ whole → unread cursor ≡ cut → offset ≡ cursor.at
    → BeginsAt (length whole.now) cut offset
begins_here cursor same cut at = omega (arith, unread_length cursor, ap (λ w. length w.now) same, ap length cut, at)

-- what follows a line that is continued begins behind its last byte
pub begins_behind : (text behind : Cursor) (line : List ℕ) {whole : Bor (List ℕ)} {offset : ℕ} → text.whole ≡ whole → IsAhead text (length line) behind
    → is_continued line ≡ true → offset ≡ behind.at → BeginsAt (length whole.now) (unread behind) (offset - 1 + 1)
begins_behind text behind line same ahead over at =
    omega (arith, unread_length behind, ap (λ w. length w.now) (ahead.whole ∙ same), ahead.at, (continued_last line over).0, at)

-- the first carriage return of a comment, where it is before another byte
pub return_fault : (text : Cursor) (line rest : List ℕ) (at : ℕ) {offset : ℕ} → Longest (λ b. not (is_newline b)) (unread text) line rest
    → IsFirstByte (is_byte 13) line (Some at) → suc at < length line → offset ≡ text.at
    → CommentFault (length text.whole.now) (unread text) (ExtraText (offset + at))
return_fault text line rest at run first within here =
    let front = take at line in
    let more = drop (suc at) line in
    let cut : line ≡ front ++ 13 ∷ more = return_cut line at first.1 (omega (arith, within)) in
    let long : length front ≡ at = length-take-le at line (omega (arith, within)) in
    fault.CommentFault.inner_return front more run cut
    (λ k. first.0.before k.0 (omega arith) (omega (arith, k.1, long))
    (eq-eqb _ 13 (sym (get_or_default_zero line k.0 13 (omega (arith, k.1, long, within)))
    ∙ sym (get_or-take at line k.0 13 (omega (arith, k.1, long))) ∙ k.2)))
    (omega (arith, within, length-drop (suc at) line))
    (omega (
      arith,
      unread_length text,
      here,
      long,
      ap length run.cut,
      length-append line rest,
      ap length cut,
      length-append front (13 ∷ more),
      length-append (13 ∷ more) rest,
    ))

not_not : (b : Bool) → not (not b) ≡ true → b ≡ true
not_not true h = refl
not_not false h = h

-- a text whose line is empty
pub no_line : {begins line rest : List ℕ} → Longest (λ b. not (is_newline b)) begins line rest → length line < 1 → IsEmptyOr is_newline begins
no_line {begins} {line} {rest} run none = go begins (rw (sym (run.cut ∙ ap (λ t. t ++ rest) (nil_from_length line (omega (arith, none))))) at run.stops)
  where
    go : (text : List ℕ) → IsEmptyOr (λ b. not (not (is_newline b))) text → IsEmptyOr is_newline text
    go [] h = tt
    go (b ∷ text) h = not_not (is_newline b) h

-- the first control character of a name begins within what has been read
pub control_within : (begins rest : Cursor) {name control : List ℕ} → IsAhead begins (length name) rest → FirstControl name control → length control ≤ rest.at
control_within begins rest {control = control} ahead f =
    let k = control_cut f in omega (arith, ahead.at, ap length k.1 ∙ length-append k.0 control)

-- where the first control character of a name begins
pub control_begins : (begins rest : Cursor) {whole : Bor (List ℕ)} {name control : List ℕ} {offset : ℕ} → begins.whole ≡ whole
    → IsAhead begins (length name) rest → FirstControl name control → offset ≡ rest.at
    → BeginsAt (length whole.now) (control ++ unread rest) (offset - length control)
control_begins begins rest {name = name} {control = control} same ahead f at =
    let k = control_cut f in
    omega (
      arith,
      unread_length rest,
      ap (λ w. length w.now) (ahead.whole ∙ same),
      ahead.at,
      length-append control (unread rest),
      ap length k.1 ∙ length-append k.0 control,
      at,
    )

-- a byte that begins no flag, and no end of the flags
pub no_flag_byte : (b : ℕ) → b ≢ 103 → b ≢ 112 → b ≢ 119 → is_digit b ≡ false → is_blank b ≡ false → is_ending b ≡ false → begins_flag b ≡ false
no_flag_byte b f g h i j k = grind (arith, f, g, h, i, j, k)
