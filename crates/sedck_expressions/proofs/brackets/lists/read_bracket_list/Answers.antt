use Rattle.sedck_expressions.proofs.Common.{refl, ◌≡◌, ◌∙◌, ℕ, List, length, drop, Bool, true, false, Result, sym, subst, ap, rules, begins, unread, Cursor, ByteSet, inside_at, set_at, Bor, ReFault, Gives}
use Rattle.sedck_expressions.specs.View.{bytes_in}
use Rattle.sedck_expressions.proofs.OffsetLemmas.{bracket_is}
use Rattle.sedck_expressions.proofs.brackets.lists.read_bracket_list.Goals as goal

-- the set and what follows it
abbrev viewed : ByteSet × Cursor → List ℕ × List ℕ
viewed x = (bytes_in x.0.0, unread x.1)

-- the list begins at this offset of the same text
in_whole : (first : Cursor) {whole : Bor (List ℕ)} (result : Result (ByteSet × Cursor) ReFault) (complement : Bool) (text : List ℕ) (outer : ℕ)
    → whole ≡ first.whole → outer ≡ first.at → Gives viewed (length whole.now) result (set_at (drop outer whole.now) complement text)
    → Gives viewed (length first.whole.now) result (set_at (unread first) complement text)
in_whole first result complement text outer same is h = subst (λ o. Gives viewed (length first.whole.now) result (set_at (drop o first.whole.now) complement text)) is
    (subst (λ w. Gives viewed (length w.now) result (set_at (drop outer w.now) complement text)) same h)

pub returns-in-94-clause-value : goal.returns-in-94-clause-value
returns-in-94-clause-value c =
    let caret : begins "^" (unread c.advance-inside.result) ≡ true = search rules in
    let outer = unread c.args.cursor in
    let is = bracket_is outer c.requires.opens ∙ ap (inside_at outer) (sym c.advance-inside.ensures.left)
    ∙ rw caret refl ∙ ap (set_at outer true) (sym c.advance.ensures.left) in
    let same = c.advance.ensures.whole ∙ c.advance-inside.ensures.whole in
    subst (Gives viewed _ c.read_set.result) (sym is)
    (in_whole c.args.cursor c.read_set.result true (unread c.advance.result) c.offset-outer.result same c.offset-outer.ensures c.read_set.ensures.value)

pub returns-in_default-clause-value : goal.returns-in_default-clause-value
returns-in_default-clause-value c =
    let plain : begins "^" (unread c.advance-inside.result) ≡ false = search rules in
    let outer = unread c.args.cursor in
    let is = bracket_is outer c.requires.opens ∙ ap (inside_at outer) (sym c.advance-inside.ensures.left) ∙ rw plain refl in
    subst (Gives viewed _ c.read_set-in_default.result) (sym is) (in_whole c.args.cursor c.read_set-in_default.result false (unread c.advance-inside.result)
    c.offset-outer.result c.advance-inside.ensures.whole c.offset-outer.ensures c.read_set-in_default.ensures.value)
