-- How far the bracket lists of a text are closed.
use Rattle.sedck_commands.proofs.Common.{◌≡◌, ◌≢◌, ℕ, ◌<◌, ◌-◌, List, [], ◌∷◌, ◌++◌, length, take, refl, ap, sym, ◌∙◌, subst, length-append, arith, nil_from_length, Longest, DelimitedList, FirstList, EndsIn, longest_one, unread, Cursor, unread_length, append_cancel_right, BracketBegins, BracketList, BracketsClose}
use Rattle.sedck_commands.specs.BracketLists as b
use Rattle.sedck_commands.proofs.FirstBytes.{tails}
use Rattle.sedck_commands.proofs.OffsetLemmas.{tail_cut, tail_tail, tail_behind, tail_cons, list_cut, take_front}
use Rattle.sedck_commands.proofs.UniqueParts.{list_one}

-- ---- One bracket list

begins_one : {text r s : List ℕ} → BracketBegins text r → BracketBegins text s → r ≡ s
begins_one (b.negated h) (b.negated g) = refl
begins_one (b.negated h) (b.plain n) = absurd (n h)
begins_one (b.plain n) (b.negated h) = absurd (n h)
begins_one (b.plain n) (b.plain m) = refl

begins_tail : {text rest : List ℕ} → BracketBegins text rest → EndsIn text rest
begins_tail (b.negated {a = a} {b = c} h) = (a ∷ c ∷ [], refl)
begins_tail (b.plain {b = c} n) = (c ∷ [], refl)

pub list_behind_one : {text r s : List ℕ} → BracketList text r → BracketList text s → r ≡ s
list_behind_one {s = s} l m = let same = begins_one m.first l.first in
    tails (longest_one l.run (subst (λ t. Longest _ t m.inside (93 ∷ s)) same m.run)).1

list_behind_tail : {text rest : List ℕ} → BracketList text rest → EndsIn text rest
list_behind_tail l = tail_tail (begins_tail l.first) (tail_behind (tail_cut l.run) refl)

pub begins_plain : {text behind : List ℕ} {c : ℕ} → text ≡ c ∷ behind → c ≢ 94 → BracketBegins text behind
begins_plain e n = rw e (b.plain n)

pub begins_negated : {text behind begins : List ℕ} {c d : ℕ} → text ≡ c ∷ behind → behind ≡ d ∷ begins → c ≡ 94 → BracketBegins text begins
begins_negated e f is = rw (e, f) (b.negated is)

-- ---- The bracket lists of a text

pub closed_tail : {text rest : List ℕ} → BracketsClose text rest → EndsIn text rest
closed_tail b.here = ([], refl)
closed_tail (b.byte {b = c} n m x) = tail_cons c (closed_tail x)
closed_tail (b.pair {a = a} {b = c} h x) = tail_cons a (tail_cons c (closed_tail x))
closed_tail (b.last {a = a} h) = (a ∷ [], refl)
closed_tail (b.list {b = c} h l x) = tail_cons c (tail_tail (list_behind_tail l) (closed_tail x))

-- either all are closed, or one is open
closed_or_open : {text more : List ℕ} → BracketsClose text [] → BracketsClose text (91 ∷ more) → ((end : List ℕ) → BracketList more end → ⊥) → ⊥
closed_or_open {more = more} b.here x none = elim x [ ]
closed_or_open (b.byte n m x) b.here none = n refl
closed_or_open (b.byte n m x) (b.byte f g y) none = closed_or_open x y none
closed_or_open (b.byte n m x) (b.pair h y) none = m h
closed_or_open (b.byte n m x) (b.list h l y) none = n h
closed_or_open (b.pair h x) b.here none = omega (arith, h)
closed_or_open (b.pair h x) (b.byte f g y) none = g h
closed_or_open (b.pair h x) (b.pair g y) none = closed_or_open x y none
closed_or_open (b.pair h x) (b.list g l y) none = omega (arith, h, g)
closed_or_open (b.last h) b.here none = omega (arith, h)
closed_or_open (b.last h) (b.byte f g y) none = g h
closed_or_open (b.last h) (b.list g l y) none = omega (arith, h, g)
closed_or_open (b.list h l x) b.here none = none _ l
closed_or_open (b.list h l x) (b.byte f g y) none = f h
closed_or_open (b.list h l x) (b.pair g y) none = omega (arith, h, g)
closed_or_open (b.list h l x) (b.list {rest = rest} g m y) none = closed_or_open x (rw (list_behind_one m l) at y) none

-- Up to the rest, the lists are closed: what is so from there on is so from the start.
abbrev pub ClosedUpTo : List ℕ → List ℕ → Type 0
ClosedUpTo text rest = (end : List ℕ) → BracketsClose rest end → BracketsClose text end

pub closed_byte : {text rest behind : List ℕ} {c : ℕ} → ClosedUpTo text rest → rest ≡ c ∷ behind → c ≢ 91 → c ≢ 92 → ClosedUpTo text behind
closed_byte h e n m end x = h end (subst (λ t. BracketsClose t end) (sym e) (b.byte n m x))

pub closed_pair : {text rest behind after : List ℕ} {c d : ℕ} → ClosedUpTo text rest → rest ≡ c ∷ behind → behind ≡ d ∷ after → c ≡ 92 → ClosedUpTo text after
closed_pair {c = c} h e f is end x = h end (subst (λ t. BracketsClose t end) (sym (e ∙ ap (λ t. c ∷ t) f)) (b.pair is x))

none_behind : {text end : List ℕ} → text ≡ [] → BracketsClose text end → end ≡ []
none_behind e b.here = e
none_behind e _ = absurd (cc e)

pub closed_last : {text rest behind : List ℕ} {c : ℕ} → ClosedUpTo text rest → rest ≡ c ∷ behind → length behind ≡ 0 → c ≡ 92 → ClosedUpTo text behind
closed_last {text} {behind = behind} {c = c} h e short is end x =
    let none = nil_from_length behind short in
    subst (λ t. BracketsClose text t) (sym (none_behind none x)) (h [] (subst (λ t. BracketsClose t []) (sym (e ∙ ap (λ t. c ∷ t) none)) (b.last is)))

pub closed_list : {text rest behind after : List ℕ} {c : ℕ} → ClosedUpTo text rest → rest ≡ c ∷ behind → c ≡ 91 → BracketList behind after
    → ClosedUpTo text after
closed_list h e is l end x = h end (subst (λ t. BracketsClose t end) (sym e) (b.list is l x))

pub closed_all : {text rest : List ℕ} → ClosedUpTo text rest → length rest ≡ 0 → BracketsClose text []
closed_all {rest = rest} h short = h [] (subst (λ t. BracketsClose t []) (sym (nil_from_length rest short)) b.here)

pub closed_until : {text rest behind : List ℕ} {c : ℕ} → ClosedUpTo text rest → rest ≡ c ∷ behind → c ≡ 91 → BracketsClose text (91 ∷ behind)
closed_until {behind = behind} h e is = h (91 ∷ behind) (subst (λ t. BracketsClose t (91 ∷ behind)) (sym (e ∙ ap (λ k. k ∷ behind) is)) b.here)

-- ---- The first list of a `y`

-- the list and the delimiter that ends it are there
pub list_shorter : (text rest : Cursor) {d : ℕ} {bytes : List ℕ} → DelimitedList d (unread text) bytes (unread rest) → rest.whole ≡ text.whole → text.at < rest.at
list_shorter text rest {d} x same =
    let cut = list_cut x in
    let size = length-append cut.0 (d ∷ unread rest) in
    omega (arith, ap length cut.1, size, unread_length text, unread_length rest, ap (λ w. length w.now) same)

-- what is written between two cursors
pub written_cut : (text rest : Cursor) {d from to : ℕ} {bytes written : List ℕ} → DelimitedList d (unread text) bytes (unread rest)
    → rest.whole ≡ text.whole → to ≡ rest.at → from ≡ text.at → written ≡ unread text → unread text ≡ take (to - from - 1) written ++ d ∷ unread rest
written_cut text rest {d} {from} {to} x same e f g =
    let cut = list_cut x in
    let size = length-append cut.0 (d ∷ unread rest) in
    let at : to - from - 1 ≡ length cut.0 =
    omega (arith, e, f, ap length cut.1, size, unread_length text, unread_length rest, ap (λ w. length w.now) same) in
    cut.1 ∙ ap (λ t. t ++ d ∷ unread rest) (sym (ap (take (to - from - 1)) (g ∙ cut.1) ∙ (take_front cut.0 (d ∷ unread rest) _ at).0))

-- an open bracket list is in the text, after its `[`
pub open_shorter : {text more : List ℕ} → BracketsClose text (91 ∷ more) → length more < length text
open_shorter {more = more} closed = let tail = closed_tail closed in omega (arith, ap length tail.1, length-append tail.0 (91 ∷ more))

-- a list in which a bracket list is open is no first one
pub no_first_list : {d : ℕ} {text bytes rest written more other end : List ℕ} → d ≢ 92 → DelimitedList d text bytes rest → text ≡ written ++ d ∷ rest
    → BracketsClose written (91 ∷ more) → ((behind : List ℕ) → BracketList more behind → ⊥) → FirstList d text other end → ⊥
no_first_list {d} {rest = rest} {written = written} k x cut closed none l =
    let same = (list_one k l.list x).1 in
    let front : l.alike.written ≡ written =
    append_cancel_right l.alike.written written (d ∷ rest) (ap (λ t. l.alike.written ++ d ∷ t) (sym same) ∙ sym l.alike.cut ∙ cut) in
    closed_or_open (subst (λ t. BracketsClose t []) front l.alike.closed) closed none
