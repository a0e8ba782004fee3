-- Going through a list of items: what is left of it, and that nothing before is sought.
use Rattle.sedck_expressions.proofs.Common.{◌≡◌, ℕ, ◌+◌, ◌≤◌, Bool, true, false, List, [], ◌∷◌, ◌++◌, length, drop, Option, Some, Result, Ok, inl, inr, refl, sym, ap, subst, ◌∙◌, arith, append_assoc, length-append, IsTrue, codes, ◌||◌, ◌&&◌, or-true, nat_tests, drop-drop, begins, unread, Cursor, HasOneAt, begins_pair, Tree, Trees, Then, Nil, Seq, Group, Repeat, Level, Position, SpellsItems, SpellsCount, behind, has_part, one_has_part, is_reference, is_anchor, repeats_anchor, has_misjudged_reference, is_misjudged, StopsAt, Sought, unwrap_or, length-drop, HasNoneSought, IsFirstSought, IsFirstAmong, IsFirstMisjudged, IsMisjudgedAt, ReFault, BadReference, NothingToRepeat}
use Rattle.std.specs.Result.{result_unwrap_or}
use Rattle.sedck_expressions.proofs.OffsetLemmas.{stands_at, stands_behind}

-- the tree has nothing of this that is sought
abbrev pub HasNone : Sought → Tree → Type 0
HasNone sought = HasNoneSought sought.references sought.anchors

abbrev pub IsFirst : Sought → Tree → List ℕ → ℕ → ReFault → Type 0
IsFirst sought = IsFirstSought sought.references sought.anchors

-- how far the text has been read where this is left
pub read_on : (old new : Cursor) (text after : List ℕ) → new.whole ≡ old.whole → unread old ≡ text ++ after → unread new ≡ after
    → new.at ≡ old.at + length text
read_on old new text after same cut left =
    omega (
      arith,
      old.within,
      new.within,
      ap (λ w. length w.now) same,
      ap length cut,
      ap length left,
      length-append text after,
      length-drop old.at old.whole.now,
      length-drop new.at new.whole.now,
    )

-- These items are left of the list, and the text from here on spells them; those before them have nothing that is sought, so what is first
-- among these is the first of all.
pub record IsLeft (sought : Sought) (level : Level) (start here : ℕ) (whole after text : List ℕ) (all ts : Trees) : Type 0 where
  pub position : Position
  pub own : List ℕ
  pub cut : text ≡ own ++ after
  pub spelled : SpellsItems level position own ts
  pub references : IsTrue sought.references → one_has_part is_reference ts ≡ one_has_part is_reference all
  pub anchors : IsTrue sought.anchors → one_has_part is_anchor ts ≡ one_has_part is_anchor all
  pub repeated : one_has_part repeats_anchor ts ≡ one_has_part repeats_anchor all
  pub first : (fault : ReFault) → IsFirstAmong sought.references sought.anchors ts own here fault
      → IsFirstAmong sought.references sought.anchors all whole start fault

-- one item of the list is passed
pub left_more : {sought : Sought} {level : Level} {start here : ℕ} {whole after text : List ℕ} {all : Trees} (next : ℕ) (more : List ℕ) (t : Tree) (ts : Trees)
    (left : IsLeft sought level start here whole after text all (Then t ts)) → next ≡ here + length left.spelled.0 → more ≡ left.spelled.1 ++ after
    → HasNone sought t → IsLeft sought level start next whole after more all ts
left_more {sought} {level} next more t ts left at is none = record {
  position = behind left.position t;
  own = left.spelled.1;
  cut = is;
  spelled = left.spelled.4;
  references = λ s. sym (ap (λ b. b || one_has_part is_reference ts) (none.no_reference s)) ∙ left.references s;
  anchors = λ s. sym (ap (λ b. b || one_has_part is_anchor ts) (none.no_anchor s)) ∙ left.anchors s;
  repeated = sym (ap (λ b. b || one_has_part repeats_anchor ts) none.no_repeated) ∙ left.repeated;
  first = λ fault among.
      let (u, v, parts, item, others) = left.spelled in
      left.first fault (
        u,
        v,
        parts,
        (level, left.position, v, item),
        inr (
          none,
          subst (λ n. IsFirstAmong sought.references sought.anchors ts v n fault) at among,
        ),
      );
}

-- nothing of the list is left
pub left_none : {sought : Sought} {level : Level} {start here : ℕ} {whole after text : List ℕ} {all : Trees}
    → IsLeft sought level start here whole after text all Nil → (text ≡ after) × HasNone sought (Seq all)
left_none {after = after} left = (
  left.cut ∙ ap (λ x. x ++ after) left.spelled,
  record {
    no_reference = λ s. sym (left.references s);
    no_anchor = λ s. sym (left.anchors s);
    no_repeated = sym left.repeated;
  },
)

pub none_group : {sought : Sought} (k : ℕ) (body : Tree) → HasNone sought body → HasNone sought (Group k body)
none_group k body none = record { no_reference = none.no_reference; no_anchor = none.no_anchor; no_repeated = none.no_repeated }

-- where also each anchor was sought in what is repeated
pub none_repeat : {sought : Sought} (body : Tree) (least : ℕ) (most : Option ℕ) → HasNone (record sought { anchors = true }) body
    → HasNone sought (Repeat body least most)
none_repeat body least most none = record {
  no_reference = none.no_reference;
  no_anchor = λ _. none.no_anchor refl;
  no_repeated = ap (λ b. b || has_part repeats_anchor body) (none.no_anchor refl) ∙ none.no_repeated;
}

nothing_misjudged : (reference by_group repeated anchor : Bool) → ((reference && by_group) ≡ true → reference ≡ false) → (reference ≡ true → anchor ≡ false)
    → repeated ≡ false → ((reference && by_group) || (repeated || (reference && anchor))) ≡ false
nothing_misjudged false by_group repeated anchor f g h = rw h refl
nothing_misjudged true true repeated anchor f g h = absurd (cc (f refl))
nothing_misjudged true false repeated anchor f g h = rw (h, g refl) refl

-- so the expression isn't misjudged, where its first such reference or anchor was sought
pub none_misjudged : (sought : Sought) (t : Tree) → sought.references ≡ has_misjudged_reference t → sought.anchors ≡ has_part is_reference t
    → HasNone sought t → is_misjudged t ≡ false
none_misjudged sought t references anchors none =
    nothing_misjudged (has_part is_reference t) _ (has_part repeats_anchor t) (has_part is_anchor t) (λ e. none.no_reference (references ∙ e))
    (λ e. none.no_anchor (anchors ∙ e)) none.no_repeated

-- what stops inside stops outside
pub stops_group : (sought : Sought) (text : List ℕ) (k : ℕ) (body : Tree) (fault : ReFault) → StopsAt sought body text fault → StopsAt sought (Group k body) text fault
stops_group sought text k body (BadReference offset) stop = stop
stops_group sought text k body (NothingToRepeat offset) stop = stop
stops_group sought text k body fault stop = absurd stop

pub stops_repeat : (sought : Sought) (text : List ℕ) (body : Tree) (least : ℕ) (most : Option ℕ) (fault : ReFault)
    → StopsAt (record sought { anchors = true }) body text fault → StopsAt sought (Repeat body least most) text fault
stops_repeat sought text body least most (BadReference offset) stop = stop
stops_repeat sought text body least most (NothingToRepeat offset) (at, inl (any, has)) = (at, inr (ap (λ b. b || has_part repeats_anchor body) has))
stops_repeat sought text body least most (NothingToRepeat offset) (at, inr has) = (at, inr (ap (λ b. has_part is_anchor body || b) has ∙ or-true (has_part is_anchor body)))
stops_repeat sought text body least most fault stop = absurd stop

pub stops_all : (sought : Sought) (text : List ℕ) {level : Level} {start here : ℕ} {whole after left : List ℕ} {all : Trees} (t : Tree) (ts : Trees)
    (fault : ReFault) → IsLeft sought level start here whole after left all (Then t ts) → StopsAt sought t text fault → StopsAt sought (Seq all) text fault
stops_all sought text t ts (BadReference offset) left stop = stop
stops_all sought text t ts (NothingToRepeat offset) left (at, inl (any, has)) =
    (at, inl (any, sym (left.anchors any) ∙ ap (λ b. b || one_has_part is_anchor ts) has))
stops_all sought text t ts (NothingToRepeat offset) left (at, inr has) = (at, inr (sym left.repeated ∙ ap (λ b. b || one_has_part repeats_anchor ts) has))
stops_all sought text t ts fault left stop = absurd stop

pub first_all : (sought : Sought) {level : Level} {start here : ℕ} {whole after text : List ℕ} {all : Trees} (t : Tree) (ts : Trees) (fault : ReFault)
    (left : IsLeft sought level start here whole after text all (Then t ts)) → IsFirst sought t left.spelled.0 here fault
    → IsFirst sought (Seq all) whole start fault
first_all sought {level} t ts fault left first =
    let (u, v, parts, item, others) = left.spelled in
    left.first fault (u, v, parts, (level, left.position, v, item), inl first)

-- the first reference or anchor that was sought is one for which the expression is misjudged
pub stops_misjudged : (sought : Sought) (text : List ℕ) (t : Tree) (fault : ReFault) → sought.references ≡ has_misjudged_reference t
    → sought.anchors ≡ has_part is_reference t → StopsAt sought t text fault → IsFirst sought t text 0 fault → IsMisjudgedAt text t fault
stops_misjudged sought text t fault references anchors stop first = go fault stop (rw (references, anchors) at first)
  where
    go : (fault : ReFault) → StopsAt sought t text fault → IsFirstMisjudged text t fault → IsMisjudgedAt text t fault
    go (BadReference offset) stop first = (stop.0, stop.1, sym references ∙ stop.2, first)
    go (NothingToRepeat offset) (at, inl (any, has)) first = (at, rw (sym anchors ∙ any, has) (or-true (has_part repeats_anchor t)), first)
    go (NothingToRepeat offset) (at, inr has) first = (at, rw has refl, first)
    go fault stop first = absurd stop

-- ---- Signs, groups and references in the text

pub star_left : (text after : List ℕ) (least : ℕ) (most : Option ℕ) → SpellsCount text least most → begins "*" (text ++ after) ≡ true
    → drop 1 (text ++ after) ≡ after
star_left text after least most count star = grind (arith, nat_tests)

pub interval_opens : (text after : List ℕ) (least : ℕ) (most : Option ℕ) → SpellsCount text least most → begins "*" (text ++ after) ≡ false
    → begins_pair 123 text ≡ true
interval_opens text after least most count star = grind (arith, nat_tests)

pub second_same : {A E : Type 0} {a b : A} {x y : List ℕ} → ◌≡◌ {A = Result (A × List ℕ) E} (Ok (a, x)) (Ok (b, y)) → x ≡ y
second_same {A} {E} {a = a} {x = x} e = ap (λ r. (result_unwrap_or {T = A × List ℕ} {E = E} r (a, x)).1) e

pub third_same : {A B : Type 0} {a c : A} {b d : B} {x y : List ℕ} → ◌≡◌ {A = Option (A × B × List ℕ)} (Some (a, b, x)) (Some (c, d, y)) → x ≡ y
third_same {A} {B} {a = a} {b = b} {x = x} e = ap (λ o. (unwrap_or {T = A × B × List ℕ} o (a, b, x)).2) e

-- the inside of a group, and what follows it
pub group_cut : (text inside after : List ℕ) → text ≡ codes "\\(" ++ inside ++ codes "\\)" → drop 2 (text ++ after) ≡ inside ++ (92 ∷ 41 ∷ after)
group_cut text inside after is = ap (λ x. drop 2 (x ++ after)) is ∙ append_assoc inside (codes "\\)") after

pub reference_stands : (cursor : Cursor) (k : ℕ) (text after : List ℕ) → unread cursor ≡ text ++ after → 1 ≤ k → k ≤ 9
    → text ≡ codes "\\" ++ (48 + k) ∷ [] → HasOneAt cursor.whole.now cursor.at "\\" × HasOneAt cursor.whole.now (cursor.at + 1) "123456789"
reference_stands cursor k text after cut low high is =
    let here : unread cursor ≡ 92 ∷ (48 + k) ∷ after = cut ∙ ap (λ x. x ++ after) is in
    let next : drop (cursor.at + 1) cursor.whole.now ≡ (48 + k) ∷ after = sym (drop-drop 1 cursor.at cursor.whole.now) ∙ ap (drop 1) here in (
      stands_at cursor "\\" (ap (begins "\\") here),
      stands_behind cursor.whole.now (cursor.at + 1) "123456789" (ap (begins "123456789") next ∙ digit k low high),
    )
  where
    digit : (k : ℕ) → 1 ≤ k → k ≤ 9 → begins "123456789" ((48 + k) ∷ after) ≡ true
    digit k low high = grind (arith, nat_tests)
