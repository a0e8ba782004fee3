-- A substitution is its first match, what is after that, and the rest.
use Rattle.sedck_model.proofs.Common.{◌≡◌, ◌∙◌, ◌⊎◌, inl, inr, ℕ, ◌+◌, ◌-◌, ◌<◌, ◌≤◌, Bool, true, false, List, [], ◌∷◌, ◌++◌, length, take, drop, refl, sym, ap, subst, arith, append_assoc, length-append, length-drop, map, get_or, append_cancel_right, take-append-drop, take_all, take_more, map-append, All-contains, Tree, Groups, no_groups, Match, Program, part_of, StandsFor, Reached, Leads, groups_of, reached, beginning, AreEnds, Spot, ReplacesIn, Replaces, ReplacesAt, text_for}
use Rattle.std.proofs.Common.{length-take, All, Contains}
use Rattle.std.proofs.lemmas.List.{append-nil, take-take}
use Rattle.std.proofs.Math.Seq.{take-append_seam, drop-append_seam}
use Rattle.sedck_model.proofs.Contained.{contains_mapped, mapped_contains}
use Rattle.sedck_commands.specs.Program.{Part, Text, Newline, Tab, Whole, Group, Substitution}
use Rattle.sedck_commands.specs.declared.types.Part as code
use Rattle.sedck_flow.specs.Substitutes.{Occurrence, part_text, replacement, matched, replaced, AreMatchesIn, AreApart, Substitutes}
use Rattle.sedck_model.specs.Private.Replacing.{Continues, occurrence}

-- ---- What takes the place of a match doesn't depend on what is after it

same_part : (part : Part) (w b : List ℕ) (e : Groups) → part_text (record { whole = w; groups = e; behind = b }) part ≡ part_text (record { whole = w; groups = e; behind = [] }) part
same_part (Text bytes) w b e = refl
same_part Newline w b e = refl
same_part Tab w b e = refl
same_part Whole w b e = refl
same_part (Group k) w b e = refl

pub same_replacement : (parts : List Part) (w b : List ℕ) (e : Groups) → replacement parts (record { whole = w; groups = e; behind = b }) ≡ text_for parts w e
same_replacement [] w b e = refl
same_replacement (part ∷ parts) w b e = rw (same_part part w b e, same_replacement parts w b e) refl

push_replacement : (parts : List Part) (part : Part) (m : Occurrence) → replacement (parts ++ part ∷ []) m ≡ replacement parts m ++ part_text m part
push_replacement [] part m = append-nil (part_text m part)
push_replacement (one ∷ parts) part m =
    ap (λ x. part_text m one ++ x) (push_replacement parts part m) ∙ sym (append_assoc (part_text m one) (replacement parts m) (part_text m part))

-- the text of one more part
pub one_more_part : (parts : List code.Part) (i : ℕ) (d : code.Part) (w : List ℕ) (e : Groups) → i < length parts
    → text_for (map part_of (take (i + 1) parts)) w e ≡ text_for (map part_of (take i parts)) w e ++ part_text (occurrence w e) (part_of (get_or parts i d))
one_more_part parts i d w e lt =
    ap (λ x. text_for (map part_of x) w e) (take_more parts i d lt) ∙ ap (λ x. text_for x w e) (map-append part_of (take i parts) (get_or parts i d ∷ []))
    ∙ push_replacement (map part_of (take i parts)) (part_of (get_or parts i d)) (occurrence w e)

-- ---- The first match, and the rest

put_first : (t : Tree) (s : Substitution) (w b o n : List ℕ) (e : Groups) → Match t no_groups w e → s.global ≡ true → 0 < length w + length b
    → Replaces t s o n → Replaces t s (w ++ b ++ o) (text_for s.parts w e ++ b ++ n)
put_first t s w b o n e match global apart r =
    let m : Occurrence = record { whole = w; groups = e; behind = b } in
    record {
      first = m;
      more = r.first ∷ r.more;
      one_match = λ single. absurd (cc (global, single));
      are_matches = (match, r.are_matches);
      are_apart = (apart, r.are_apart);
      is_old = ap (λ x. w ++ b ++ x) r.is_old;
      is_new = ap (λ x. x ++ b ++ n) (sym (same_replacement s.parts w b e)) ∙ ap (λ x. replacement s.parts m ++ b ++ x) r.is_new;
    }

put_last : (t : Tree) (s : Substitution) (w b : List ℕ) (e : Groups) → Match t no_groups w e → Replaces t s (w ++ b ++ []) (text_for s.parts w e ++ b ++ [])
put_last t s w b e match = record {
  first = record { whole = w; groups = e; behind = b };
  more = [];
  one_match = λ _. refl;
  are_matches = (match, tt);
  are_apart = tt;
  is_old = refl;
  is_new = ap (λ x. x ++ b ++ []) (sym (same_replacement s.parts w b e));
}

pub from_first : (t : Tree) (s : Substitution) (w o n : List ℕ) (e : Groups) → Match t no_groups w e → Continues t s (1 - length w) o n
    → Replaces t s (w ++ o) (text_for s.parts w e ++ n)
from_first t s w o n e match c =
    let b = c.behind in
    let r = text_for s.parts w e in
    let olds : w ++ o ≡ w ++ b ++ c.old_rest = ap (λ x. w ++ x) c.is_old ∙ sym (append_assoc w b c.old_rest) in
    let news : r ++ n ≡ r ++ b ++ c.new_rest = ap (λ x. r ++ x) c.is_new ∙ sym (append_assoc r b c.new_rest) in
    let Goal : List ℕ → List ℕ → Type 0 = λ x y. Replaces t s x y in
    let made : Replaces t s (w ++ b ++ c.old_rest) (r ++ b ++ c.new_rest) =
    elim c.ends [
      | inl both ↦ subst (λ x. Replaces t s (w ++ b ++ x) (r ++ b ++ c.new_rest)) (sym both.0)
          (subst (λ x. Replaces t s (w ++ b ++ []) (r ++ b ++ x)) (sym both.1) (put_last t s w b e match))
      | inr more ↦ let least : 1 - length w ≤ length b = more.1 in put_first t s w b c.old_rest c.new_rest e match more.0 (omega arith) more.2
    ] in
    subst (λ x. Replaces t s x (r ++ n)) (sym olds) (subst (λ y. Replaces t s (w ++ b ++ c.old_rest) y) (sym news) made)

-- a first match, and what is after it
pub record First (t : Tree) (s : Substitution) (old new : List ℕ) : Type 0 where
  pub whole : List ℕ
  pub groups : Groups
  pub old_rest : List ℕ
  pub new_rest : List ℕ
  pub is_match : Match t no_groups whole groups
  pub is_old : old ≡ whole ++ old_rest
  pub is_new : new ≡ text_for s.parts whole groups ++ new_rest
  pub continues : Continues t s (1 - length whole) old_rest new_rest

is_global : (b : Bool) → (b ≡ false → ⊥) → b ≡ true
is_global true other = refl
is_global false other = absurd (other refl)

begins : (t : Tree) (s : Substitution) (old new : List ℕ) (first : Occurrence) (more : List Occurrence) → (s.global ≡ false → more ≡ []) → AreMatchesIn Match t (first ∷ more)
    → AreApart (first ∷ more) → old ≡ matched (first ∷ more) → new ≡ replaced s.parts (first ∷ more) → First t s old new
begins t s old new first [] one match apart is_old is_new = record {
  whole = first.whole;
  groups = first.groups;
  old_rest = first.behind;
  new_rest = first.behind;
  is_match = match.0;
  is_old = is_old ∙ append-nil (first.whole ++ first.behind);
  is_new = is_new ∙ append-nil (replacement s.parts first ++ first.behind) ∙ ap (λ x. x ++ first.behind) (same_replacement s.parts first.whole first.behind first.groups);
  continues = record {
    behind = first.behind;
    old_rest = [];
    new_rest = [];
    is_old = sym (append-nil first.behind);
    is_new = sym (append-nil first.behind);
    ends = inl (refl, refl);
  };
}
begins t s old new first (next ∷ more) one match apart is_old is_new =
    let global : s.global ≡ true = is_global s.global (λ single. cc (one single)) in
    let apart_here : 0 < length first.whole + length first.behind = apart.0 in
    record {
      whole = first.whole;
      groups = first.groups;
      old_rest = first.behind ++ matched (next ∷ more);
      new_rest = first.behind ++ replaced s.parts (next ∷ more);
      is_match = match.0;
      is_old = is_old ∙ append_assoc first.whole first.behind (matched (next ∷ more));
      is_new = is_new ∙ append_assoc (replacement s.parts first) first.behind (replaced s.parts (next ∷ more))
          ∙ ap (λ x. x ++ (first.behind ++ replaced s.parts (next ∷ more))) (same_replacement s.parts first.whole first.behind first.groups);
      continues = record {
        behind = first.behind;
        old_rest = matched (next ∷ more);
        new_rest = replaced s.parts (next ∷ more);
        is_old = refl;
        is_new = refl;
        ends = inr (
          global,
          omega arith,
          record {
            first = next;
            more = more;
            one_match = λ single. absurd (cc (global, single));
            are_matches = match.1;
            are_apart = apart.1;
            is_old = refl;
            is_new = refl;
          },
        );
      };
    }

pub first_of_all : (t : Tree) (s : Substitution) (old new : List ℕ) → Replaces t s old new → First t s old new
first_of_all t s old new r = begins t s old new r.first r.more r.one_match r.are_matches r.are_apart r.is_old r.is_new

-- ---- The whole substitution

pub substituted : (p : Program) (s : Substitution) (t : Tree) (old new : List ℕ) → StandsFor p s.pattern t → ReplacesIn t s old new → Substitutes p s old new
substituted p s t old new stands h =
    let r = h.replaces in
    record {
      tree = t;
      is_expression = stands;
      front = h.front;
      matches = r.first ∷ r.more;
      some_match = omega arith;
      one_match = λ single. ap (λ more. length (r.first ∷ more)) (r.one_match single);
      are_matches = r.are_matches;
      are_apart = r.are_apart;
      is_old = h.is_old ∙ ap (λ x. h.front ++ x) r.is_old;
      is_new = h.is_new ∙ ap (λ x. h.front ++ x) r.is_new;
    }

-- what a substitution is: an expression, and the rest
pub record Begun (p : Program) (s : Substitution) (old new : List ℕ) : Type 0 where
  pub tree : Tree
  pub is_expression : StandsFor p s.pattern tree
  pub replaces : ReplacesIn tree s old new

none_left : (first : Occurrence) (more : List Occurrence) → length (first ∷ more) ≡ 1 → more ≡ []
none_left first [] is = refl
none_left first (next ∷ more) is = absurd (omega arith)

begun : (p : Program) (s : Substitution) (old new front : List ℕ) (t : Tree) (matches : List Occurrence) → StandsFor p s.pattern t → 0 < length matches
    → (s.global ≡ false → length matches ≡ 1) → AreMatchesIn Match t matches → AreApart matches → old ≡ front ++ matched matches → new ≡ front ++ replaced s.parts matches
    → Begun p s old new
begun p s old new front t [] stands some one match apart is_old is_new = absurd (omega arith)
begun p s old new front t (first ∷ more) stands some one match apart is_old is_new = record {
  tree = t;
  is_expression = stands;
  replaces = record {
    front = front;
    old_rest = matched (first ∷ more);
    new_rest = replaced s.parts (first ∷ more);
    is_old = is_old;
    is_new = is_new;
    replaces = record {
      first = first;
      more = more;
      one_match = λ single. none_left first more (one single);
      are_matches = match;
      are_apart = apart;
      is_old = refl;
      is_new = refl;
    };
  };
}

pub begun_of : (p : Program) (s : Substitution) (old new : List ℕ) → Substitutes p s old new → Begun p s old new
begun_of p s old new h = begun p s old new h.front h.tree h.matches h.is_expression h.some_match h.one_match h.are_matches h.are_apart h.is_old h.is_new

-- ---- What is after a match

pub continues_alike : (t : Tree) (s : Substitution) (least : ℕ) (old new : List ℕ) → old ≡ new → Continues t s least old new
continues_alike t s least old new is = record {
  behind = new;
  old_rest = [];
  new_rest = [];
  is_old = is ∙ sym (append-nil new);
  is_new = sym (append-nil new);
  ends = inl (refl, refl);
}

pub continues_at : (t : Tree) (s : Substitution) (least k : ℕ) (old new : List ℕ) → s.global ≡ true → least ≤ k → k ≤ length old → take k old ≡ take k new
    → Replaces t s (drop k old) (drop k new) → Continues t s least old new
continues_at t s least k old new global enough within shared r = record {
  behind = take k old;
  old_rest = drop k old;
  new_rest = drop k new;
  is_old = sym (take-append-drop k old);
  is_new = sym (ap (λ x. x ++ drop k new) shared ∙ take-append-drop k new);
  ends = inr (global, simp length-take (omega arith), r);
}

-- what is after a match is the same to the end, or up to the next match
abbrev pub GoesOn : Tree → Substitution → ℕ → List ℕ → List ℕ → Type 0
GoesOn t s least old new = (k : ℕ) × (least ≤ k) × (k ≤ length old) × (k ≤ length new) × (take k old ≡ take k new) × Replaces t s (drop k old) (drop k new)

pub continues_cases : (t : Tree) (s : Substitution) (least : ℕ) (old new : List ℕ) → Continues t s least old new
    → (old ≡ new) ⊎ ((s.global ≡ true) × GoesOn t s least old new)
continues_cases t s least old new c =
    let b = c.behind in
    let o = c.old_rest in
    let n = c.new_rest in
    let old_length : length old ≡ length b + length o = ap length c.is_old ∙ length-append b o in
    let new_length : length new ≡ length b + length n = ap length c.is_new ∙ length-append b n in
    let old_drop : drop (length b) old ≡ o = ap (drop (length b)) c.is_old ∙ drop-append_seam b o in
    let new_drop : drop (length b) new ≡ n = ap (drop (length b)) c.is_new ∙ drop-append_seam b n in
    elim c.ends [
      | inl both ↦ inl (c.is_old ∙ ap (λ x. b ++ x) (both.0 ∙ sym both.1) ∙ sym c.is_new)
      | inr more ↦ inr (
        more.0,
        (
          length b,
          more.1,
          omega arith,
          omega arith,
          ap (take (length b)) c.is_old ∙ take-append_seam b o ∙ sym (ap (take (length b)) c.is_new ∙ take-append_seam b n),
          subst (λ x. Replaces t s x (drop (length b) new)) (sym old_drop) (subst (λ x. Replaces t s o x) (sym new_drop) more.2),
        ),
      )
    ]

-- ---- The first match by the spot where it ends

pub replaces_from : (t : Tree) (s : Substitution) (old new : List ℕ) (spot : Spot) → spot.at ≤ length old → Leads t (beginning old 0) (reached old spot)
    → ReplacesAt t s old new spot → Replaces t s old new
replaces_from t s old new spot within leads r =
    let w = take spot.at old in
    let o = drop spot.at old in
    let e = groups_of old spot.groups in
    let whole : leads.0 ≡ w = append_cancel_right leads.0 w o (sym leads.1 ∙ sym (take-append-drop spot.at old)) in
    let match : Match t no_groups w e = subst (λ x. Match t no_groups x e) whole leads.2 in
    let size : length w ≡ spot.at = simp length-take (omega arith) in
    let after : Continues t s (1 - length w) o r.new_rest = subst (λ n. Continues t s (1 - n) o r.new_rest) (sym size) r.continues in
    subst (λ x. Replaces t s old x) (sym r.is_new)
    (subst (λ x. Replaces t s x (text_for s.parts w e ++ r.new_rest)) (take-append-drop spot.at old) (from_first t s w o r.new_rest e match after))

pub replaces_at_some : (t : Tree) (s : Substitution) (old new : List ℕ) (spots : List Spot) → AreEnds old t (beginning old 0) spots
    → All (λ spot. (0 ≤ spot.at) × (spot.at ≤ length old)) spots → Replaces t s old new → (spot : Spot) × Contains spots spot × ReplacesAt t s old new spot
replaces_at_some t s old new spots are places r =
    let f = first_of_all t s old new r in
    let to : Reached = record { rest = f.old_rest; groups = f.groups } in
    let leads : Leads t (beginning old 0) to = (f.whole, f.is_old, f.is_match) in
    let found = contains_mapped (reached old) spots to ((are to).0 leads) in
    let spot = found.0 in
    let within : (0 ≤ spot.at) × (spot.at ≤ length old) = All-contains (λ one. (0 ≤ one.at) × (one.at ≤ length old)) spots spot places found.1 in
    let rest : drop spot.at old ≡ f.old_rest = ap (λ x. x.rest) found.2 in
    let groups : groups_of old spot.groups ≡ f.groups = ap (λ x. x.groups) found.2 in
    let whole : take spot.at old ≡ f.whole =
    append_cancel_right (take spot.at old) f.whole f.old_rest (ap (λ x. take spot.at old ++ x) (sym rest) ∙ take-append-drop spot.at old ∙ f.is_old) in
    let size : length f.whole ≡ spot.at = let bound : spot.at ≤ length old = within.1 in sym (ap length whole) ∙ simp length-take (omega arith) in (
      spot,
      found.1,
      record {
        new_rest = f.new_rest;
        is_new = f.is_new ∙ sym (ap (λ x. text_for s.parts x (groups_of old spot.groups) ++ f.new_rest) whole ∙ ap (λ x. text_for s.parts f.whole x ++ f.new_rest) groups);
        continues = subst (λ x. Continues t s (1 - spot.at) x f.new_rest) (sym rest)
            (subst (λ n. Continues t s (1 - n) f.old_rest f.new_rest) size f.continues);
      },
    )

pub replaces_by : (t : Tree) (s : Substitution) (old new : List ℕ) (spots : List Spot) (spot : Spot) → AreEnds old t (beginning old 0) spots
    → All (λ one. (0 ≤ one.at) × (one.at ≤ length old)) spots → Contains spots spot → ReplacesAt t s old new spot → Replaces t s old new
replaces_by t s old new spots spot are places found r =
    let within : (0 ≤ spot.at) × (spot.at ≤ length old) = All-contains (λ one. (0 ≤ one.at) × (one.at ≤ length old)) spots spot places found in
    replaces_from t s old new spot within.1 ((are (reached old spot)).1 (mapped_contains (reached old) spots spot found)) r

-- ---- Parts of texts

pub rest_whole : (k : ℕ) (xs : List ℕ) → take (length xs - k) (drop k xs) ≡ drop k xs
rest_whole k xs = take_all (length xs - k) (drop k xs) (simp length-drop (omega arith))

pub shared_take : (k n : ℕ) (xs ys : List ℕ) → k ≤ n → take n xs ≡ take n ys → take k xs ≡ take k ys
shared_take k n xs ys le is = sym (take-take k n xs le) ∙ ap (take k) is ∙ take-take k n ys le

-- ---- Behind a text with which both begin

pub replaces_in_at : (t : Tree) (s : Substitution) (k : ℕ) (old new : List ℕ) → take k old ≡ take k new → Replaces t s (drop k old) (drop k new) → ReplacesIn t s old new
replaces_in_at t s k old new shared r = record {
  front = take k old;
  old_rest = drop k old;
  new_rest = drop k new;
  is_old = sym (take-append-drop k old);
  is_new = sym (ap (λ x. x ++ drop k new) shared ∙ take-append-drop k new);
  replaces = r;
}

pub replaces_in_from : (t : Tree) (s : Substitution) (old new : List ℕ) → ReplacesIn t s old new
    → (k : ℕ) × (k ≤ length old) × (k ≤ length new) × (take k old ≡ take k new) × Replaces t s (drop k old) (drop k new)
replaces_in_from t s old new h =
    let b = h.front in
    let o = h.old_rest in
    let n = h.new_rest in
    let old_length : length old ≡ length b + length o = ap length h.is_old ∙ length-append b o in
    let new_length : length new ≡ length b + length n = ap length h.is_new ∙ length-append b n in
    let old_drop : drop (length b) old ≡ o = ap (drop (length b)) h.is_old ∙ drop-append_seam b o in
    let new_drop : drop (length b) new ≡ n = ap (drop (length b)) h.is_new ∙ drop-append_seam b n in (
      length b,
      omega arith,
      omega arith,
      ap (take (length b)) h.is_old ∙ take-append_seam b o ∙ sym (ap (take (length b)) h.is_new ∙ take-append_seam b n),
      subst (λ x. Replaces t s x (drop (length b) new)) (sym old_drop) (subst (λ x. Replaces t s o x) (sym new_drop) h.replaces),
    )
