-- How one line is read or refused, and lines after lines.
use Rattle.sedck_cert.proofs.Common.{◌≡◌, ℕ, ◌+◌, List, [], ◌∷◌, ◌++◌, Contains, ◌≤◌, decimal, Option, Some, None, IfErr, append_assoc, append-nil, refl, sym, ◌∙◌, ap, subst, arith, length-append, line, joined_lines, Version, Due, IsDue, AreDue, IsWrong, IsRefused, fault_at, IsCut, IsNext, Leads, Stops, Lines, CertFault, ok_or}
use Rattle.std.proofs.Common.{MatchOption}
use Rattle.sedck_cert.proofs.CutLemmas.{cut_one, has_byte}

pub line-behind : (text rest : List ℕ) → line text ++ rest ≡ text ++ 10 ∷ rest
line-behind text rest = append_assoc text (10 ∷ []) rest

pub joined_lines-append : (xs ys : List (List ℕ)) → joined_lines (xs ++ ys) ≡ joined_lines xs ++ joined_lines ys
joined_lines-append [] ys = refl
joined_lines-append (x ∷ xs) ys = ap (λ t. line x ++ t) (joined_lines-append xs ys) ∙ sym (append_assoc (line x) (joined_lines xs) (joined_lines ys))

pub are_due-append : (v : Version) (xs ys : List (List ℕ)) (a b c : Due) → AreDue v a xs b → AreDue v b ys c → AreDue v a (xs ++ ys) c
are_due-append v [] ys a b c h k = subst (λ d. AreDue v d ys c) h k
are_due-append v (x ∷ xs) ys a b c h k = (h.0, h.1, h.2, are_due-append v xs ys h.1 b c h.3 k)

-- one line
pub leads_one : (v : Version) (due next : Due) (text : List ℕ) {old new : Lines} → IsNext old text new → IsDue v due text next → Leads v due old (text ∷ []) new next
leads_one v due next text {old} {new} line' is = record {
  is_text = line'.cut.is_text ∙ sym (line-behind text new.rest.now) ∙ ap (λ t. t ++ new.rest.now) (sym (append-nil (line text)));
  number = line'.number;
  are_due = (line'.cut.none, next, is, refl);
}

-- no cut of the text gives what is due
pub wrong_cuts : (v : Version) (due : Due) (rest : List ℕ) → ((text more : List ℕ) (next : Due) → IsCut 10 rest text more → ¬ IsDue v due text next) → IsWrong v due rest
wrong_cuts v due rest none = λ text more next is one. none text more next (record { none = one; is_text = is ∙ line-behind text more })

pub wrong_word : (v : Version) (due : Due) (rest word : List ℕ) → ((text : List ℕ) (next : Due) → IsDue v due text next → text ≡ word)
    → ((more : List ℕ) → IsCut 10 rest word more → ⊥) → IsWrong v due rest
wrong_word v due rest word told none = wrong_cuts v due rest (λ text more next cut is. none more (subst (λ t. IsCut 10 rest t more) (told text next is) cut))

-- the number after the word in a line
abbrev pub NoCount : List ℕ → List ℕ → Type 0
NoCount rest word = (n : ℕ) → n ≤ 4095 → (more : List ℕ) → IsCut 10 rest (word ++ decimal n) more → ⊥

pub wrong_count : (v : Version) (due : Due) (rest word : List ℕ)
    → ((text : List ℕ) (next : Due) → IsDue v due text next → (n : ℕ) × (n ≤ 4095) × (text ≡ word ++ decimal n)) → NoCount rest word → IsWrong v due rest
wrong_count v due rest word told none = wrong_cuts v due rest (λ text more next cut is.
    let h = told text next is in
    none h.0 h.1 more (subst (λ t. IsCut 10 rest t more) h.2 cut))

-- what is refused where there is no answer
pub refused_or : {X N : Type 0} (P : CertFault → Type 0) (Q : X → Type 0) (r : Option X) (fault : CertFault) → MatchOption r N Q → (N → P fault)
    → IfErr (ok_or r fault) P
refused_or P Q None fault h f = f h
refused_or P Q (Some x) fault h f = tt

pub no_cut : (rest text more : List ℕ) → (Contains rest 10 → ⊥) → IsCut 10 rest text more → ⊥
no_cut rest text more none cut = none (has_byte 10 rest text more cut.is_text)

-- no line is left
pub wrong_none : (v : Version) (due : Due) (rest : List ℕ) → (Contains rest 10 → ⊥) → IsWrong v due rest
wrong_none v due rest none = λ text more next is one due'. none (has_byte 10 rest text more (is ∙ line-behind text more))

-- the next line isn't what is due
pub wrong_line : (v : Version) (due : Due) (rest text more : List ℕ) → IsCut 10 rest text more → ((next : Due) → ¬ IsDue v due text next) → IsWrong v due rest
wrong_line v due rest text more cut none = λ other behind next is one due'.
    let both = cut_one 10 rest text more other behind cut (record { none = one; is_text = is ∙ line-behind other behind }) in
    none next (subst (λ t. IsDue v due t next) (sym both.0) due')

pub stops_here : (v : Version) (due : Due) (old : Lines) (fault : CertFault) → IsRefused v due old.rest.now → fault ≡ fault_at due old.number → Stops v due old fault
stops_here v due old fault refused is = record {
  before = [];
  rest = old.rest.now;
  wrong = due;
  is_text = refl;
  are_due = refl;
  is_refused = refused;
  is_fault = is ∙ ap (fault_at due) (omega arith);
}

-- lines after lines
pub leads_on : {v : Version} {a b c : Due} {xs ys : List (List ℕ)} {x y z : Lines} → Leads v a x xs y b → Leads v b y ys z c → Leads v a x (xs ++ ys) z c
leads_on {v} {a} {b} {c} {xs} {ys} {x} {y} {z} h k = record {
  is_text = h.is_text ∙ ap (λ t. joined_lines xs ++ t) k.is_text ∙ sym (append_assoc (joined_lines xs) (joined_lines ys) z.rest.now)
      ∙ ap (λ t. t ++ z.rest.now) (sym (joined_lines-append xs ys));
  number = omega (arith, h.number, k.number, length-append xs ys);
  are_due = are_due-append v xs ys a b c h.are_due k.are_due;
}

-- what stops after lines that are due
pub leads_stops : {v : Version} {a b : Due} {xs : List (List ℕ)} {fault : CertFault} {x y : Lines} → Leads v a x xs y b → Stops v b y fault → Stops v a x fault
leads_stops {v} {a} {b} {xs} {fault} {x} {y} h k = record {
  before = xs ++ k.before;
  rest = k.rest;
  wrong = k.wrong;
  is_text = h.is_text ∙ ap (λ t. joined_lines xs ++ t) k.is_text ∙ sym (append_assoc (joined_lines xs) (joined_lines k.before) k.rest)
      ∙ ap (λ t. t ++ k.rest) (sym (joined_lines-append xs k.before));
  are_due = are_due-append v xs k.before a b k.wrong h.are_due k.are_due;
  is_refused = k.is_refused;
  is_fault = k.is_fault ∙ ap (fault_at k.wrong) (omega (arith, h.number, length-append xs k.before));
}

-- what is read from the next line, by what is read from a text
pub next_by_line : {V : Type 0} (Good : V → Type 0) (text : V → List ℕ) (line' : List ℕ) (r : Option V) (old new : Lines)
    → IsCut 10 old.rest.now line' new.rest.now → new.number ≡ old.number + 1
    → MatchOption r ((v : V) → Good v → line' ≡ text v → ⊥) (λ v. Good v × (line' ≡ text v))
    → MatchOption r ((v : V) → Good v → (more : List ℕ) → IsCut 10 old.rest.now (text v) more → ⊥) (λ v. Good v × IsNext old (text v) new)
next_by_line Good text line' None old new cut number h = λ v good more other. h v good (cut_one 10 _ line' _ (text v) more cut other).0
next_by_line Good text line' (Some v) old new cut number h = (h.0, record { cut = subst (λ t. IsCut 10 old.rest.now t new.rest.now) h.1 cut; number = number })
