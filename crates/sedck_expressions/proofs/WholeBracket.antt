-- A whole bracket list: what is read is one, and what is one is read.
use Rattle.sedck_expressions.proofs.Common.{◌≡◌, ◌≢◌, ℕ, suc, zero, ◌+◌, ◌-◌, ◌<◌, ◌≤◌, Bool, true, false, cond, List, [], ◌∷◌, ◌++◌, length, take, drop, Result, Ok, Err, IfOk, refl, sym, ap, ◌∙◌, subst, arith, append_assoc, length-append, ◌&&◌, not, codes, false≢true, nat_tests, begins, bytes_where, Element, WritesElement, WritesElements, is_mistakable, is_listed, IsBracketList, ◌>>=◌, some_of, inside_of, elements_of, set_at, inside_at, opening, take-append_seam, Stop, clear_of, set_of}
use Rattle.sedck_expressions.specs.BracketReading.{elements_at, bracket_at}
use Rattle.sedck_expressions.proofs.ReadLemmas.{cond_holds, IsListBefore}
use Rattle.sedck_expressions.proofs.BracketLemmas.{one_front, begins_before, is_closing_front}
use Rattle.sedck_expressions.proofs.BracketSound.{AreElementsBefore, elements_take, written_front}
use Rattle.sedck_expressions.proofs.BracketComplete.{element_again}
use Rattle.sedck_expressions.proofs.SetLoop.{some_is}

-- ---- The elements are read again

element_some : (first : Bool) (u v : List ℕ) (e : Element) → WritesElement first u v e → 0 < length u
element_some first u v e h = grind (arith, length-append {A = ℕ})

pub elements_few : (es : List Element) (first : Bool) (inside : List ℕ) → WritesElements first inside es → length es ≤ length inside
elements_few [] first inside h = omega arith
elements_few (e ∷ es) first inside (u, v, is, one, more) =
    omega (arith, elements_few es false v more, element_some first u v e one, ap length is, length-append u v)

-- the list isn't over where elements are left
goes_on : (first : Bool) (inside rest : List ℕ) → 0 < length inside → (first ≡ false → is_closing_front inside ≡ false)
    → (begins "]" (inside ++ 93 ∷ rest) && not first) ≡ false
goes_on first inside rest some front = grind (arith, nat_tests)

pub elements_again : (outer : List ℕ) (es : List Element) (n : ℕ) (first : Bool) (inside rest : List ℕ) → WritesElements first inside es → (first ≡ true → es ≢ [])
    → length es < n → elements_at outer n first (inside ++ 93 ∷ rest) ≡ Ok (es, rest)
unfolding elements_at
elements_again outer es zero first inside rest h some l = absurd (omega arith)
elements_again outer [] (suc n) true inside rest h some l = absurd (some refl refl)
elements_again outer [] (suc n) false inside rest h some l = ap (λ x. elements_at outer (suc n) false (x ++ 93 ∷ rest)) h
elements_again outer (e ∷ es) (suc n) first inside rest (u, v, is, one, more) some l =
    rw (goes_on first inside rest (omega (arith, element_some first u v e one, ap length is, length-append u v))
    (λ later. written_front inside (e ∷ es) (subst (λ f. WritesElements f inside (e ∷ es)) later (u, v, is, one, more))))
    (rw (
      is,
      append_assoc u v (93 ∷ rest),
      element_again first u v rest e one,
      elements_again outer es n false v rest more (λ wrong. absurd (false≢true wrong)) (omega arith),
    ) refl)

-- ---- The whole list is read again

inside_again : (inside rest : List ℕ) → inside_of (inside ++ 93 ∷ rest) rest ≡ inside
inside_again inside rest =
    let size : length (inside ++ 93 ∷ rest) - length rest - 1 ≡ length inside = omega (arith, length-append inside (93 ∷ rest)) in
    ap (λ n. take n (inside ++ 93 ∷ rest)) size ∙ take-append_seam inside (93 ∷ rest)

pub bracket_again : (u words rest : List ℕ) → IsBracketList u words → words ≢ [] → bracket_at (u ++ rest) ≡ Ok (words, rest)
unfolding bracket_at
bracket_again u words rest h member = ap (λ x. bracket_at (x ++ rest)) h.written ∙ go h.complement h.sign h.set
  where
    text : List ℕ
    text = h.inside ++ 93 ∷ rest

    all : (outer : List ℕ) (complement : Bool) → words ≡ bytes_where (is_listed complement h.elements) → set_at outer complement text ≡ Ok (words, rest)
    all outer complement is =
        ap (λ o. o >>= clear_of text >>= set_of outer complement) (elements_again outer h.elements (length text + 1) true h.inside rest h.spelled (λ _. h.some)
        (omega (arith, elements_few h.elements true h.inside h.spelled, length-append h.inside (93 ∷ rest))))
        ∙ rw (inside_again h.inside rest, h.clear, ← is) (some_is outer words rest member)

    go : (complement : Bool) → (complement ≡ false → begins "^" h.inside ≡ false) → words ≡ bytes_where (is_listed complement h.elements)
        → bracket_at ((opening complement ++ h.inside ++ codes "]") ++ rest) ≡ Ok (words, rest)
    go true sign is = ap bracket_at (append_assoc (codes "[^" ++ h.inside) (codes "]") rest) ∙ all _ true is
    go false sign is = ap bracket_at (append_assoc (codes "[" ++ h.inside) (codes "]") rest)
        ∙ rw (begins_before "^" h.inside rest refl ∙ sign refl) (all _ false is)

-- ---- What is read is a bracket list

some_holds : (outer bytes rest : List ℕ) (P : List ℕ × List ℕ → Type 0) → (bytes ≢ [] → P (bytes, rest)) → IfOk (some_of outer bytes rest) P
some_holds outer [] rest P h = tt
some_holds outer (b ∷ bytes) rest P h = h (λ e. cc e)

-- the elements after the opening, where their list isn't mistakable
list_behind : (outer : List ℕ) (complement : Bool) (text : List ℕ) (x : List Element × List ℕ) → (complement ≡ false → begins "^" text ≡ false)
    → AreElementsBefore true text x → IfOk (clear_of text x >>= set_of outer complement) (IsListBefore (opening complement ++ text))
list_behind outer complement text (es, rest) sign (inside, cut, spelled, some) = rw (cut, inside_again inside rest) (go (is_mistakable inside) refl _)
  where
    go : (b : Bool) → is_mistakable inside ≡ b → (stop : Stop)
        → IfOk (cond b (Err stop) (Ok (es, rest)) >>= set_of outer complement) (IsListBefore (opening complement ++ (inside ++ 93 ∷ rest)))
    go true e stop = tt
    go false clear stop = some_holds outer (bytes_where (is_listed complement es)) rest _ (λ member. (
      opening complement ++ inside ++ codes "]",
      sym (append_assoc (opening complement ++ inside) (codes "]") rest ∙ append_assoc (opening complement) inside (93 ∷ rest)),
      record {
        complement = complement;
        inside = inside;
        elements = es;
        written = refl;
        sign = λ is. sym (begins_before "^" inside rest refl) ∙ ap (begins "^") (sym cut) ∙ sign is;
        some = some refl;
        clear = clear;
        spelled = spelled;
        set = refl;
      },
      member,
    ))

set_takes : (outer : List ℕ) (complement : Bool) (text : List ℕ) → (complement ≡ false → begins "^" text ≡ false)
    → IfOk (set_at outer complement text) (IsListBefore (opening complement ++ text))
set_takes outer complement text sign = go (elements_of outer text) (elements_take outer (length text + 1) true text)
  where
    go : (o : Result (List Element × List ℕ) Stop) → IfOk o (AreElementsBefore true text)
        → IfOk (o >>= clear_of text >>= set_of outer complement) (IsListBefore (opening complement ++ text))
    go (Err e) h = tt
    go (Ok x) h = list_behind outer complement text x sign h

inside_takes : (outer text : List ℕ) → IfOk (inside_at outer text) (IsListBefore (91 ∷ text))
inside_takes outer text = cond_holds (begins "^" text) _ _ _
    (λ sign. subst (λ t. IfOk (set_at outer true (drop 1 text)) (IsListBefore (91 ∷ t))) (sym (one_front "^" 94 text refl sign))
    (set_takes outer true (drop 1 text) (λ is. absurd (false≢true (sym is)))))
    (λ sign. set_takes outer false text (λ _. sign))

pub bracket_takes : (text : List ℕ) → IfOk (bracket_at text) (IsListBefore text)
unfolding bracket_at
bracket_takes text = cond_holds (begins "[" text) _ _ _
    (λ opens. subst (λ t. IfOk (inside_at text (drop 1 text)) (IsListBefore t)) (sym (one_front "[" 91 text refl opens)) (inside_takes text (drop 1 text))) (λ _. tt)
