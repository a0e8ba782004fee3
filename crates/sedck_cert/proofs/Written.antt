-- What is taken, piece after piece.
use Rattle.sedck_cert.proofs.Common.{◌≡◌, ℕ, List, ◌++◌, Option, Result, Ok, Err, OnErr, append_assoc, sym, ◌∙◌, ap, subst, length, take, drop, ◌-◌, Appends, AppendsPrefix, OnOk, take_rest}
use Rattle.std.proofs.Common.{take-append-drop}
use Rattle.std.proofs.KnownBytes.{Appends-trans}

pub on_err : {A E : Type 0} (r : Result A E) (P : Type 0) → P → OnErr r P
on_err (Ok x) P h = tt
on_err (Err e) P h = h

pub on_err_then : {A E : Type 0} (r : Result A E) (P Q : Type 0) → OnErr r P → (P → Q) → OnErr r Q
on_err_then (Ok x) P Q h f = tt
on_err_then (Err e) P Q h f = f h

pub on_ok_then : {A E : Type 0} (r : Result A E) (P Q : Type 0) → OnOk r P → (P → Q) → OnOk r Q
on_ok_then (Ok x) P Q h f = f h
on_ok_then (Err e) P Q h f = tt

pub appends_join : (a b c : Option (List ℕ)) (xs ys : List ℕ) → Appends a b xs → Appends b c ys → Appends a c (xs ++ ys)
appends_join a b c xs ys h k = Appends-trans a b c xs ys h k

-- a prefix of a longer text
pub begins_longer : (a b : Option (List ℕ)) (text rest : List ℕ) → AppendsPrefix a b text → AppendsPrefix a b (text ++ rest)
begins_longer a b text rest h = (h.0, (h.1.0 ++ rest, ap (λ t. t ++ rest) h.1.1 ∙ append_assoc h.0 h.1.0 rest), h.2)

-- a front after what was taken
pub begins_later : (a b c : Option (List ℕ)) (front text : List ℕ) → Appends a b front → AppendsPrefix b c text → AppendsPrefix a c (front ++ text)
begins_later a b c front text h k = (front ++ k.0, (k.1.0, ap (λ t. front ++ t) k.1.1 ∙ sym (append_assoc front k.0 k.1.0)), appends_join a b c front k.0 h k.2)

-- the middle piece of a text
pub begins_at : (a b c : Option (List ℕ)) (front piece rest text : List ℕ) → text ≡ front ++ (piece ++ rest) → Appends a b front
    → AppendsPrefix b c piece → AppendsPrefix a c text
begins_at a b c front piece rest text is h k = subst (AppendsPrefix a c) (sym is) (begins_later a b c front (piece ++ rest) h (begins_longer b c piece rest k))

pub begins_first : (a b : Option (List ℕ)) (piece rest text : List ℕ) → text ≡ piece ++ rest → AppendsPrefix a b piece → AppendsPrefix a b text
begins_first a b piece rest text is h = subst (AppendsPrefix a b) (sym is) (begins_longer a b piece rest h)

-- the last piece
pub written_last : {E : Type 0} (r : Result (Unit {0}) E) (a b c : Option (List ℕ)) (front piece text : List ℕ) → text ≡ front ++ piece
    → Appends a b front → OnOk r (Appends b c piece) → OnOk r (Appends a c text)
written_last r a b c front piece text is h k = on_ok_then r (Appends b c piece) (Appends a c text) k
    (λ last. subst (Appends a c) (sym is) (appends_join a b c front piece h last))

pub begun_last : {E : Type 0} (r : Result (Unit {0}) E) (a b c : Option (List ℕ)) (front piece text : List ℕ) → text ≡ front ++ piece
    → Appends a b front → OnErr r (AppendsPrefix b c piece) → OnErr r (AppendsPrefix a c text)
begun_last r a b c front piece text is h k = on_err_then r (AppendsPrefix b c piece) (AppendsPrefix a c text) k
    (λ last. subst (AppendsPrefix a c) (sym is) (begins_later a b c front piece h last))

-- the last of three pieces
pub written_third : {E : Type 0} (r : Result (Unit {0}) E) (a b c d : Option (List ℕ)) (p q s text : List ℕ) → text ≡ p ++ (q ++ s) → Appends a b p
    → Appends b c q → OnOk r (Appends c d s) → OnOk r (Appends a d text)
written_third r a b c d p q s text is h k l = written_last r a c d (p ++ q) s text (is ∙ sym (append_assoc p q s)) (appends_join a b c p q h k) l

pub begun_third : {E : Type 0} (r : Result (Unit {0}) E) (a b c d : Option (List ℕ)) (p q s text : List ℕ) → text ≡ p ++ (q ++ s) → Appends a b p
    → Appends b c q → OnErr r (AppendsPrefix c d s) → OnErr r (AppendsPrefix a d text)
begun_third r a b c d p q s text is h k l = begun_last r a c d (p ++ q) s text (is ∙ sym (append_assoc p q s)) (appends_join a b c p q h k) l

-- the third of four pieces, and the last
pub begins_third : (a b c d : Option (List ℕ)) (p q s rest text : List ℕ) → text ≡ p ++ (q ++ (s ++ rest)) → Appends a b p → Appends b c q
    → AppendsPrefix c d s → AppendsPrefix a d text
begins_third a b c d p q s rest text is h k l = begins_at a c d (p ++ q) s rest text (is ∙ sym (append_assoc p q (s ++ rest))) (appends_join a b c p q h k) l

pub written_fourth : {E : Type 0} (r : Result (Unit {0}) E) (a b c d e : Option (List ℕ)) (p q s u text : List ℕ) → text ≡ p ++ (q ++ (s ++ u))
    → Appends a b p → Appends b c q → Appends c d s → OnOk r (Appends d e u) → OnOk r (Appends a e text)
written_fourth r a b c d e p q s u text is h k l m =
    written_third r a c d e (p ++ q) s u text (is ∙ sym (append_assoc p q (s ++ u))) (appends_join a b c p q h k) l m

pub begun_fourth : {E : Type 0} (r : Result (Unit {0}) E) (a b c d e : Option (List ℕ)) (p q s u text : List ℕ) → text ≡ p ++ (q ++ (s ++ u))
    → Appends a b p → Appends b c q → Appends c d s → OnErr r (AppendsPrefix d e u) → OnErr r (AppendsPrefix a e text)
begun_fourth r a b c d e p q s u text is h k l m =
    begun_third r a c d e (p ++ q) s u text (is ∙ sym (append_assoc p q (s ++ u))) (appends_join a b c p q h k) l m

-- ---- A text in several writes

-- a prefix of the text is written, and this is the rest of it
pub record IsPartWritten (before after : Option (List ℕ)) (text rest : List ℕ) : Type 0 where
  pub front : List ℕ
  pub is_text : text ≡ front ++ rest
  pub taken : Appends before after front

-- this many bytes of the rest are written too
pub more_written : (before mid after : Option (List ℕ)) (text rest : List ℕ) (count : ℕ) → IsPartWritten before mid text rest
    → Appends mid after (take count rest)
    → IsPartWritten before after text (take (length rest - count) (drop count rest))
more_written before mid after text rest count part more = rw (take_rest rest count) (record {
  front = part.front ++ take count rest;
  is_text = part.is_text ∙ ap (λ l. part.front ++ l) (sym (take-append-drop count rest)) ∙ sym (append_assoc part.front (take count rest) (drop count rest));
  taken = Appends-trans before mid after part.front (take count rest) part.taken more;
})
