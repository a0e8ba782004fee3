-- Text in HTML: it is added piece by piece, and has no byte that begins or ends a tag or an attribute.
use Rattle.std.proofs.Common.{◌≡◌, Bool, true, false, ℕ, ◌+◌, ◌<◌, List, [], ◌∷◌, ◌++◌, length, get_or, take, append_assoc, append-nil, refl, sym, ap, ◌∙◌}
use Rattle.std.specs.Prelude.{All, ◌==◌, if◌then◌else◌, codes}
use Rattle.std.proofs.lemmas.Bool.{eqb-false}
use Rattle.std.proofs.lemmas.List.{take_more}
use Rattle.std.proofs.lemmas.List.Elements.{All-append, All-cons, All-nil}
use Rattle.sedck_report.specs.Html.{html_byte, html_text, IsPlain}

html_text-append : (xs ys : List ℕ) → html_text (xs ++ ys) ≡ html_text xs ++ html_text ys
html_text-append [] ys = refl
html_text-append (x ∷ xs) ys = ap (λ t. html_byte x ++ t) (html_text-append xs ys) ∙ sym (append_assoc (html_byte x) (html_text xs) (html_text ys))

-- one byte more
pub html_text-more : (bytes : List ℕ) (i : ℕ) → i < length bytes → html_text (take (i + 1) bytes) ≡ html_text (take i bytes) ++ html_byte (get_or bytes i 0)
html_text-more bytes i within =
    ap html_text (take_more bytes i 0 within) ∙ html_text-append (take i bytes) (get_or bytes i 0 ∷ [])
    ∙ ap (λ t. html_text (take i bytes) ++ t) (append-nil (html_byte (get_or bytes i 0)))

either : (t : Bool) (xs ys : List ℕ) → All IsPlain xs → (t ≡ false → All IsPlain ys) → All IsPlain (if t then xs else ys)
either true xs ys p q = p
either false xs ys p q = q refl

more : (b : ℕ) (bs : List ℕ) → (b == 60) ≡ false → (b == 62) ≡ false → (b == 34) ≡ false → All IsPlain bs → All IsPlain (b ∷ bs)
more b bs x y z rest = All-cons IsPlain b bs (eqb-false b 60 x, eqb-false b 62 y, eqb-false b 34 z) rest

none : All IsPlain []
none = All-nil IsPlain

lt-plain : All IsPlain (codes "&lt;")
lt-plain = more 38 (108 ∷ 116 ∷ 59 ∷ []) refl refl refl (more 108 (116 ∷ 59 ∷ []) refl refl refl (more 116 (59 ∷ []) refl refl refl (more 59 [] refl refl refl none)))

gt-plain : All IsPlain (codes "&gt;")
gt-plain = more 38 (103 ∷ 116 ∷ 59 ∷ []) refl refl refl (more 103 (116 ∷ 59 ∷ []) refl refl refl (more 116 (59 ∷ []) refl refl refl (more 59 [] refl refl refl none)))

amp-plain : All IsPlain (codes "&amp;")
amp-plain = more 38 (97 ∷ 109 ∷ 112 ∷ 59 ∷ []) refl refl refl (more 97 (109 ∷ 112 ∷ 59 ∷ []) refl refl refl (more 109 (112 ∷ 59 ∷ []) refl refl refl (more 112 (59 ∷ []) refl refl refl (more 59 [] refl refl refl none))))

quot-plain : All IsPlain (codes "&quot;")
quot-plain = more 38 (113 ∷ 117 ∷ 111 ∷ 116 ∷ 59 ∷ []) refl refl refl (more 113 (117 ∷ 111 ∷ 116 ∷ 59 ∷ []) refl refl refl (more 117 (111 ∷ 116 ∷ 59 ∷ []) refl refl refl (more 111 (116 ∷ 59 ∷ []) refl refl refl (more 116 (59 ∷ []) refl refl refl (more 59 [] refl refl refl none)))))

html_byte-plain : (b : ℕ) → All IsPlain (html_byte b)
html_byte-plain b =
    either (b == 60) (codes "&lt;") (if b == 62 then codes "&gt;" else if b == 38 then codes "&amp;" else if b == 34 then codes "&quot;" else b ∷ []) lt-plain (λ x.
    either (b == 62) (codes "&gt;") (if b == 38 then codes "&amp;" else if b == 34 then codes "&quot;" else b ∷ []) gt-plain (λ y.
    either (b == 38) (codes "&amp;") (if b == 34 then codes "&quot;" else b ∷ []) amp-plain (λ _.
    either (b == 34) (codes "&quot;") (b ∷ []) quot-plain (λ z. more b [] x y z none))))

pub html_text-plain : (bytes : List ℕ) → All IsPlain (html_text bytes)
html_text-plain [] = none
html_text-plain (b ∷ bytes) = All-append IsPlain (html_byte b) (html_text bytes) (html_byte-plain b) (html_text-plain bytes)
