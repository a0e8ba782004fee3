-- What two reads of a file gave, one after the other, and the status of what was read.
use Rattle.sedck_calls_in_files.proofs.Common.{◌≡◌, ◌∙◌, ◌+◌, ◌≤◌, ℕ, Bool, true, false, inl, inr, List, ◌++◌, length, Option, Some, None, IfSome, refl, sym, ap, subst, arith, true≢false, AskedOfCalls, known_bytes, Status, TextStatus, PathStatus, IsHeldAt, ContentsStatus}
use Rattle.std.proofs.Common.{IsTrue, codes, length-append}
use Rattle.std.proofs.lemmas.List.{length-take, take_all}
use Rattle.std.specs.Io.KnownBytes.{Consumes}
use Rattle.std.specs.Str.{bytes_eq}
use Rattle.sedck_engines.specs.Inputs.{IsRead}
use Rattle.sedck_engines.specs.Opened.{Known}
use Rattle.sedck_explanation.proofs.KnownBytes.{file_bytes}
use Rattle.sedck_calls_in_files.specs.Scanned.{Holds}
use Rattle.sedck_calls_in_files.specs.Private.Contents.{IsContents}
use Rattle.sedck_calls_in_files.specs.declared.reading.Contents.{Contents}
use Rattle.sedck_calls_in_files.specs.declared.reading.Contents.TheVariants.{Text, Other, TooLong, Unopened, Unreadable}

-- where it is no longer than what is read, all of it was read
all_read : (left mid : Option (List ℕ)) (head rest : List ℕ) → Consumes left mid head → IsRead 16384 left head → IsRead 4177921 mid rest
    → length (head ++ rest) ≤ 4194304 → IfSome left (λ bytes. head ++ rest ≡ bytes)
all_read None mid head rest taken is_head is_rest within = tt
all_read (Some bytes) None head rest taken is_head is_rest within = absurd taken
all_read (Some bytes) (Some more) head rest taken is_head is_rest within =
    let whole : length bytes ≡ length head + length more = ap length taken ∙ length-append head more in
    let front = ap length is_head.prefix ∙ length-take 16384 bytes in
    let back = ap length is_rest.prefix ∙ length-take 4177921 more in
    let both = length-append head rest in
    let small : length more ≤ 4177921 = omega (arith, whole, front, back, both, within) in
    ap (λ r. head ++ r) (is_rest.prefix ∙ take_all 4177921 more small) ∙ sym taken

-- it is a text
pub text_read : (left mid : Option (List ℕ)) (head rest added text : List ℕ) → Consumes left mid head → IsRead 16384 left head
    → IsRead 4177921 mid rest → text ≡ head ++ added → added ≡ rest → length text ≤ 4194304 → IfSome left (λ bytes. text ≡ bytes)
text_read None mid head rest added text taken is_head is_rest is same within = tt
text_read (Some bytes) mid head rest added text taken is_head is_rest is same within =
    let whole : text ≡ head ++ rest = is ∙ ap (λ r. head ++ r) same in
    whole ∙ all_read (Some bytes) mid head rest taken is_head is_rest (subst (λ t. length t ≤ 4194304) whole within)

-- what is held at a path: nothing is known of standard input
pub held_input : (k : Known) (path : List ℕ) (left : Option (List ℕ)) (failed : Bool) (c : Contents) → bytes_eq path (codes "-") ≡ true
    → IsContents true left failed c → IsHeldAt k path c
held_input k path left failed (Text kind text) is held = rw is tt
held_input k path left failed Other is held = absurd (true≢false held)
held_input k path left failed TooLong is held = tt
held_input k path left failed Unopened is held = absurd held
held_input k path left failed Unreadable is held = inr (rw is refl)

-- and of an open file what is known of its path
pub held_file : (k : Known) (path : List ℕ) (left : Option (List ℕ)) (failed : Bool) (c : Contents) → bytes_eq path (codes "-") ≡ false
    → IfSome (k.bytes_at path) (λ bytes. left ≡ Some bytes) → (IsTrue failed → k.may_fail) → IsContents true left failed c → IsHeldAt k path c
held_file k path left failed (Text kind text) is same fails held = of_known (known_bytes k path) left (file_bytes k path left is same) held
  where
    of_known : (known left : Option (List ℕ)) → IfSome known (λ bytes. left ≡ Some bytes) → IfSome left (λ bytes. text.items ≡ bytes)
        → IfSome known (λ bytes. text.items ≡ bytes)
    of_known None left same held = tt
    of_known (Some bytes) left same held = subst (λ l. IfSome l (λ bytes. text.items ≡ bytes)) same held
held_file k path left failed Other is same fails held = absurd (true≢false held)
held_file k path left failed TooLong is same fails held = tt
held_file k path left failed Unopened is same fails held = absurd held
held_file k path left failed Unreadable is same fails held = inl (fails held)

-- the status of what is at a path
pub held_status : (k : Known) (found : List ℕ → List ℕ → Option Holds) (asked : AskedOfCalls) (path : List ℕ) (c : Contents) (status : Status)
    → IsHeldAt k path c → ContentsStatus (found path) asked c status → PathStatus k found asked path status
held_status k found asked path (Text kind text) status held has = inr (inr (of_known (known_bytes k path) held))
  where
    of_known : (known : Option (List ℕ)) → IfSome known (λ bytes. text.items ≡ bytes) → IfSome known (λ bytes. TextStatus (found path bytes) asked bytes status)
    of_known None held = tt
    of_known (Some bytes) held = subst (λ text. TextStatus (found path text) asked text status) held has
held_status k found asked path Other status held has = absurd held
held_status k found asked path TooLong status held has = inl has
held_status k found asked path Unopened status held has = inl has
held_status k found asked path Unreadable status held has = inl has
