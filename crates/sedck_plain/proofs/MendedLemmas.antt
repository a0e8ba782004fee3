-- Parts of a script beside those of the text that was given, a byte or two further.
use Rattle.std.proofs.Common.{◌≡◌, ◌≢◌, ℕ, Bool, true, false, inl, inr, List, ◌∷◌, ◌++◌, Option, Some, None, IfSome, Bor, ◌<◌, length, refl, sym, arith}
use Rattle.std.specs.Prelude.{MatchOption}
use Rattle.sedck_plain.specs.WrittenLists.{is_in_list}
use Rattle.sedck_plain.specs.Mended.{IsPartKept, IsPartGiven, IsForItself, IsExpressionGiven, IsReplacementGiven, IsAddressGiven, IsCommandGiven, is_exchanged, is_passed, position_after}
use Rattle.sedck_plain.specs.Mended as m
use Rattle.sedck_plain.specs.Private.Escapes.{IsEscapeGiven}
use Rattle.sedck_plain.specs.declared.written.Position.{Position}

-- ---- Of an expression that both have

pub kept_end : (d b c : ℕ) (part text more behind : List ℕ) → part ≡ b ∷ more → text ≡ c ∷ behind → b ≡ c → b ≡ d → IsPartKept d part text more behind
kept_end d b c part text more behind is_part is_text same is = rw is_part (rw is_text (rw (sym same) (rw is m.ends)))

pub kept_byte : (d b c : ℕ) (part text more behind rest left : List ℕ) → part ≡ b ∷ more → text ≡ c ∷ behind → b ≡ c → b ≢ d → b ≢ 92
    → IsPartKept d more behind rest left → IsPartKept d part text rest left
kept_byte d b c part text more behind rest left is_part is_text same other plain x = rw is_part (rw is_text (rw (sym same) (m.byte other plain x)))

pub kept_pair : (d b c e f : ℕ) (part text more behind later beyond rest left : List ℕ) → part ≡ b ∷ more → text ≡ c ∷ behind → b ≡ c → b ≡ 92
    → more ≡ e ∷ later → behind ≡ f ∷ beyond → e ≡ f → IsPartKept d later beyond rest left → IsPartKept d part text rest left
kept_pair d b c e f part text more behind later beyond rest left is_part is_text same is is_more is_behind both x =
    rw is_part (rw is_text (rw (sym same) (rw is_more (rw is_behind (rw (sym both) (m.pair is x))))))

-- ---- Of one with another delimiter

pub given_end : (lists : Bool) (given other : ℕ) (position : Position) (b c : ℕ) (part text more behind : List ℕ) → part ≡ b ∷ more → text ≡ c ∷ behind
    → is_in_list position ≡ false → b ≡ other → c ≡ given → IsPartGiven lists given other position part text more behind
given_end lists given other position b c part text more behind is_part is_text outside is_other is_given =
    rw is_part (rw is_text (rw is_other (rw is_given (m.ends outside))))

pub given_byte : (lists : Bool) (given other : ℕ) (position next : Position) (b c : ℕ) (part text more behind rest left : List ℕ) → part ≡ b ∷ more
    → text ≡ c ∷ behind → b ≡ c → b ≢ other → IsForItself given position c → next ≡ position_after lists position b
    → IsPartGiven lists given other next more behind rest left → IsPartGiven lists given other position part text rest left
given_byte lists given other position next b c part text more behind rest left is_part is_text same no_other itself is_next x =
    let y : IsPartGiven lists given other (position_after lists position b) more behind rest left = rw (sym is_next) x in
    let same_itself : IsForItself given position b = rw same itself in
    rw is_part (rw is_text (rw (sym same) (m.byte no_other same_itself y)))

pub given_escape : (lists : Bool) (given other : ℕ) (position : Position) (c b : ℕ) (part text behind more beyond rest left : List ℕ) → text ≡ c ∷ behind
    → c ≡ 92 → behind ≡ b ∷ beyond → is_in_list position ≡ false → IsEscapeGiven given other b part more
    → IsPartGiven lists given other position more beyond rest left → IsPartGiven lists given other position part text rest left
given_escape lists given other position c b part text behind more beyond rest left is_text is is_behind outside (inl escaped) x =
    rw escaped.2 (rw is_text (rw is_behind (m.escaped outside is escaped.0 escaped.1 x)))
given_escape lists given other position c b part text behind more beyond rest left is_text is is_behind outside (inr pair) x =
    rw pair.2 (rw is_text (rw is_behind (rw is (m.pair outside refl pair.1 pair.0 x))))

pub escape_shorter : (given other b : ℕ) (part more : List ℕ) → IsEscapeGiven given other b part more → length more < length part
escape_shorter given other b part more (inl escaped) = rw escaped.2 (omega arith)
escape_shorter given other b part more (inr pair) = rw pair.2 (omega arith)

-- ---- Of a command

pub some_stripped : (text front : List ℕ) (r : Option (Bor (List ℕ))) (Q : Bor (List ℕ) → Type 0)
    → MatchOption r ((rest : List ℕ) → text ≢ front ++ rest) (λ x. text ≡ front ++ x.now) → ((x : Bor (List ℕ)) → text ≡ front ++ x.now → Q x) → IfSome r Q
some_stripped text front (Some x) Q is q = q x is
some_stripped text front None Q is q = tt

pub address_same : (a b other : ℕ) (part text inside behind begin rest left : List ℕ) → part ≡ other ∷ begin → text ≡ a ∷ inside → a ≡ 92 → inside ≡ b ∷ behind
    → b ≡ other → IsPartKept other begin behind rest left
    → (delimiter : ℕ) × (from : List ℕ) × (part ≡ delimiter ∷ from) × IsAddressGiven delimiter from text rest left
address_same a b other part text inside behind begin rest left is_part is_text is is_inside same x =
    (other, begin, is_part, rw is_text (rw is_inside (m.same is same x)))

pub address_slash : (a other : ℕ) (part text inside begin rest left : List ℕ) → part ≡ other ∷ begin → text ≡ a ∷ inside → a ≡ 47
    → IsExpressionGiven 47 other begin inside rest left
    → (delimiter : ℕ) × (from : List ℕ) × (part ≡ delimiter ∷ from) × IsAddressGiven delimiter from text rest left
address_slash a other part text inside begin rest left is_part is_text is x = (other, begin, is_part, rw is_text (m.slash is x))

pub address_custom : (a b other : ℕ) (part text inside behind begin rest left : List ℕ) → part ≡ other ∷ begin → text ≡ a ∷ inside → a ≡ 92
    → inside ≡ b ∷ behind → is_exchanged b ≡ true → IsExpressionGiven b other begin behind rest left
    → (delimiter : ℕ) × (from : List ℕ) × (part ≡ delimiter ∷ from) × IsAddressGiven delimiter from text rest left
address_custom a b other part text inside behind begin rest left is_part is_text is is_inside exchanged x =
    (other, begin, is_part, rw is_text (rw is_inside (m.custom is exchanged x)))

pub command_same : (command text rest : List ℕ) → text ≡ command ++ rest → IsCommandGiven command text rest
command_same command text rest is = rw is m.same

pub command_passed : (a b : ℕ) (command text part behind rest : List ℕ) → command ≡ a ∷ part → text ≡ b ∷ behind → a ≡ b → is_passed a ≡ true
    → IsCommandGiven part behind rest → IsCommandGiven command text rest
command_passed a b command text part behind rest is_command is_text same passed x = rw is_command (rw is_text (rw (sym same) (m.passed passed x)))

pub command_slash : (a b : ℕ) (command text part behind more left rest : List ℕ) → command ≡ a ∷ part → text ≡ b ∷ behind → a ≡ b → a ≡ 47
    → IsPartKept 47 part behind more left → IsCommandGiven more left rest → IsCommandGiven command text rest
command_slash a b command text part behind more left rest is_command is_text same slash kept x =
    rw is_command (rw is_text (rw (sym same) (m.slash slash kept x)))

pub command_custom : (a : ℕ) (command text part more left rest : List ℕ) → command ≡ a ∷ part → a ≡ 92
    → (delimiter : ℕ) × (from : List ℕ) × (part ≡ delimiter ∷ from) × IsAddressGiven delimiter from text more left
    → IsCommandGiven more left rest → IsCommandGiven command text rest
command_custom a command text part more left rest is_command is address x = rw is_command (rw address.2 (m.custom is address.3 x))

pub command_substitute : (sign given other : ℕ) (part text expression inside replacement between flags behind rest : List ℕ) → part ≡ other ∷ expression
    → text ≡ sign ∷ given ∷ inside → sign ≡ 115 → is_exchanged given ≡ true → IsExpressionGiven given other expression inside replacement between
    → IsReplacementGiven given other replacement between flags behind → behind ≡ flags ++ rest → IsCommandGiven (115 ∷ part) text rest
command_substitute sign given other part text expression inside replacement between flags behind rest is_part is_text is_s exchanged first second is =
    let whole : IsReplacementGiven given other replacement between flags (flags ++ rest) = rw (sym is) second in
    rw is_part (rw is_text (rw is_s (m.substitute refl exchanged first whole)))
