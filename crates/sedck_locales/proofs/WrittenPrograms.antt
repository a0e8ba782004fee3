-- A script and its plain text are one program of written lists.
use Rattle.std.proofs.Common.{◌≡◌, ◌⊎◌, ℕ, Bool, List, [], ◌∷◌, ◌++◌, map, refl, ap, sym, ◌∙◌, subst, append-nil}
use Rattle.std.specs.Prelude.{⊤}
use Rattle.std.proofs.lemmas.List.{map-append}
use Rattle.sedck_commands.specs.Program.{Pattern, Expression, Place, Context, Address, One, Two, Verb, Substitute, Substitution, Command, Program}
use Rattle.sedck_commands.specs.Parts.{IsPatternIn, PlaceText, AddressText}
use Rattle.sedck_commands.specs.Parts as p
use Rattle.sedck_commands.specs.Items.{WrittenVerb, Known, VerbText, CommandText, Item, Items}
use Rattle.sedck_commands.specs.Items as w
use Rattle.sedck_commands.specs.ReadAlike.{read_alike}
use Rattle.sedck_commands.proofs.ReplacementParts.{flags_leave}
use Rattle.sedck_script.specs.Resolution.{ResolvesIn}
use Rattle.sedck_script.specs.Resolution as r
use Rattle.sedck_script.specs.Spelling.{Spells}
use Rattle.sedck_script.proofs.UniqueScripts.{whole_one}
use Rattle.sedck_plain.specs.WrittenLists.{lists_from, command_lists, written_lists}
use Rattle.sedck_plain.specs.declared.written.Position.TheVariants.{Outside}
use Rattle.sedck_plain.specs.Plain.{SpellSame}
use Rattle.sedck_locales.specs.Written.{place_expressions, address_expressions, verb_expressions, command_expressions, written_pattern, written_place, written_address, written_verb, written_commands, IsWrittenAs}
use Rattle.sedck_locales.proofs.WrittenTrees.{written_alike}
use Rattle.sedck_locales.proofs.ListLines.{by_expression}

-- the lists of these expressions, one by one
abbrev lists_of : List (List ℕ) → List (List ℕ)
lists_of es = map (lists_from Outside) es

same_heads : {a b : List ℕ} {u v : List (List ℕ)} → a ∷ u ≡ b ∷ v → (a ≡ b) × (u ≡ v)
same_heads e = (cc e, cc e)

-- ---- The parts of a command

pattern_same : {one other : List ℕ} {pattern : Pattern} (x : IsPatternIn read_alike one pattern) (y : IsPatternIn read_alike other pattern)
    → lists_from Outside one ≡ lists_from Outside other → written_pattern x ≡ written_pattern y
pattern_same p.previous p.previous e = refl
pattern_same (p.expression {b = b} {bytes = bytes} {tree = tree} (s, f)) (p.expression {b = c} {bytes = others} (t, g)) e =
    ap Expression (written_alike (b ∷ bytes) (c ∷ others) tree (s.0, f.0) (t.0, g.0) (ap (λ l. l ++ 10 ∷ []) e))

pattern_along : {one other : List ℕ} {a b : Pattern} → a ≡ b → (x : IsPatternIn read_alike one a) (y : IsPatternIn read_alike other b)
    → lists_from Outside one ≡ lists_from Outside other → written_pattern x ≡ written_pattern y
pattern_along {one} {other} {a} {b} same x =
    subst (λ c. (y : IsPatternIn read_alike other c) → lists_from Outside one ≡ lists_from Outside other → written_pattern x ≡ written_pattern y) same
    (λ y e. pattern_same x y e)

place_same : {text rest other left : List ℕ} {place : Place} (x : PlaceText text place rest) (y : PlaceText other place left) (u v : List (List ℕ))
    → lists_of (place_expressions x) ++ u ≡ lists_of (place_expressions y) ++ v → (written_place x ≡ written_place y) × (u ≡ v)
place_same (p.line n) (p.line m) u v e = (refl, e)
place_same (p.last f) (p.last g) u v e = (refl, e)
place_same (p.context f c x) (p.context g d y) u v e = let both = same_heads e in (ap Context (pattern_same x y both.0), both.1)
place_same (p.context f c x) (p.custom g i d y) u v e = let both = same_heads e in (ap Context (pattern_same x y both.0), both.1)
place_same (p.custom f h c x) (p.context g d y) u v e = let both = same_heads e in (ap Context (pattern_same x y both.0), both.1)
place_same (p.custom f h c x) (p.custom g i d y) u v e = let both = same_heads e in (ap Context (pattern_same x y both.0), both.1)

split_lists : (es fs u : List (List ℕ)) → lists_of (es ++ fs) ++ u ≡ lists_of es ++ (lists_of fs ++ u)
split_lists [] fs u = refl
split_lists (e ∷ es) fs u = ap (λ t. lists_from Outside e ∷ t) (split_lists es fs u)

address_same : {text rest other left : List ℕ} {address : Address} (x : AddressText text address rest) (y : AddressText other address left)
    (u v : List (List ℕ)) → lists_of (address_expressions x) ++ u ≡ lists_of (address_expressions y) ++ v
    → (written_address x ≡ written_address y) × (u ≡ v)
address_same p.none p.none u v e = (refl, e)
address_same (p.one x) (p.one y) u v e = let both = place_same x y u v e in (ap One both.0, both.1)
address_same (p.two x l f m s) (p.two y k g n t) u v e =
    let whole = sym (split_lists (place_expressions x) (place_expressions s) u) ∙ e ∙ split_lists (place_expressions y) (place_expressions t) v in
    let first = place_same x y (lists_of (place_expressions s) ++ u) (lists_of (place_expressions t) ++ v) whole in
    let second = place_same s t u v first.1 in
    (λ i. Two (first.0 i) (second.0 i), second.1)

address_along : {text rest other left : List ℕ} {a b : Address} → a ≡ b → (x : AddressText text a rest) (y : AddressText other b left)
    (u v : List (List ℕ)) → lists_of (address_expressions x) ++ u ≡ lists_of (address_expressions y) ++ v
    → (written_address x ≡ written_address y) × (u ≡ v)
address_along {other = other} {left = left} same x =
    subst (λ c. (y : AddressText other c left) (u v : List (List ℕ)) → lists_of (address_expressions x) ++ u ≡ lists_of (address_expressions y) ++ v
    → (written_address x ≡ written_address y) × (u ≡ v)) same (λ y u v e. address_same x y u v e)

-- the verb of the command is the one that is written
abbrev IsVerb : WrittenVerb → Verb → Type 0
IsVerb (Known v) verb = verb ≡ v
IsVerb _ verb = ⊤

same_substitution : (s t : Substitution) → Substitute s ≡ Substitute t → s ≡ t
same_substitution s t e = cc e

some_list : (a : List ℕ) {u : List (List ℕ)} → a ∷ u ≡ [] → ⊥
some_list a e = cc e

no_list : (a : List ℕ) {u : List (List ℕ)} → [] ≡ a ∷ u → ⊥
no_list a e = cc e

verb_same : {text rest other left : List ℕ} {a b : WrittenVerb} (x : VerbText text a rest) (y : VerbText other b left) (verb : Verb)
    → IsVerb a verb → IsVerb b verb → lists_of (verb_expressions x) ≡ lists_of (verb_expressions y) → written_verb x verb ≡ written_verb y verb
verb_same (w.substitute {substitution = s} f d c x g h k) (w.substitute {substitution = t} f' d' c' y g' h' k') verb is too e =
    let patterns = sym (flags_leave k).0 ∙ ap (λ (z : Substitution). z.pattern) (same_substitution s t (sym is ∙ too)) ∙ (flags_leave k').0 in
    let same = pattern_along patterns x y (same_heads e).0 in
    subst (λ z. written_verb (w.substitute f d c x g h k) z ≡ written_verb (w.substitute f' d' c' y g' h' k') z) (sym is)
    (λ i. Substitute (record s { pattern = same i }))
verb_same (w.substitute f d c x g h k) y verb is too e = absurd (some_list _ e)
verb_same x (w.substitute f d c y g h k) verb is too e = absurd (no_list _ e)
verb_same x y verb is too e = refl

-- ---- Commands

record Piece : Type 0 where
  text : List ℕ
  rest : List ℕ
  address : Address
  negated : Bool
  verb : WrittenVerb
  here : CommandText text address negated verb rest

-- the commands of a text, as they are cut out
abbrev pieces : {text : List ℕ} {items : List Item} → Items text items → List Piece
pieces (w.nothing l) = []
pieces (w.comment l h k n x) = pieces x
pieces (w.closing l h e x) = pieces x
pieces (w.command l c x) = record { text = _; rest = _; address = _; negated = _; verb = _; here = c } ∷ pieces x

abbrev written_command : Piece → Command → Command
written_command q c = record { address = written_address q.here.addresses; negated = c.negated; verb = written_verb q.here.verbs c.verb }

abbrev all_written : List Piece → List Command → List Command
all_written [] cs = []
all_written (q ∷ qs) [] = []
all_written (q ∷ qs) (c ∷ cs) = written_command q c ∷ all_written qs cs

record IsOf (q : Piece) (c : Command) : Type 0 where
  address : c.address ≡ q.address
  verb : IsVerb q.verb c.verb

abbrev AreOf : List Piece → List Command → Type 0
AreOf [] [] = ⊤
AreOf (q ∷ qs) (c ∷ cs) = IsOf q c × AreOf qs cs
AreOf _ _ = ⊥

pieces_lists : {text : List ℕ} {items : List Item} (x : Items text items) → written_lists x ≡ map (λ (q : Piece). command_lists q.here) (pieces x)
pieces_lists (w.nothing l) = refl
pieces_lists (w.comment l h k n x) = pieces_lists x
pieces_lists (w.closing l h e x) = pieces_lists x
pieces_lists (w.command l c x) = ap (λ t. command_lists c ∷ t) (pieces_lists x)

pieces_written : {text : List ℕ} {items : List Item} (x : Items text items) (cs : List Command) → written_commands x cs ≡ all_written (pieces x) cs
pieces_written (w.nothing l) cs = refl
pieces_written (w.comment l h k n x) cs = pieces_written x cs
pieces_written (w.closing l h e x) cs = pieces_written x cs
pieces_written (w.command l c x) [] = refl
pieces_written (w.command l c x) (d ∷ cs) =
    ap (λ t. record { address = written_address c.addresses; negated = d.negated; verb = written_verb c.verbs d.verb } ∷ t) (pieces_written x cs)

pieces_of : {text : List ℕ} {items : List Item} {all cs : List Command} {bs : List ℕ} {k : ℕ} (x : Items text items) → ResolvesIn read_alike all bs k items cs
    → AreOf (pieces x) cs
pieces_of (w.nothing l) r.done = tt
pieces_of (w.comment l h k n x) s = pieces_of x s
pieces_of (w.closing l h e x) (r.closing f s) = pieces_of x s
pieces_of (w.command l c x) (r.known s) = (record { address = refl; verb = refl }, pieces_of x s)
pieces_of (w.command l c x) (r.jump target may leads s) = (record { address = refl; verb = tt }, pieces_of x s)
pieces_of (w.command l c x) (r.opening deep s) = (record { address = refl; verb = tt }, pieces_of x s)

command_same : (q o : Piece) (c : Command) → IsOf q c → IsOf o c → command_lists q.here ≡ command_lists o.here → written_command q c ≡ written_command o c
command_same q o c of also e =
    let es = address_expressions q.here.addresses in
    let fs = address_expressions o.here.addresses in
    let us = verb_expressions q.here.verbs in
    let vs = verb_expressions o.here.verbs in
    let lists = by_expression q.text q.rest o.text o.rest q.address o.address q.negated o.negated q.verb o.verb q.here o.here e in
    let parts : lists_of es ++ lists_of us ≡ lists_of fs ++ lists_of vs =
    sym (map-append (lists_from Outside) es us) ∙ lists ∙ map-append (lists_from Outside) fs vs in
    let addresses = address_along (sym of.address ∙ also.address) q.here.addresses o.here.addresses (lists_of us) (lists_of vs) parts in
    let verbs = verb_same q.here.verbs o.here.verbs c.verb of.verb also.verb addresses.1 in
    λ i. record { address = addresses.0 i; negated = c.negated; verb = verbs i }

all_same : (qs os : List Piece) (cs : List Command) → AreOf qs cs → AreOf os cs
    → map (λ (q : Piece). command_lists q.here) qs ≡ map (λ (q : Piece). command_lists q.here) os → all_written qs cs ≡ all_written os cs
all_same [] [] cs of also e = refl
all_same (q ∷ qs) (o ∷ os) (c ∷ cs) of also e =
    let both = same_heads e in
    let first = command_same q o c of.0 also.0 both.0 in
    let rest = all_same qs os cs of.1 also.1 both.1 in
    λ i. first i ∷ rest i
all_same (q ∷ qs) (o ∷ os) [] of also e = absurd of
all_same [] (o ∷ os) cs of also e = absurd (no_list _ e)
all_same (q ∷ qs) [] cs of also e = absurd (some_list _ e)

-- ---- Programs

commands_same : {script text : List ℕ} {program : Program} (s : Spells script program) (t : Spells text program)
    → written_lists s.spelled ≡ written_lists t.spelled → written_commands s.spelled program.commands ≡ written_commands t.spelled program.commands
commands_same {program = program} s t e =
    pieces_written s.spelled program.commands
    ∙ all_same (pieces s.spelled) (pieces t.spelled) program.commands (pieces_of s.spelled s.commands.resolved) (pieces_of t.spelled t.commands.resolved)
    (sym (pieces_lists s.spelled) ∙ e ∙ pieces_lists t.spelled)
    ∙ sym (pieces_written t.spelled program.commands)

-- a reading of the script as the program, of which q is the one of written lists
abbrev Reading : List ℕ → Program → Program → Type 0
Reading script q a = (s : Spells script a) × (q ≡ record { commands = written_commands s.spelled a.commands; quiet = a.quiet })

one_way : (script text : List ℕ) (p q : Program) → Spells script p → Spells text p
    → ((s : Spells script p) (t : Spells text p) → written_lists s.spelled ≡ written_lists t.spelled) → IsWrittenAs script q → IsWrittenAs text q
one_way script text p q s t lists h =
    let mine : Reading script q p = subst (Reading script q) (whole_one h.spelled s) (h.spelled, h.is) in
    record {
      program = p;
      spelled = t;
      is = mine.1 ∙ ap (λ cs. record { commands = cs; quiet = p.quiet }) (commands_same mine.0 t (lists mine.0 t));
    }

pub written_same : (script text : List ℕ) → SpellSame script text → (q : Program) → (IsWrittenAs script q → IsWrittenAs text q) × (IsWrittenAs text q → IsWrittenAs script q)
written_same script text h q = (
  one_way script text h.program q h.spelled h.same (λ s t. h.lists s.items t.items s.spelled t.spelled),
  one_way text script h.program q h.same h.spelled (λ s t. sym (h.lists t.items s.items t.spelled s.spelled)),
)
