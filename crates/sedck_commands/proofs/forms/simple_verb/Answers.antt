use Rattle.sedck_commands.proofs.Common.{ℕ, sym, subst, ◌≡◌, Simple, verb_of}
use Rattle.sedck_commands.specs.Items as s
use Rattle.sedck_commands.specs.Program as clean
use Rattle.sedck_commands.specs.declared.types.Verb.{Verb}
use Rattle.sedck_commands.proofs.forms.simple_verb.Goals as goal
use Rattle.sedck_commands.proofs.forms.simple_verb.Goals.{in-61, in-100, in-68, in-103, in-71, in-104, in-72, in-108, in-110, in-78, in-112, in-80, in-113, in-120}

here : {b c : ℕ} {verb : clean.Verb} → b ≡ c → Simple c verb → Simple b verb
here {verb = verb} e x = subst (λ k. Simple k verb) (sym e) x

made : (b : ℕ) {one other : Verb} → one ≡ other → Simple b (verb_of other) → Simple b (verb_of one)
made b e x = subst (λ v. Simple b (verb_of v)) (sym e) x

pub returns-clause-some : goal.returns-clause-some
returns-clause-some c =
    elim c.match-byte.branch [
      | in-61 w ↦ made c.args.byte w.verb-is (here w.in-61.is s.line_number)
      | in-100 w ↦ made c.args.byte w.verb-is (here w.in-100.is s.delete)
      | in-68 w ↦ made c.args.byte w.verb-is (here w.in-68.is s.delete_first_line)
      | in-103 w ↦ made c.args.byte w.verb-is (here w.in-103.is s.get)
      | in-71 w ↦ made c.args.byte w.verb-is (here w.in-71.is s.get_append)
      | in-104 w ↦ made c.args.byte w.verb-is (here w.in-104.is s.hold)
      | in-72 w ↦ made c.args.byte w.verb-is (here w.in-72.is s.hold_append)
      | in-108 w ↦ made c.args.byte w.verb-is (here w.in-108.is s.list)
      | in-110 w ↦ made c.args.byte w.verb-is (here w.in-110.is s.next)
      | in-78 w ↦ made c.args.byte w.verb-is (here w.in-78.is s.next_append)
      | in-112 w ↦ made c.args.byte w.verb-is (here w.in-112.is s.print)
      | in-80 w ↦ made c.args.byte w.verb-is (here w.in-80.is s.print_first_line)
      | in-113 w ↦ made c.args.byte w.verb-is (here w.in-113.is s.quit)
      | in-120 w ↦ made c.args.byte w.verb-is (here w.in-120.is s.exchange)
    ]
