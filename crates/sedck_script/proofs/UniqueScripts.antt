-- A text spells one program at most.
use Rattle.sedck_script.proofs.Common.{◌≡◌, Bool, true, false, ℕ, List, refl, sym, Program, SpellsIn, items_one, Narrowings}
use Rattle.sedck_script.proofs.UniqueCommands.{commands_one}

same_tests : (a b : Bool) → (a ≡ true → b ≡ true) → (b ≡ true → a ≡ true) → a ≡ b
same_tests true b f g = sym (f refl)
same_tests false true f g = g refl
same_tests false false f g = refl

pub whole_one : {asks : Narrowings} {text : List ℕ} {x y : Program} → SpellsIn asks text x → SpellsIn asks text y → x ≡ y
whole_one {x = x} {y = y} s t =
    let same : t.items ≡ s.items = items_one t.spelled s.spelled in
    let commands : x.commands ≡ y.commands = commands_one s.commands.resolved (rw same at t.commands.resolved) t.commands.labels in
    let quiet : x.quiet ≡ y.quiet = same_tests x.quiet y.quiet (λ e. t.quiet.1 (s.quiet.0 e)) (λ e. s.quiet.1 (t.quiet.0 e)) in
    λ i. record { commands = commands i; quiet = quiet i }
