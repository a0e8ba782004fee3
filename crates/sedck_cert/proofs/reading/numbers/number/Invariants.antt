use Rattle.sedck_cert.proofs.Common.{◌≡◌, ◌≤◌, take, AllDigits, digits_value}
use Rattle.sedck_cert.proofs.reading.numbers.number.Given as goal

-- the value of the digits so far
abbrev pub invariant-loop-byte : goal.invariant-loop-byte
invariant-loop-byte l =
    AllDigits 10 (take l.byte-index l.text) × (l.value ≡ digits_value 10 (take l.byte-index l.text)) × (l.value ≤ l.most)
