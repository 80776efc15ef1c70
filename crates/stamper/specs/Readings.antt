-- What becomes of a clock's reading.
use Rattle.std.specs.Prelude.{◌≡◌, ◌<◌, ◌≤◌, ℕ, if◌then◌else◌, length, nat_lt, Ok, Err, Result}
use Rattle.clocks.specs.Bank.{Meaning, Taken, look_answer}
use Rattle.clocks.specs.declared.sample.Sample.{Sample}
use Rattle.stamps.specs.Rules.{StampedNumbers}
use Rattle.stamper.specs.Stamps.{Stamping}

-- the rule's answer at the clock's reading; the clock's refusal comes first
abbrev pub at_reading : (ℕ → Result StampedNumbers ℕ) → Result ℕ ℕ → Result StampedNumbers ℕ
at_reading rule (Ok reading) = rule reading
at_reading rule (Err number) = Err number

-- whether the clock answers a reading
abbrev pub taken_answer : Result ℕ ℕ → Result (Unit {0}) ℕ
taken_answer (Ok reading) = Ok tt
taken_answer (Err number) = Err number

-- whether an event may be entered: 7, then the clock's 8 or 9
abbrev pub enter_answer : {B : Type 0} → (B → Meaning) → Stamping B → Sample → Result (Unit {0}) ℕ
enter_answer meaning s sample =
    (if nat_lt sample.node (length s.last)
    then taken_answer (look_answer (meaning s.bank) sample.node sample.raw.0)
    else Err 7)

-- An event that answered so took its reading from the bank, which did what else a take of its kind does; a refused one left the
-- bank alone.
abbrev pub TookReading : {B : Type 0} (meaning : B → Meaning) (beside : Sample → Result ℕ ℕ → B → B → Type 0)
    → Sample → Result StampedNumbers ℕ → B → B → Type 0
TookReading meaning beside sample (Ok event) old new =
    let reading : Result ℕ ℕ = look_answer (meaning old) sample.node sample.raw.0 in
    Taken reading sample.node (meaning old) (meaning new) × beside sample reading old new
TookReading meaning beside sample (Err number) old new = new ≡ old

-- Whether the event is entered or refused: where so many nodes have it, the bank did what else a take of its kind does when it
-- answers so; where they have not, the bank was left alone.
abbrev pub WasAsked : {B : Type 0} (meaning : B → Meaning) (beside : Sample → Result ℕ ℕ → B → B → Type 0)
    (nodes : ℕ) → Sample → B → B → Type 0
WasAsked meaning beside nodes sample old new =
    (sample.node < nodes → beside sample (look_answer (meaning old) sample.node sample.raw.0) old new)
    × (nodes ≤ sample.node → new ≡ old)
