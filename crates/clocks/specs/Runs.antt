-- Sequences of takes, and what holds of every one.
use Rattle.std.specs.Prelude.{◌≡◌, ℕ, ◌+◌, ◌<◌, ◌≤◌, List, [], ◌∷◌, ◌++◌, length, Ok, Err, Result, slice_index_or}
use Rattle.refusals.specs.Refusals.{result_map, shown}
use Rattle.refusals.specs.declared.refusal.Refusal.{Refusal}
use Rattle.clocks.specs.Bank.{Meaning, IsLawful, Taken, look_answer}
use Rattle.clocks.specs.Reading.{millis_of}
use Rattle.clocks.specs.declared.reading.Reading.{Reading}
use Rattle.clocks.specs.declared.sample.Sample.{Sample}

-- One take: what was asked, and what was answered.
pub record Take : Type 0 where
  pub node : ℕ
  pub raw : ℕ
  pub answer : Result ℕ ℕ

-- what was asked of a sample, with its answer
abbrev pub take_of : Sample → Result Reading Refusal → Take
take_of s a = record { node = s.node; raw = s.raw.0; answer = shown (result_map millis_of a) }

-- the samples that were asked, each with its answer
abbrev pub takes_of : List Sample → List (Result Reading Refusal) → List Take
takes_of [] answers = []
takes_of (s ∷ samples) [] = []
takes_of (s ∷ samples) (a ∷ answers) = take_of s a ∷ takes_of samples answers

-- A bank that means `old` answers this take, and then means `new`.
pub record Step (old : Meaning) (take : Take) (new : Meaning) : Type 0 where
  pub answer : take.answer ≡ look_answer old take.node take.raw
  pub change : Taken take.answer take.node old new

-- A bank answers these takes one after another, which leads it from the meaning `old` to `new`. Its law holds all along.
abbrev pub Run : Meaning → List Take → Meaning → Type 0
Run old [] new = IsLawful old × (new ≡ old)
Run old (t ∷ takes) new = IsLawful old × ((next : Meaning) × Step old t next × Run next takes new)

-- A bank answers these samples so, one after another, which leads it from `old` to `new`: each take changes what the bank
-- means, and does beside that what the kind of bank says of one take.
abbrev pub BankRun : {B : Type 0} → (B → Meaning) → (Sample → Result ℕ ℕ → B → B → Type 0) → B → List Sample
    → List (Result Reading Refusal) → B → Type 0
BankRun meaning beside old [] answers new = IsLawful (meaning old) × (new ≡ old)
BankRun meaning beside old (s ∷ samples) [] new = IsLawful (meaning old) × (new ≡ old)
BankRun {B} meaning beside old (s ∷ samples) (a ∷ answers) new =
    IsLawful (meaning old)
    × ((next : B)
    × Step (meaning old) (take_of s a) (meaning next)
    × beside s (take_of s a).answer old next
    × BankRun meaning beside next samples answers new)

-- the take at a place, counted from 0; there is no reading behind the last
abbrev pub take_at : List Take → ℕ → Take
take_at takes i = slice_index_or takes i (record { node = 0; raw = 0; answer = Err 0 })

-- No reading is below an earlier one of the same node by more than the node's backstep.
abbrev pub KeepsBacksteps : (ℕ → ℕ) → List Take → Type 0
KeepsBacksteps backstep takes =
    (i j earlier later : ℕ) → i < j
    → (take_at takes i).node ≡ (take_at takes j).node
    → (take_at takes i).answer ≡ Ok earlier
    → (take_at takes j).answer ≡ Ok later
    → earlier ≤ later + backstep (take_at takes j).node

-- Every sample was taken once: the list `before` gained an answer for each, as the bank `old` gives them, which is then `new`.
pub record TookAll {B : Type 0} (meaning : B → Meaning) (beside : Sample → Result ℕ ℕ → B → B → Type 0) (old new : B)
    (samples : List Sample) (before after : List (Result Reading Refusal)) : Type 0 where
  pub gained : List (Result Reading Refusal)
  pub list : after ≡ before ++ gained
  pub each : length gained ≡ length samples
  pub bank : BankRun meaning beside old samples gained new
  pub run : Run (meaning old) (takes_of samples gained) (meaning new)
  pub law : KeepsBacksteps (λ node. (meaning old node).backstep) (takes_of samples gained)
