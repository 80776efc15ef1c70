-- A sequence of takes gains one at its end; and highs only rise while backsteps stay, so no reading falls too far.
use Rattle.std.proofs.Common.{◌≡◌, ℕ, zero, suc, ◌+◌, ◌<◌, ◌≤◌, max, ◌≢◌, List, [], ◌∷◌, ◌++◌, length, Ok, Err, Result, sym, refl}
use Rattle.std.proofs.Common.{ap, ◌∙◌, subst, arith}
use Rattle.std.proofs.lemmas.Bool.Decides.{nat_tests}
use Rattle.refusals.specs.declared.refusal.Refusal.{Refusal}
use Rattle.clocks.specs.Bank.{Meaning, IsAllowed, IsLawful, Taken, look_answer}
use Rattle.clocks.specs.Runs.{Take, Step, Run, BankRun, KeepsBacksteps, take_of, takes_of, take_at}
use Rattle.clocks.specs.declared.reading.Reading.{Reading}
use Rattle.clocks.specs.declared.sample.Sample.{Sample}

-- one sample more at the end
pub bank_run_more : {B : Type 0} (meaning : B → Meaning) (beside : Sample → Result ℕ ℕ → B → B → Type 0)
    (samples : List Sample) (answers : List (Result Reading Refusal)) (old new next : B) (s : Sample) (a : Result Reading Refusal)
    → length answers ≡ length samples → BankRun meaning beside old samples answers new
    → Step (meaning new) (take_of s a) (meaning next) → beside s (take_of s a).answer new next → IsLawful (meaning next)
    → BankRun meaning beside old (samples ++ s ∷ []) (answers ++ a ∷ []) next
bank_run_more meaning beside [] [] old new next s a same run step more law = (
  run.0,
  (
    next,
    subst (λ b. Step (meaning b) (take_of s a) (meaning next)) run.1 step,
    subst (λ b. beside s (take_of s a).answer b next) run.1 more,
    (law, refl),
  ),
)
bank_run_more meaning beside [] (b ∷ answers) old new next s a same run step more law = absurd (omega arith)
bank_run_more meaning beside (x ∷ samples) [] old new next s a same run step more law = absurd (omega arith)
bank_run_more meaning beside (x ∷ samples) (b ∷ answers) old new next s a same run step more law =
    let first = run.1 in (
      run.0,
      (
        first.0,
        first.1,
        first.2,
        bank_run_more meaning beside samples answers first.0 new next s a (omega arith) first.3 step more law,
      ),
    )

-- what it means, take by take
pub run_of : {B : Type 0} (meaning : B → Meaning) (beside : Sample → Result ℕ ℕ → B → B → Type 0)
    (samples : List Sample) (answers : List (Result Reading Refusal)) (old new : B)
    → BankRun meaning beside old samples answers new → Run (meaning old) (takes_of samples answers) (meaning new)
run_of meaning beside [] answers old new run = (run.0, ap meaning run.1)
run_of meaning beside (x ∷ samples) [] old new run = (run.0, ap meaning run.1)
run_of meaning beside (x ∷ samples) (b ∷ answers) old new run =
    let first = run.1 in
    (run.0, (meaning first.0, first.1, run_of meaning beside samples answers first.0 new first.3))

-- a take lowers no high and changes no backstep
record OnlyRises (old new : Meaning) (k : ℕ) : Type 0 where
  high : (old k).high ≤ (new k).high
  backstep : (new k).backstep ≡ (old k).backstep

taken_rises : (a : Result ℕ ℕ) (old new : Meaning) (node k : ℕ) → Taken a node old new → OnlyRises old new k
taken_rises (Err e) old new node k same =
    let high : (new k).high ≡ (old k).high = ap (λ m. (m k).high) same in
    record { high = omega arith; backstep = ap (λ m. (m k).backstep) same }
taken_rises (Ok r) old new node k taken =
    let other_high : k ≢ node → (new k).high ≡ (old k).high = λ ne. ap (λ c. c.high) (taken.1 k ne) in
    let other_backstep : k ≢ node → (new k).backstep ≡ (old k).backstep = λ ne. ap (λ c. c.backstep) (taken.1 k ne) in
    record { high = grind (arith, taken.0.high, other_high); backstep = grind (arith, taken.0.backstep, other_backstep) }

-- a reading that a lawful bank answers
above_high : (m : Meaning) (node raw r : ℕ) → IsLawful m → Ok r ≡ look_answer m node raw → (m node).high ≤ r + (m node).backstep
above_high m node raw r law answer =
    let low : node < 16 = grind (arith, nat_tests) in
    let is : (m node).answer raw ≡ Ok r = grind (arith, nat_tests) in
    let allowed : IsAllowed (m node) (Ok r) = rw is at (law.answers node raw low) in
    allowed.1

-- every reading of a run keeps to the high before the run
keeps_high : (takes : List Take) (old new : Meaning) (j r : ℕ) → Run old takes new → (take_at takes j).answer ≡ Ok r
    → (old (take_at takes j).node).high ≤ r + (old (take_at takes j).node).backstep
keeps_high [] old new j r run answer = let z : ◌≡◌ {A = ℕ} 0 1 = cc in absurd (omega arith)
keeps_high (t ∷ takes) old new zero r run answer = above_high old t.node t.raw r run.0 (sym answer ∙ run.1.1.answer)
keeps_high (t ∷ takes) old new (suc j) r run answer =
    let first = run.1 in
    let later = keeps_high takes first.0 new j r first.2 answer in
    let rises = taken_rises t.answer old first.0 t.node (take_at takes j).node first.1.change in
    omega (arith, rises.high, rises.backstep)

pub run_keeps_backsteps : (takes : List Take) (old new : Meaning) → Run old takes new
    → KeepsBacksteps (λ node. (old node).backstep) takes
run_keeps_backsteps [] old new run i j p q lt same e f = let z : ◌≡◌ {A = ℕ} 0 1 = cc in absurd (omega arith)
run_keeps_backsteps (t ∷ takes) old new run zero zero p q lt same e f = absurd (omega arith)
run_keeps_backsteps (t ∷ takes) old new run (suc i) zero p q lt same e f = absurd (omega arith)
run_keeps_backsteps (t ∷ takes) old new run zero (suc j) p q lt same e f =
    let first = run.1 in
    let later = keeps_high takes first.0 new j q first.2 f in
    let rises = taken_rises t.answer old first.0 t.node (take_at takes j).node first.1.change in
    let taken : Taken (Ok p) t.node old first.0 = rw e at first.1.change in
    let high : (first.0 (take_at takes j).node).high ≡ max (old (take_at takes j).node).high p = rw same at taken.0.high in
    omega (arith, rises.backstep)
run_keeps_backsteps (t ∷ takes) old new run (suc i) (suc j) p q lt same e f =
    let first = run.1 in
    let rises = taken_rises t.answer old first.0 t.node (take_at takes j).node first.1.change in
    let rest = run_keeps_backsteps takes first.0 new first.2 i j p q (omega arith) same e f in
    omega (arith, rises.backstep)
