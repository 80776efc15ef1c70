-- What is known between two takes of a sequence.
use Rattle.std.proofs.Common.{◌≡◌, ℕ, ◌+◌, ◌<◌, ◌≤◌, List, [], ◌∷◌, ◌++◌, length, get_or, take, Result, sym, ap, ◌∙◌, subst}
use Rattle.std.proofs.Common.{append_assoc, arith, length-append, take_all}
use Rattle.std.proofs.lemmas.List.{take_more, length-take-le}
use Rattle.refusals.specs.declared.refusal.Refusal.{Refusal}
use Rattle.clocks.specs.Bank.{Meaning, IsLawful}
use Rattle.clocks.specs.Runs.{BankRun, Run, Step, TookAll, take_of, takes_of}
use Rattle.clocks.specs.declared.reading.Reading.{Reading}
use Rattle.clocks.specs.declared.sample.Sample.{Sample}
use Rattle.clocks.proofs.RunLemmas.{bank_run_more, run_of, run_keeps_backsteps}

module _ {B : Type 0} (meaning : B → Meaning) (beside : Sample → Result ℕ ℕ → B → B → Type 0) where
  -- the list was `before` and is `now`, and the bank was `old` and is `new`, after the first i samples
  pub record Taking (old new : B) (samples : List Sample) (i : ℕ) (before now : List (Result Reading Refusal)) : Type 0 where
    pub gained : List (Result Reading Refusal)
    pub list : now ≡ before ++ gained
    pub each : length gained ≡ i
    pub run : BankRun meaning beside old (take i samples) gained new

  -- one sample more
  pub goes_on : (old new next : B) (samples : List Sample) (i : ℕ) (d : Sample) (before now after : List (Result Reading Refusal))
      (a : Result Reading Refusal)
      → i < length samples → Taking old new samples i before now
      → Step (meaning new) (take_of (get_or samples i d) a) (meaning next)
      → beside (get_or samples i d) (take_of (get_or samples i d) a).answer new next → IsLawful (meaning next)
      → after ≡ now ++ a ∷ []
      → Taking old next samples (i + 1) before after
  goes_on old new next samples i d before now after a low so_far step more law gains =
      let gained : List (Result Reading Refusal) = so_far.gained in
      let len : length (take i samples) ≡ i = length-take-le i samples (omega arith) in
      record {
        gained = gained ++ a ∷ [];
        list = gains ∙ (ap (λ z. z ++ a ∷ []) so_far.list ∙ append_assoc before gained (a ∷ []));
        each = omega (arith, length-append gained (a ∷ []), so_far.each);
        run = subst (λ z. BankRun meaning beside old z (gained ++ a ∷ []) next) (sym (take_more samples i d low))
            (bank_run_more meaning beside (take i samples) gained old new next (get_or samples i d) a (so_far.each ∙ sym len)
            so_far.run step more law);
      }

  -- behind the last sample
  pub took : (old new : B) (samples : List Sample) (i : ℕ) (start before now : List (Result Reading Refusal))
      → before ≡ start → length samples ≤ i → i ≤ length samples → Taking old new samples i before now
      → TookAll meaning beside old new samples start now
  took old new samples i start before now same all last so_far =
      let bank : BankRun meaning beside old samples so_far.gained new =
      subst (λ z. BankRun meaning beside old z so_far.gained new) (take_all i samples all) so_far.run in
      let run : Run (meaning old) (takes_of samples so_far.gained) (meaning new) =
      run_of meaning beside samples so_far.gained old new bank in
      record {
        gained = so_far.gained;
        list = so_far.list ∙ ap (λ z. z ++ so_far.gained) same;
        each = omega (arith, so_far.each);
        bank = bank;
        run = run;
        law = run_keeps_backsteps (takes_of samples so_far.gained) (meaning old) (meaning new) run;
      }
