-- Trace clocks leave a recorder no choice: its answers to any calls, what the history is told, and how it stands then.
use Rattle.std.proofs.Common.{◌≡◌, ℕ, inl, inr, List, [], ◌∷◌, ◌++◌, map, Ok, Err, Result, refl, ap, ◌∙◌, subst, append_assoc, sym}
use Rattle.std.proofs.Common.{arith}
use Rattle.std.specs.declared.cmp.Ordering.{Ordering}
use Rattle.std.proofs.lemmas.Bool.{cases_eq}
use Rattle.std.proofs.lemmas.Bool.Decides.{nat_tests}
use Rattle.std.proofs.lemmas.List.{append-nil, length-replicate}
use Rattle.std.specs.Option.{option_to_list}
use Rattle.clocks.specs.Bank.{Meaning, Taken}
use Rattle.clocks.specs.Highs.{fresh_highs, raised_high}
use Rattle.clocks.specs.TraceClocks.{fresh_trace, trace_meaning}
use Rattle.clocks.specs.declared.sample.Sample.{Sample}
use Rattle.history.specs.History.{Entry, IsHistory, Setup}
use Rattle.history.specs.Law.{IsLawful}
use Rattle.recorder.specs.Answers.{clock_answer}
use Rattle.stamper.specs.Readings.{TookReading}
use Rattle.recorder.specs.State.{State, fresh_state}
use Rattle.replay.specs.Calls.{AnswerNumbers, after_call, answer_numbers, call_answer}
use Rattle.replay.specs.Replay.{GainsAnswers, end_answer, end_entries, setup_of}
use Rattle.replay.specs.Runs.{IsRun, IsCalled, NoCall, OneMore, TookFor, call_entry}
use Rattle.replay.specs.declared.call.Answer.{Answer}
use Rattle.replay.specs.declared.call.Call.{Call}
use Rattle.replay.specs.declared.call.Call.TheVariants as call
use Rattle.replay.specs.declared.replay.Run.{Run}
use Rattle.stamps.specs.Rules.{StampedNumbers}
use Rattle.stamps.specs.Stamp.{zero_stamp}
use Rattle.store.specs.Contents.{Contents}
use Rattle.trace_replay.specs.Machine.{clocks_of, highs_after, trace_answers, trace_end, trace_told}
use Rattle.trace_replay.specs.Traced.{HasPlaces, IsTraced, first_state, history_setup, run_history}
use Rattle.trace_run.specs.SetUp.{SetUpNumbers}

-- the same recorder, its bank told by the highest reading of each node
abbrev pub by_highs : {B K : Type 0} → (B → ℕ → ℕ) → State B K → State (ℕ → ℕ) K
by_highs highs s =
    record { lead = s.lead; bank = highs s.bank; last = s.last; messages = s.messages; contents = s.contents }

module _ {B K : Type 0} (order : K → K → Ordering) (highs : B → ℕ → ℕ) (backstep : B → ℕ) where
  abbrev meaning : B → Meaning
  meaning bank = trace_meaning (highs bank) (backstep bank)

  module _ (s : State B K) where
    abbrev with_highs : State (ℕ → ℕ) K
    with_highs = by_highs highs s

    abbrev clocks : (ℕ → ℕ) → Meaning
    clocks highs = trace_meaning highs (backstep s.bank)

    -- what a call answers and changes, the highs tell
    same_answer : (c : Call K) → call_answer order meaning s c ≡ call_answer order clocks with_highs c
    same_answer (call.Note sample) = refl
    same_answer (call.Send sample to number) = refl
    same_answer (call.Receipt sample number) = refl
    same_answer (call.Loss number) = refl
    same_answer (call.Put sample key value) = refl
    same_answer (call.Ask question) = refl

    -- where the bank is then this one
    module _ (bank : B) where
      same_change : (c : Call K)
          → by_highs highs (after_call order meaning s c bank) ≡ after_call order clocks with_highs c (highs bank)
      same_change (call.Note sample) = grind arith
      same_change (call.Send sample to number) = grind arith
      same_change (call.Receipt sample number) = grind arith
      same_change (call.Loss number) = grind arith
      same_change (call.Put sample key value) = grind arith
      same_change (call.Ask question) = refl

      -- it has these highs, and kept its backstep
      abbrev HasThen : (ℕ → ℕ) → Type 0
      HasThen those = (highs bank ≡ those) × (backstep bank ≡ backstep s.bank)

      stays : bank ≡ s.bank → HasThen (highs s.bank)
      stays same = (ap highs same, ap backstep same)

      module _ (beside : Sample → Result ℕ ℕ → B → B → Type 0) (sample : Sample) where
        -- an event that was accepted has its raw number as its reading
        abbrev raised_for : Result StampedNumbers ℕ → ℕ → ℕ
        raised_for (Ok event) = raised_high sample.node sample.raw.0 (highs s.bank)
        raised_for (Err refusal) = highs s.bank

        takes : (answer : Result StampedNumbers ℕ)
            → ((event : StampedNumbers) → answer ≡ Ok event → clock_answer meaning s sample ≡ Ok sample.raw.0)
            → TookReading meaning beside sample answer s.bank bank → HasThen (raised_for answer)
        takes (Err refusal) reads same = stays same
        takes (Ok event) reads taken =
            let took = subst (λ a. Taken a sample.node (meaning s.bank) (meaning bank)) (reads event refl) taken.0 in
            let high : (node : ℕ) → highs bank node ≡ raised_for (Ok event) node = λ node. elim (cases_eq node sample.node) [
              | inl same ↦ rw same (grind (arith, nat_tests, took.0.high))
              | inr other ↦ grind (arith, nat_tests, other, ap (λ c. c.high) (took.1 node other))
            ] in
            (λ i node. high node i, took.0.backstep)

      taken_bank : (beside : Sample → Result ℕ ℕ → B → B → Type 0) (c : Call K) → TookFor order meaning beside s c bank
          → HasThen (highs_after order (backstep s.bank) with_highs c)
      taken_bank beside (call.Note sample) = takes beside sample _ (λ event is. grind (arith, nat_tests, is))
      taken_bank beside (call.Send sample to number) = takes beside sample _ (λ event is. grind (arith, nat_tests, is))
      taken_bank beside (call.Receipt sample number) = takes beside sample _ (λ event is. grind (arith, nat_tests, is))
      taken_bank beside (call.Loss number) = stays
      taken_bank beside (call.Put sample key value) = takes beside sample _ (λ event is. grind (arith, nat_tests, is))
      taken_bank beside (call.Ask question) = stays

  -- what the history is told of a call, the highs tell
  same_entry : (s : State B K) (c : Call K)
      → call_entry order meaning s c ≡ call_entry order (clocks s) (with_highs s) c
  same_entry s (call.Note sample) = refl
  same_entry s (call.Send sample to number) = refl
  same_entry s (call.Receipt sample number) = refl
  same_entry s (call.Loss number) = refl
  same_entry s (call.Put sample key value) = refl
  same_entry s (call.Ask question) = refl

  -- From `start`, whose backstep was this one and is kept, these calls led to `s`: with these answers, and this told.
  record Follows (kept : ℕ) (start : State B K) (calls : List (Call K)) (answers : List (AnswerNumbers K))
      (told : List (Entry K)) (s : State B K) : Type 0 where
    backstep_kept : backstep s.bank ≡ kept
    answers_are : (rest : List (Call K)) → answers ++ trace_answers order kept (by_highs highs s) rest
        ≡ trace_answers order kept (by_highs highs start) (calls ++ rest)
    told_is : (rest : List (Call K)) → told ++ trace_told order kept (by_highs highs s) rest
        ≡ trace_told order kept (by_highs highs start) (calls ++ rest)
    end_is : (rest : List (Call K)) → trace_end order kept (by_highs highs s) rest
        ≡ trace_end order kept (by_highs highs start) (calls ++ rest)

  step : {beside : Sample → Result ℕ ℕ → B → B → Type 0} {s next : State B K} {c : Call K} {a : AnswerNumbers K}
      → IsCalled order meaning beside s c a next
      → Follows (backstep s.bank) s (c ∷ []) (a ∷ []) (option_to_list (call_entry order meaning s c)) next
  step {beside} {s} {next} {c} is =
      let bank = taken_bank s next.bank beside c is.reading in
      let change = ap (by_highs highs) is.change ∙ same_change s next.bank c
      ∙ ap (after_call order (clocks s) (by_highs highs s) c) bank.0 in
      record {
        backstep_kept = bank.1;
        answers_are = λ rest. rw (is.answer, same_answer s c, change) refl;
        told_is = λ rest. rw (same_entry s c, change) refl;
        end_is = λ rest. rw change refl;
      }

  follows : {beside : Sample → Result ℕ ℕ → B → B → Type 0} {start end : State B K} {calls : List (Call K)}
      {answers : List (AnswerNumbers K)} {told : List (Entry K)}
      → IsRun order meaning beside start calls answers told end → Follows (backstep start.bank) start calls answers told end
  follows NoCall =
      record { backstep_kept = refl; answers_are = λ rest. refl; told_is = λ rest. refl; end_is = λ rest. refl }
  follows {end = next} (OneMore {calls} {answers} {told} {s = s} {c = c} {a} run is) =
      let before = follows run in
      let entry = option_to_list (call_entry order meaning s c) in
      let one = subst (λ kept. Follows kept s (c ∷ []) (a ∷ []) entry next) before.backstep_kept (step is) in
      let more : (rest : List (Call K)) → calls ++ c ∷ rest ≡ (calls ++ c ∷ []) ++ rest =
      λ rest. sym (append_assoc calls (c ∷ []) rest) in
      record {
        backstep_kept = one.backstep_kept;
        answers_are = λ rest. append_assoc answers (a ∷ []) _ ∙ ap (λ z. answers ++ z) (one.answers_are rest)
            ∙ before.answers_are (c ∷ rest) ∙ ap (trace_answers order _ (by_highs highs _)) (more rest);
        told_is = λ rest. append_assoc told entry _ ∙ ap (λ z. told ++ z) (one.told_is rest) ∙ before.told_is (c ∷ rest)
            ∙ ap (trace_told order _ (by_highs highs _)) (more rest);
        end_is = λ rest. one.end_is rest ∙ before.end_is (c ∷ rest) ∙ ap (trace_end order _ (by_highs highs _)) (more rest);
      }

-- What a run of such a bank comes to, these highs and this backstep say.
record IsTold {K : Type 0} (order : K → K → Ordering) (kept : ℕ) (start end : State (ℕ → ℕ) K) (calls : List (Call K))
    (answers : List (AnswerNumbers K)) (told : List (Entry K)) : Type 0 where
  answers_are : answers ≡ trace_answers order kept start calls
  told_is : told ≡ trace_told order kept start calls
  end_is : end ≡ trace_end order kept start calls

-- Where a bank means trace clocks, with these highs and this backstep, a run comes to what these give.
traced : {B K : Type 0} {beside : Sample → Result ℕ ℕ → B → B → Type 0} (order : K → K → Ordering) (meaning : B → Meaning)
    (highs : B → ℕ → ℕ) (backstep : B → ℕ)
    → ((bank : B) → meaning bank ≡ trace_meaning (highs bank) (backstep bank))
    → (start : State B K) (calls : List (Call K)) (answers : List (AnswerNumbers K)) (told : List (Entry K)) (end : State B K)
    → IsRun order meaning beside start calls answers told end
    → IsTold order (backstep start.bank) (by_highs highs start) (by_highs highs end) calls answers told
traced {beside = beside} order meaning highs backstep shaped start calls answers told end run =
    let as_shaped = subst (λ m. IsRun order m beside start calls answers told end) (λ i bank. shaped bank i) run in
    let all = follows order highs backstep as_shaped in
    record {
      answers_are = rw (append-nil answers, append-nil calls) at (all.answers_are []);
      told_is = rw (append-nil told, append-nil calls) at (all.told_is []);
      end_is = rw (append-nil calls) at (all.end_is []);
    }

module _ {B K : Type 0} (order : K → K → Ordering) (meaning : B → Meaning)
    (shaped : (bank : B) → meaning bank ≡ trace_meaning (λ node. (meaning bank node).high) (meaning bank 0).backstep)
    (setup : SetUpNumbers) (bank : B) (contents : Contents K) (fresh : meaning bank ≡ fresh_trace setup.backstep)
    (room : HasPlaces contents) where
  -- the highs of a bank
  abbrev highs_of : B → ℕ → ℕ
  highs_of b node = (meaning b node).high

  abbrev begun : State B K
  begun = fresh_state setup.settings bank contents

  -- so from clocks of which nothing was taken yet, as a call of `replay` begins
  traced_from_fresh : {beside : Sample → Result ℕ ℕ → B → B → Type 0} (calls : List (Call K))
      (answers : List (AnswerNumbers K)) (told : List (Entry K)) (end : State B K)
      → IsRun order meaning beside begun calls answers told end
      → IsTold order setup.backstep (first_state setup) (by_highs highs_of end) calls answers told
  traced_from_fresh calls answers told end run =
      subst (λ (c : Contents K). IsTold order setup.backstep (fresh_state setup.settings fresh_highs c)
      (by_highs highs_of end) calls answers told) room
      (subst (λ m. IsTold order (m 0).backstep (fresh_state setup.settings (λ node. (m node).high) contents)
      (by_highs highs_of end) calls answers told) fresh
      (traced order meaning highs_of (λ b. (meaning b 0).backstep) shaped begun calls answers told end run))

  same_setup : setup_of meaning begun ≡ history_setup setup
  same_setup =
      let with_nodes : ℕ → Meaning → Setup =
      λ nodes m. record { nodes = nodes; lead = begun.lead; backstep = λ node. (m node).backstep } in
      ap (λ nodes. with_nodes nodes (meaning bank)) (length-replicate setup.settings.nodes zero_stamp)
      ∙ ap (with_nodes setup.settings.nodes) fresh

  -- what `replay` adds to a list of answers that has none
  pub answers_traced : {beside : Sample → Result ℕ ℕ → B → B → Type 0} (run : Run K) (before after : List (Answer K))
      → before ≡ [] → GainsAnswers order meaning beside begun run before after
      → IsTraced order setup run.calls.items run.closes run.questions.items (map answer_numbers after)
  answers_traced run before after none g =
      let r = g.replayed in
      let t = traced_from_fresh run.calls.items r.during r.told r.end r.calls in
      let questions = run.questions.items in
      let first : State (ℕ → ℕ) K = first_state setup in
      let gained : after ≡ g.gained = g.list ∙ ap (λ (held : List (Answer _)). held ++ g.gained) none in
      let all = run_history order setup run.calls.items run.closes questions in
      let history : r.told ++ end_entries order meaning run.closes r.end questions ≡ all =
      ap (λ told. told ++ end_entries order meaning run.closes r.end questions) t.told_is
      ∙ ap (λ end. trace_told order setup.backstep first run.calls.items
      ++ end_entries order (clocks_of setup.backstep) run.closes end questions) t.end_is in
      record {
        answers_are = ap (map answer_numbers) gained ∙ r.all
            ∙ ap (λ during. during ++ map (end_answer order meaning run.closes r.end) questions) t.answers_are
            ∙ ap (λ end. trace_answers order setup.backstep first run.calls.items
            ++ map (end_answer order (clocks_of setup.backstep) run.closes end) questions) t.end_is;
        written = subst (λ s. IsHistory order s all) same_setup
            (subst (IsHistory order (setup_of meaning begun)) history r.written);
        lawful = subst (λ s. IsLawful order s all) same_setup
            (subst (IsLawful order (setup_of meaning begun)) history r.lawful);
      }
