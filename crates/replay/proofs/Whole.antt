-- Each call leaves its recorder standing behind what the history is told; so every run of a fresh recorder keeps the law.
use Rattle.std.proofs.Common.{◌≡◌, ◌≢◌, ℕ, ◌+◌, ◌≤◌, ℤ, inl, inr, Bool, true, false, List, [], ◌∷◌, ◌++◌, map, refl, sym, subst}
use Rattle.std.proofs.Common.{arith}
use Rattle.std.specs.Prelude.{Some, None, Ok, Err, Option, Result}
use Rattle.std.specs.Cmp.{IsTotalOrder}
use Rattle.std.specs.declared.cmp.Ordering.{Ordering}
use Rattle.std.specs.List.{filter, find}
use Rattle.std.specs.Option.{option_to_list}
use Rattle.std.specs.Result.{result_unwrap_or}
use Rattle.std.proofs.lemmas.Bool.Decides.{nat_tests}
use Rattle.std.proofs.lemmas.List.{append-nil, length-replicate}
use Rattle.clocks.specs.Bank.{IsLawful, Meaning, Taken}
use Rattle.clocks.specs.declared.sample.Sample.{Sample}
use Rattle.keys.specs.Order.{IsKeyOrder}
use Rattle.messages.specs.Messages.{MessageNumbers, has_number, is_under_way, message_of}
use Rattle.stamps.specs.Range.{max_counter}
use Rattle.stamps.specs.Rules.{StampedNumbers, event_answer, own_stamp, receipt_stamp}
use Rattle.stamps.specs.Stamp.{Timestamp, zero_stamp}
use Rattle.store.specs.Contents.{Contents}
use Rattle.store.specs.Newest.{IsIn}
use Rattle.history.specs.Events.{Event, Note, Put, Receipt, Send, What}
use Rattle.history.specs.Before.{IsLastSend}
use Rattle.history.specs.History.{Entered, Entry, IsHistory, IsStamped, Setup, events_of, last_stamp}
use Rattle.history.proofs.Lawful.{lawful}
use Rattle.history.proofs.Lists.{each_push, none_passes}
use Rattle.recorder.specs.Answers.{clock_answer, note_answer, put_answer, receipt_answer, send_answer}
use Rattle.stamper.specs.Readings.{at_reading}
use Rattle.recorder.specs.Changes.{after_loss, after_note, after_put, after_receipt, after_send, with_event}
use Rattle.stamper.specs.Readings.{TookReading}
use Rattle.stamper.specs.Settings.{SettingNumbers}
use Rattle.stamper.specs.Stamps.{stamp_at}
use Rattle.recorder.specs.State.{State, fresh_state, is_node}
use Rattle.replay.specs.Calls.{AnswerNumbers, after_call}
use Rattle.replay.specs.Replay.{IsReplayed, end_answer, setup_of, whole_history}
use Rattle.replay.specs.Runs.{IsRun, NoCall, OneMore, TookFor, call_entry, event_entry}
use Rattle.replay.specs.declared.call.Call.{Call}
use Rattle.replay.specs.declared.call.Call.TheVariants as call
use Rattle.replay.specs.declared.replay.Run.{Run}
use Rattle.replay.proofs.Asking.{asked, end_written}
use Rattle.replay.proofs.Standing.{IsAccepted, IsNext, IsSent, StandsBehind, StaysSent, entered, fresh_stands}

-- what a search finds is there, and passes; what a filter keeps was there
module _ {X : Type 0} (test : X → Bool) where
  found_in : (xs : List X) (x : X) → find test xs ≡ Some x → IsIn x xs × (test x ≡ true)
  found_in [] x is = absurd (cc is)
  found_in (y ∷ ys) x is = let more = found_in ys x in grind arith

  kept_in : (xs : List X) (x : X) → IsIn x (filter test xs) → IsIn x xs
  kept_in [] x is_in = elim is_in [ ]
  kept_in (y ∷ ys) x is_in = let more = kept_in ys x in grind arith

module _ {B K : Type 0} (order : K → K → Ordering) (total : IsTotalOrder order) (law : IsKeyOrder order)
    (meaning : B → Meaning) (lawful_bank : (bank : B) → IsLawful (meaning bank)) (setup : Setup) (few : setup.nodes ≤ 16) where
  -- an open recorder stands behind a history
  abbrev Behind : List (Entry K) → State B K → Type 0
  Behind history s = StandsBehind order meaning setup false history s

  module _ {history : List (Entry K)} {s : State B K} (before : Behind history s) where
    -- where nothing is told, nothing changes
    unchanged : Behind (history ++ []) s
    unchanged = rw (append-nil history) before

    -- a sample's node did this, and it got this answer; the bank is then this one
    module _ (beside : Sample → Result ℕ ℕ → B → B → Type 0) (sample : Sample) (bank : B) where
      module _ (what : What K) (answered : StampedNumbers) where
        abbrev the_event : Event K
        the_event = record {
          node = sample.node;
          reading = result_unwrap_or (clock_answer meaning s sample) 0;
          stamp = answered.stamp;
          what = what;
        }

        -- an event that got the stamp of this rule at its reading
        by_rule : {messages : List MessageNumbers} {contents : Contents K} (rule : ℕ → Timestamp)
            → TookReading meaning beside sample (Ok answered) s.bank bank → is_node s sample.node ≡ true
            → at_reading (λ reading. event_answer (rule reading) reading) (clock_answer meaning s sample) ≡ Ok answered
            → (answered.stamp ≡ rule the_event.reading → IsStamped setup.lead (events_of history) the_event what)
            → IsNext order s the_event messages contents
            → Behind (history ++ Entered the_event ∷ []) (with_event s sample.node answered.stamp bank messages contents)
        by_rule rule takes node answer stamped next =
            let clock : clock_answer meaning s sample ≡ Ok the_event.reading = grind (arith, nat_tests, answer) in
            let is : (answered.stamp ≡ rule the_event.reading) × (answered.stamp.counter ≤ max_counter) =
            grind (arith, nat_tests, answer, clock) in
            let accepted : IsAccepted meaning s the_event bank = record {
              node = grind (arith, nat_tests, node);
              raw = sample.raw.0;
              clock = clock;
              taken = subst (λ c. Taken c sample.node (meaning s.bank) (meaning bank)) clock takes.0;
              counter = is.1;
            } in
            entered order meaning setup lawful_bank few before accepted (stamped is.0) next

      -- where it is the answer, the recorder stands so behind what the history is told
      abbrev Then : What K → Result StampedNumbers ℕ → Result StampedNumbers ℕ → State B K → Type 0
      Then what the_answer answer next = the_answer ≡ answer → TookReading meaning beside sample answer s.bank bank
          → Behind (history ++ option_to_list (event_entry order meaning s sample what answer)) next

      -- the rule of an event behind the node's last one
      abbrev own_rule : ℕ → Timestamp
      own_rule = own_stamp (stamp_at s.last sample.node)

      own_last : {stamp : Timestamp} (reading : ℕ) → stamp ≡ own_rule reading
          → stamp ≡ own_stamp (last_stamp (events_of history) sample.node) reading
      own_last reading is = rw (← before.stands.stamps sample.node) is

      note : (answer : Result StampedNumbers ℕ)
          → Then Note (note_answer meaning s sample) answer (after_note s sample answer bank)
      note (Err refusal) is takes = unchanged
      note (Ok event) is takes =
          by_rule Note event own_rule takes (grind (arith, nat_tests, is)) (grind (arith, nat_tests, is)) (own_last _)
          (record { versions = refl; messages_sent = λ m is_in. inl (is_in, λ is. absurd (cc is)) })

      put : (key : K) (value : ℤ) (answer : Result StampedNumbers ℕ)
          → Then (Put key value) (put_answer meaning s sample) answer (after_put s order sample key value answer bank)
      put key value (Err refusal) is takes = unchanged
      put key value (Ok event) is takes =
          by_rule (Put key value) event own_rule takes (grind (arith, nat_tests, is)) (grind (arith, nat_tests, is)) (own_last _)
          (record { versions = refl; messages_sent = λ m is_in. inl (is_in, λ is. absurd (cc is)) })

      -- a message may be sent if none of its number is under way
      send : (to number : ℕ) (answer : Result StampedNumbers ℕ)
          → Then (Send number) (send_answer meaning s sample to number) answer (after_send s sample to number answer bank)
      send to number (Err refusal) is takes = unchanged
      send to number (Ok event) is takes =
          let none : is_under_way number s.messages ≡ false = grind (arith, nat_tests, is) in
          let other : (m : MessageNumbers) → IsIn m s.messages → ◌≢◌ {A = What K} (Send number) (Send m.number) =
          λ m is_in is. grind (arith, nat_tests, is, none_passes (has_number number) m s.messages none is_in) in
          let sent = each_push (StaysSent s.messages (the_event (Send number) event)) _ s.messages
          (λ m is_in. inl (is_in, other m is_in)) (inr (refl, refl)) in
          by_rule (Send number) event own_rule takes (grind (arith, nat_tests, is)) (grind (arith, nat_tests, is)) (own_last _)
          (record { versions = refl; messages_sent = sent })

      -- a message that was found may be received
      receipt : (number : ℕ) (answer : Result StampedNumbers ℕ) (found : Option MessageNumbers)
          → message_of number s.messages ≡ found
          → Then (Receipt number) (receipt_answer meaning s sample number) answer (after_receipt s sample number answer bank)
      receipt number (Err refusal) found finds is takes = unchanged
      receipt number (Ok event) None finds is takes = absurd (grind (arith, nat_tests, is, finds))
      receipt number (Ok event) (Some m) finds is takes =
          let e = the_event (Receipt number) event in
          let rule : ℕ → Timestamp = receipt_stamp (stamp_at s.last sample.node) m.stamp in
          let found = found_in (has_number number) s.messages m finds in
          let same : m.number ≡ number = grind (arith, nat_tests, found.1) in
          let sent : IsSent (events_of history) m = before.messages m found.0 in
          let near : m.stamp.time ≤ e.reading + s.lead = grind (arith, nat_tests, is, finds) in
          by_rule (Receipt number) event rule takes (grind (arith, nat_tests, is)) (grind (arith, nat_tests, is, finds))
          (λ stamp. record {
            send = sent.send;
            last_send = subst (λ n. IsLastSend (events_of history) n sent.send) same sent.last;
            not_ahead = rw (sent.stamp, ← before.stands.the_lead) near;
            by_rule = rw (sent.stamp, ← before.stands.stamps sample.node) stamp;
          })
          (record { versions = refl; messages_sent = λ old is_in. inl (kept_in _ s.messages old is_in, λ is. absurd (cc is)) })

    loss : (number : ℕ) (answer : Result (Unit {0}) ℕ) → Behind (history ++ []) (after_loss s number answer)
    loss number (Err refusal) = unchanged
    loss number (Ok _) = rw (append-nil history) (record {
      written = before.written;
      tells = before.tells;
      stands = before.stands;
      messages = λ m is_in. before.messages m (kept_in _ s.messages m is_in);
    })

    -- any call leaves it standing so
    step : (beside : Sample → Result ℕ ℕ → B → B → Type 0) (c : Call K) (bank : B) → TookFor order meaning beside s c bank
        → Behind (history ++ option_to_list (call_entry order meaning s c)) (after_call order meaning s c bank)
    step beside (call.Note sample) bank takes = note beside sample bank _ refl takes
    step beside (call.Send sample to number) bank takes = send beside sample bank to number _ refl takes
    step beside (call.Receipt sample number) bank takes = receipt beside sample bank number _ _ refl refl takes
    step beside (call.Loss number) bank takes = loss number _
    step beside (call.Put sample key value) bank takes = put beside sample bank key value _ refl takes
    step beside (call.Ask q) bank takes = asked order total law meaning setup before q

  -- so that it does at the end of any run
  pub stands_after : {beside : Sample → Result ℕ ℕ → B → B → Type 0} {start s : State B K} {calls : List (Call K)}
      {answers : List (AnswerNumbers K)} {history : List (Entry K)}
      → Behind [] start → IsRun order meaning beside start calls answers history s → Behind history s
  stands_after fresh NoCall = fresh
  stands_after {beside} {s = next} fresh (OneMore {told = told} {s = s} {c = c} run is) =
      let after = step (stands_after fresh run) beside c next.bank is.reading in
      subst (Behind (told ++ option_to_list (call_entry order meaning s c))) (sym is.change) after

module _ {B K : Type 0} (order : K → K → Ordering) (total : IsTotalOrder order) (law : IsKeyOrder order)
    (meaning : B → Meaning) (lawful_bank : (bank : B) → IsLawful (meaning bank)) where
  pub replayed : (beside : Sample → Result ℕ ℕ → B → B → Type 0) (settings : SettingNumbers) (bank : B) (contents : Contents K)
      → settings.nodes ≤ 16 → contents.versions ≡ []
      → (run : Run K) (during answers : List (AnswerNumbers K)) (told : List (Entry K)) (end : State B K)
      → IsRun order meaning beside (fresh_state settings bank contents) run.calls.items during told end
      → answers ≡ during ++ map (end_answer order meaning run.closes end) run.questions.items
      → IsReplayed order meaning beside (fresh_state settings bank contents) run answers
  replayed beside settings bank contents few empty run during answers told end calls all =
      let setup : Setup = setup_of meaning (fresh_state settings bank contents) in
      let nodes : setup.nodes ≤ 16 = rw (length-replicate settings.nodes zero_stamp) few in
      let fresh = fresh_stands order meaning settings bank contents empty in
      let stands = stands_after order total law meaning lawful_bank setup nodes fresh calls in
      let written : IsHistory order setup (whole_history order meaning run told end) =
      end_written order total law meaning setup run.closes run.questions.items told stands in
      record {
        during = during;
        told = told;
        end = end;
        calls = calls;
        all = all;
        written = written;
        lawful = lawful order setup (whole_history order meaning run told end) written;
      }
