-- What a call of a trace leaves as it is: the last stamps only rise, and what a node puts is above its last stamp.
use Rattle.std.proofs.Common.{◌≡◌, ℕ, ◌<◌, ◌≤◌, inl, inr, List, [], ◌∷◌, ◌++◌, length, Some, None, Ok, Err, Option, Result, refl}
use Rattle.std.proofs.Common.{◌∙◌, arith}
use Rattle.std.specs.Cmp.{IsTotalOrder}
use Rattle.std.specs.declared.cmp.Ordering.{Ordering}
use Rattle.std.proofs.lemmas.Bool.{cases_eq, cases_lt}
use Rattle.std.proofs.lemmas.Bool.Decides.{nat_tests}
use Rattle.std.proofs.lemmas.List.{get_or-set_other, get_or-set_same, length-set}
use Rattle.clocks.specs.Bank.{Meaning}
use Rattle.clocks.specs.declared.sample.Sample.{Sample}
use Rattle.history.proofs.SameVersions.{AreSameUpTo, pages_alike}
use Rattle.keys.specs.Order.{IsKeyOrder}
use Rattle.messages.specs.Messages.{MessageNumbers, message_of}
use Rattle.recorder.specs.Answers.{clock_answer, loss_answer, note_answer, put_answer, receipt_answer, send_answer}
use Rattle.recorder.specs.Changes.{after_loss, after_note, after_put, after_receipt, after_send}
use Rattle.recorder.specs.State.{IsBehind, State}
use Rattle.replay.specs.declared.call.Call.{Call}
use Rattle.replay.specs.declared.call.Call.TheVariants as call
use Rattle.stamper.specs.Readings.{at_reading}
use Rattle.stamper.specs.Stamps.{stamp_at, with_last}
use Rattle.stamps.specs.Range.{max_counter}
use Rattle.stamps.specs.Rules.{StampedNumbers, event_answer, own_stamp, receipt_stamp}
use Rattle.stamps.specs.Stamp.{Timestamp, code_of, zero_stamp}
use Rattle.store.specs.Contents.{Contents}
use Rattle.store.specs.Newest.{IsIn}
use Rattle.store.specs.Page.{page}
use Rattle.store.specs.Versions.{IsSorted, with_version}
use Rattle.store.specs.declared.version.Version.{Version}
use Rattle.store.proofs.Adding.{in_with_version, no_id, sorted_with_version}
use Rattle.store.proofs.PageInWords.{only_page, page_is}
use Rattle.trace_replay.specs.Machine.{behind_call, clocks_of, highs_after, trace_end}

-- A node's last stamp may become this one: it is later.
record IsLater (last : List Timestamp) (node : ℕ) (stamp : Timestamp) : Type 0 where
  inside : node < length last
  later : code_of (stamp_at last node) < code_of stamp
  counter : stamp.counter ≤ max_counter

-- a rule that gives later stamps gives an event one
later_by : (rule : ℕ → Timestamp) (code : ℕ) (clock : Result ℕ ℕ) (event : StampedNumbers)
    → ((reading : ℕ) → code < code_of (rule reading))
    → at_reading (λ reading. event_answer (rule reading) reading) clock ≡ Ok event
    → (code < code_of event.stamp) × (event.stamp.counter ≤ max_counter)
later_by rule code (Ok reading) event ahead is =
    (grind (arith, nat_tests, is, ahead reading), grind (arith, nat_tests, is))
later_by rule code (Err refusal) event ahead is = absurd (cc is)

-- a stamp that is later than another that is one has the higher code
later_code : (s t : Timestamp) → s.time ≤ t.time → (s.time ≡ t.time → s.counter < t.counter) → s.counter ≤ max_counter
    → code_of s < code_of t
later_code s t time counter fits = elim (cases_lt s.time t.time) [
  | inl less ↦ omega (arith, less, fits)
  | inr not_less ↦
      let same : s.time ≡ t.time = omega (arith, time, not_less) in
      omega (arith, same, counter same)
]

own_later : (last : Timestamp) (reading : ℕ) → last.counter ≤ max_counter → code_of last < code_of (own_stamp last reading)
own_later last reading fits =
    later_code last (own_stamp last reading) (omega arith) (λ same. grind (arith, nat_tests)) fits

receipt_later : (last sent : Timestamp) (reading : ℕ) → last.counter ≤ max_counter
    → code_of last < code_of (receipt_stamp last sent reading)
receipt_later last sent reading fits =
    later_code last (receipt_stamp last sent reading) (omega arith) (λ same. grind (arith, nat_tests)) fits

-- the last stamp of each node has reached this code
abbrev pub HaveReached : List Timestamp → ℕ → Type 0
HaveReached last code = (node : ℕ) → node < length last → code ≤ code_of (stamp_at last node)

module _ {K : Type 0} (order : K → K → Ordering) where
  -- The last stamps are stamps; no version is above that of its node; and the versions are in order.
  pub record AreSound (last : List Timestamp) (contents : Contents K) : Type 0 where
    pub counters : (node : ℕ) → (stamp_at last node).counter ≤ max_counter
    pub behind : IsBehind last contents
    pub sorted : IsSorted order contents.versions

  -- What came next is sound too, and a code that all had reached they have reached, with the same page.
  pub record GoesOn (last : List Timestamp) (contents : Contents K) (next : List Timestamp)
      (contents_then : Contents K) : Type 0 where
    pub sound : AreSound next contents_then
    pub reached : (code : ℕ) → HaveReached last code → HaveReached next code
    pub page : (code : ℕ) → HaveReached last code → page order contents_then.versions code ≡ page order contents.versions code

  module _ (total : IsTotalOrder order) (law : IsKeyOrder order) {last : List Timestamp} {contents : Contents K}
      (sound : AreSound last contents) where
    nothing_new : GoesOn last contents last contents
    nothing_new = record { sound = sound; reached = λ code is. is; page = λ code is. refl }

    module _ (node : ℕ) (stamp : Timestamp) (later : IsLater last node stamp) where
      abbrev next : List Timestamp
      next = with_last node stamp last

      counters_then : (n : ℕ) → (stamp_at next n).counter ≤ max_counter
      counters_then n = elim (cases_eq n node) [
        | inl same ↦ rw (same, get_or-set_same last node stamp zero_stamp later.inside) later.counter
        | inr other ↦ rw (get_or-set_other last node n stamp zero_stamp other) (sound.counters n)
      ]

      code_then : (n : ℕ) → code_of (stamp_at last n) ≤ code_of (stamp_at next n)
      code_then n = elim (cases_eq n node) [
        | inl same ↦ rw (same, get_or-set_same last node stamp zero_stamp later.inside) (omega (arith, later.later))
        | inr other ↦ rw (get_or-set_other last node n stamp zero_stamp other) (omega arith)
      ]

      behind_then : (v : Version K) → IsIn v contents.versions → v.stamp ≤ code_of (stamp_at next v.node)
      behind_then v is_in = omega (arith, sound.behind v is_in, code_then v.node)

      reached_then : (code : ℕ) → HaveReached last code → HaveReached next code
      reached_then code is n inside =
          omega (arith, is n (omega (arith, inside, length-set last node stamp)), code_then n)

      -- an event that is no put
      event_more : GoesOn last contents next contents
      event_more = record {
        sound = record { counters = counters_then; behind = behind_then; sorted = sound.sorted };
        reached = reached_then;
        page = λ code is. refl;
      }

      -- a put of this version
      module _ (v : Version K) (at_node : v.node ≡ node) (of_stamp : v.stamp ≡ code_of stamp) where
        abbrev with_put : Contents K
        with_put = record { versions = with_version order v contents.versions; capacity = contents.capacity }

        sorted_then : IsSorted order with_put.versions
        sorted_then = sorted_with_version order total v contents.versions sound.sorted
            (no_id order v contents.versions (λ w is_in same.
            let old : w.stamp ≤ code_of (stamp_at last node) = rw (← at_node, ← same) (sound.behind w is_in) in
            omega (arith, old, later.later, of_stamp)))

        last_then : code_of (stamp_at next v.node) ≡ code_of stamp
        last_then = rw (at_node, get_or-set_same last node stamp zero_stamp later.inside) refl

        version_behind : IsBehind next with_put
        version_behind w is_in = elim ((in_with_version order w v contents.versions).1 is_in) [
          | inl here ↦ rw here (omega (arith, of_stamp, last_then))
          | inr there ↦ behind_then w there
        ]

        -- it is above each code that all had reached
        same_below : (code : ℕ) → HaveReached last code → AreSameUpTo code with_put.versions contents.versions
        same_below code is = record {
          there = λ w below is_in. elim ((in_with_version order w v contents.versions).1 is_in) [
            | inl here ↦
                let same : w.stamp ≡ v.stamp = rw here refl in
                absurd (omega (arith, below, same, of_stamp, later.later, is node later.inside))
            | inr there ↦ there
          ];
          back = λ w below is_in. (in_with_version order w v contents.versions).0 (inr is_in);
        }

        put_more : GoesOn last contents next with_put
        put_more = record {
          sound = record { counters = counters_then; behind = version_behind; sorted = sorted_then };
          reached = reached_then;
          page = λ code is. (only_page order total law contents.versions code sound.sorted).only _
              ((pages_alike order (same_below code is) _).0 (page_is order total law with_put.versions code sorted_then));
        }

module _ {K : Type 0} (order : K → K → Ordering) (total : IsTotalOrder order) (law : IsKeyOrder order) (backstep : ℕ) where
  abbrev clocks : (ℕ → ℕ) → Meaning
  clocks = clocks_of backstep

  abbrev pub IsSound : State (ℕ → ℕ) K → Type 0
  IsSound s = AreSound order s.last s.contents

  abbrev pub Onward : State (ℕ → ℕ) K → State (ℕ → ℕ) K → Type 0
  Onward s next = GoesOn order s.last s.contents next.last next.contents

  module _ (s : State (ℕ → ℕ) K) (sound : IsSound s) where
    -- an event at its own node's reading, and one that received a message
    own : (sample : Sample) (event : StampedNumbers) → sample.node < length s.last
        → let rule : ℕ → Timestamp = own_stamp (stamp_at s.last sample.node) in
        at_reading (λ reading. event_answer (rule reading) reading) (clock_answer clocks s sample) ≡ Ok event
        → IsLater s.last sample.node event.stamp
    own sample event inside is =
        let last = stamp_at s.last sample.node in
        let by = later_by (own_stamp last) (code_of last) (clock_answer clocks s sample) event
        (λ reading. own_later last reading (sound.counters sample.node)) is in
        record { inside = inside; later = by.0; counter = by.1 }

    received : (sample : Sample) (number : ℕ) (found : Option MessageNumbers) (event : StampedNumbers)
        → message_of number s.messages ≡ found → receipt_answer clocks s sample number ≡ Ok event
        → IsLater s.last sample.node event.stamp
    received sample number None event finds is = absurd (grind (arith, nat_tests, is, finds))
    received sample number (Some m) event finds is =
        let last = stamp_at s.last sample.node in
        let by = later_by (receipt_stamp last m.stamp) (code_of last) (clock_answer clocks s sample) event
        (λ reading. receipt_later last m.stamp reading (sound.counters sample.node)) (grind (arith, nat_tests, is, finds)) in
        record { inside = grind (arith, nat_tests, is); later = by.0; counter = by.1 }

    -- where an event that was accepted goes on, and one that was refused changes nothing
    on_by : (answer : Result StampedNumbers ℕ) (behind : Result StampedNumbers ℕ → State (ℕ → ℕ) K)
        → ((event : StampedNumbers) → answer ≡ Ok event → Onward s (behind (Ok event)))
        → ((refusal : ℕ) → Onward s (behind (Err refusal))) → Onward s (behind answer)
    on_by (Ok event) behind accepted refused = accepted event refl
    on_by (Err refusal) behind accepted refused = refused refusal

    abbrev same : Onward s s
    same = nothing_new order total law sound

    loss_on : (number : ℕ) (answer : Result (Unit {0}) ℕ) → Onward s (after_loss s number answer)
    loss_on number (Ok _) = same
    loss_on number (Err refusal) = same

    abbrev highs : Call K → ℕ → ℕ
    highs = highs_after order backstep s

    pub call_on : (c : Call K) → Onward s (behind_call order backstep s c)
    call_on (call.Note sample) =
        on_by (note_answer clocks s sample) (λ answer. after_note s sample answer (highs (call.Note sample)))
        (λ event is. event_more order total law sound sample.node event.stamp
        (own sample event (grind (arith, nat_tests, is)) (grind (arith, nat_tests, is)))) (λ refusal. same)
    call_on (call.Send sample to number) =
        on_by (send_answer clocks s sample to number)
        (λ answer. after_send s sample to number answer (highs (call.Send sample to number)))
        (λ event is. event_more order total law sound sample.node event.stamp
        (own sample event (grind (arith, nat_tests, is)) (grind (arith, nat_tests, is)))) (λ refusal. same)
    call_on (call.Receipt sample number) =
        on_by (receipt_answer clocks s sample number)
        (λ answer. after_receipt s sample number answer (highs (call.Receipt sample number)))
        (λ event is. event_more order total law sound sample.node event.stamp
        (received sample number _ event refl is)) (λ refusal. same)
    call_on (call.Loss number) = loss_on number (loss_answer s number)
    call_on (call.Put sample key value) =
        on_by (put_answer clocks s sample)
        (λ answer. after_put s order sample key value answer (highs (call.Put sample key value)))
        (λ event is. put_more order total law sound sample.node event.stamp
        (own sample event (grind (arith, nat_tests, is)) (grind (arith, nat_tests, is))) _ refl refl) (λ refusal. same)
    call_on (call.Ask question) = same

  -- so along any calls
  pub calls_on : (calls : List (Call K)) (s : State (ℕ → ℕ) K) → IsSound s → Onward s (trace_end order backstep s calls)
  calls_on [] s sound = nothing_new order total law sound
  calls_on (c ∷ calls) s sound =
      let one = call_on s sound c in
      let more = calls_on calls (behind_call order backstep s c) one.sound in
      record {
        sound = more.sound;
        reached = λ code is. more.reached code (one.reached code is);
        page = λ code is. more.page code (one.reached code is) ∙ one.page code is;
      }

  -- behind more calls a recorder stands as it does behind those, from where it stood
  pub end_behind : (calls later : List (Call K)) (s : State (ℕ → ℕ) K)
      → trace_end order backstep s (calls ++ later) ≡ trace_end order backstep (trace_end order backstep s calls) later
  end_behind [] later s = refl
  end_behind (c ∷ calls) later s = end_behind calls later (behind_call order backstep s c)
