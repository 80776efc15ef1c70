-- The record of an event's number calls for what the event did.
use Rattle.std.proofs.Common.{◌≡◌, ℕ, ℤ, ◌+◌, ◌-◌, inl, inr, List, [], ◌∷◌, ◌++◌, length, Some, None, Ok, Err, Option, Result}
use Rattle.std.proofs.Common.{refl, sym, ap, ◌∙◌, subst, arith}
use Rattle.std.specs.List.{cons_option}
use Rattle.std.specs.Result.{result_ok, result_unwrap_or}
use Rattle.std.specs.declared.cmp.Ordering.{Ordering}
use Rattle.std.proofs.lemmas.Bool.Decides.{nat_tests}
use Rattle.clocks.specs.Bank.{Meaning}
use Rattle.clocks.specs.declared.sample.Sample.{Sample}
use Rattle.history.specs.Events.{Event, Note, Put, Receipt, Send, What, version_of}
use Rattle.recorder.specs.Answers.{clock_answer, put_answer}
use Rattle.recorder.specs.State.{State}
use Rattle.replay.specs.Calls.{AnswerNumbers, call_answer, CutAnswer, EventAnswer, LossAnswer, ReadAnswer, UnderWayAnswer}
use Rattle.replay.specs.declared.call.Call.{Call}
use Rattle.replay.specs.declared.call.Call.TheVariants as call
use Rattle.stamper.specs.Readings.{at_reading}
use Rattle.stamper.specs.Stamps.{stamp_at}
use Rattle.stamps.specs.Rules.{StampedNumbers, event_answer, own_stamp}
use Rattle.store.specs.Newest.{IsIn}
use Rattle.store.specs.declared.version.Version.{Version}
use Rattle.trace.specs.Contents.{Content}
use Rattle.trace_history.specs.Events.{Deed, Numbered, deed_by, event_by, next_event, numbered_events}
use Rattle.trace_history.specs.Trace.{trace_events}
use Rattle.trace_replay.specs.Machine.{behind_call, clocks_of, trace_answers}
use Rattle.trace_replay.specs.Traced.{first_state}
use Rattle.trace_run.specs.Calls.{KeyForm, answers_left, call_of, calls_of}
use Rattle.trace_run.specs.SetUp.{SetUpNumbers}
use Rattle.page_law.specs.Inspected.{HasPut, IsPutBy}
use Rattle.page_law.proofs.Told.{own_ahead, reading_by}

-- what is in a list with one before it, or none, is that one or is in the list
split : {X : Type 0} (P : Type 0) (x : X) (found : Option X) (xs : List X) → IsIn x (cons_option found xs)
    → (found ≡ Some x → P) → (IsIn x xs → P) → P
split P x None xs is_in first more = more is_in
split P x (Some y) xs (inl here) first more = first (ap Some (sym here))
split P x (Some y) xs (inr there) first more = more there

module _ {K : Type 0} where
  -- what an event did, and where
  abbrev deed_of : Event K → Deed K
  deed_of e = record { node = e.node; what = e.what }

  -- two deeds that are one do the same
  same_what : (d e : Deed K) → Some d ≡ Some e → d.what ≡ e.what
  same_what d e is = let same : d ≡ e = cc is in ap (λ (d : Deed K). d.what) same

  -- an event of this number did what was called
  record IsDone (number : ℕ) (called : Option (Deed K)) (e : Numbered K) : Type 0 where
    numbered : e.number ≡ number
    deed : called ≡ Some (deed_of e.event)

  done : (number : ℕ) (called : Option (Deed K)) (a : AnswerNumbers K) (e : Numbered K)
      → event_by number called a ≡ Some e → IsDone number called e
  done number None a e is = absurd (cc is)
  done number (Some deed) (EventAnswer (Err refusal)) e is = absurd (cc is)
  done number (Some deed) (EventAnswer (Ok event)) e is = record { numbered = cc is; deed = cc is }
  done number (Some deed) (LossAnswer answer) e is = absurd (cc is)
  done number (Some deed) (ReadAnswer answer) e is = absurd (cc is)
  done number (Some deed) (CutAnswer answer rows) e is = absurd (cc is)
  done number (Some deed) (UnderWayAnswer answer rows) e is = absurd (cc is)

module _ {K : Type 0} (form : KeyForm K) (order : K → K → Ordering) (backstep : ℕ) where
  abbrev clocks : (ℕ → ℕ) → Meaning
  clocks = clocks_of backstep

  same_reading : (d e : Numbered K) → Some d ≡ Some e → d.event.reading ≡ e.event.reading
  same_reading d e is = let same : d ≡ e = cc is in ap (λ (n : Numbered K). n.event.reading) same

  -- a put that was accepted has its raw number as its reading
  put_read_by : (s : State (ℕ → ℕ) K) (sample : Sample) (key : K) (value : ℤ) (number : ℕ) (e : Numbered K)
      (answer : Result StampedNumbers ℕ) → put_answer clocks s sample ≡ answer
      → event_by number (deed_by (call.Put sample key value)) (EventAnswer answer) ≡ Some e → sample.raw.0 ≡ e.event.reading
  put_read_by s sample key value number e (Err refusal) is some = absurd (cc some)
  put_read_by s sample key value number e (Ok event) is some =
      let last = stamp_at s.last sample.node in
      let clock : clock_answer clocks s sample ≡ Ok sample.raw.0 = grind (arith, nat_tests, is) in
      let answered : at_reading (λ reading. event_answer (own_stamp last reading) reading) (clock_answer clocks s sample)
      ≡ Ok event = grind (arith, nat_tests, is) in
      let read = reading_by (own_stamp last) (clock_answer clocks s sample) event (own_ahead last) answered in
      let raw : event.stamp.time - event.drift ≡ sample.raw.0 = read ∙ ap (λ r. result_unwrap_or r 0) clock in
      sym raw ∙ same_reading _ e some

  -- so of a call that is a put
  put_read : (s : State (ℕ → ℕ) K) (c : Call K) (number : ℕ) (e : Numbered K)
      → event_by number (deed_by c) (call_answer order clocks s c) ≡ Some e
      → (sample : Sample) (key : K) (value : ℤ) → c ≡ call.Put sample key value → sample.raw.0 ≡ e.event.reading
  put_read s c number e some sample key value is =
      put_read_by s sample key value number e _ refl
      (subst (λ c. event_by number (deed_by c) (call_answer order clocks s c) ≡ Some e) is some)

  -- One of these records, the first of which has the number `first`, has this event's number, and calls for what it did.
  record HasRecord (first : ℕ) (ms : List Content) (e : Numbered K) : Type 0 where
    earlier : List Content
    content : Content
    later : List Content
    place : ms ≡ earlier ++ content ∷ later
    count : e.number ≡ length earlier + first
    the_call : Call K
    calls : call_of form content ≡ Ok the_call
    deed : deed_by the_call ≡ Some (deed_of e.event)
    reading : (sample : Sample) (key : K) (value : ℤ) → the_call ≡ call.Put sample key value
        → sample.raw.0 ≡ e.event.reading

  first_record : (first : ℕ) (m : Content) (ms : List Content) (s : State (ℕ → ℕ) K) (e : Numbered K) (c : Call K)
      → call_of form m ≡ Ok c → event_by first (deed_by c) (call_answer order clocks s c) ≡ Some e → HasRecord first (m ∷ ms) e
  first_record first m ms s e c calls is =
      let does = done first (deed_by c) (call_answer order clocks s c) e is in
      record {
        earlier = [];
        content = m;
        later = ms;
        place = refl;
        count = omega (arith, does.numbered);
        the_call = c;
        calls = calls;
        deed = does.deed;
        reading = put_read s c first e is;
      }

  record_behind : (first : ℕ) (m : Content) (ms : List Content) (e : Numbered K) → HasRecord (first + 1) ms e
      → HasRecord first (m ∷ ms) e
  record_behind first m ms e more = record {
    earlier = m ∷ more.earlier;
    content = more.content;
    later = more.later;
    place = ap (λ rest. m ∷ rest) more.place;
    count = omega (arith, more.count);
    the_call = more.the_call;
    calls = more.calls;
    deed = more.deed;
    reading = more.reading;
  }

  -- the events of these records, behind a recorder that stands so
  abbrev listed : ℕ → List Content → State (ℕ → ℕ) K → List (Numbered K)
  listed first ms s = numbered_events form first ms (trace_answers order backstep s (calls_of form ms))

  record_by : (first : ℕ) (m : Content) (ms : List Content) (s : State (ℕ → ℕ) K) (e : Numbered K) (c : Result (Call K) ℕ)
      → call_of form m ≡ c
      → let answers = trace_answers order backstep s (cons_option (result_ok c) (calls_of form ms)) in
      IsIn e (cons_option (next_event first c answers) (numbered_events form (first + 1) ms (answers_left c answers)))
      → ((next : State (ℕ → ℕ) K) → IsIn e (listed (first + 1) ms next) → HasRecord (first + 1) ms e)
      → HasRecord first (m ∷ ms) e
  record_by first m ms s e (Err refusal) calls is_in more = record_behind first m ms e (more s is_in)
  record_by first m ms s e (Ok c) calls is_in more =
      split (HasRecord first (m ∷ ms) e) e _ _ is_in (first_record first m ms s e c calls)
      (λ there. record_behind first m ms e (more (behind_call order backstep s c) there))

  has_record : (first : ℕ) (ms : List Content) (s : State (ℕ → ℕ) K) (e : Numbered K) → IsIn e (listed first ms s)
      → HasRecord first ms e
  has_record first [] s e is_in = elim is_in [ ]
  has_record first (m ∷ ms) s e is_in =
      record_by first m ms s e (call_of form m) refl is_in (λ next. has_record (first + 1) ms next e)

module _ {K : Type 0} (form : KeyForm K) where
  -- a put is called for by a put
  put_by : (v : Version K) (e : Numbered K) (c : Call K) (what : What K)
      → deed_by c ≡ Some (record { node = e.event.node; what = what }) → version_of e.event what ≡ Some v
      → (sample : Sample) × (sample.node ≡ v.node) × (c ≡ call.Put sample v.key v.value)
  put_by v e c Note deed put = absurd (cc put)
  put_by v e c (Send number) deed put = absurd (cc put)
  put_by v e c (Receipt number) deed put = absurd (cc put)
  put_by v e (call.Note sample) (Put key value) deed put = absurd (cc (same_what _ _ deed))
  put_by v e (call.Send sample to number) (Put key value) deed put = absurd (cc (same_what _ _ deed))
  put_by v e (call.Receipt sample number) (Put key value) deed put = absurd (cc (same_what _ _ deed))
  put_by v e (call.Loss number) (Put key value) deed put = absurd (cc deed)
  put_by v e (call.Ask question) (Put key value) deed put = absurd (cc deed)
  put_by v e (call.Put sample key value) (Put event_key event_value) deed put =
      (sample, grind (arith, deed, put), grind (arith, deed, put))

  pub recorded : (order : K → K → Ordering) (setup : SetUpNumbers) (ms : List Content) (v : Version K) (e : Numbered K)
      → IsIn e (trace_events form order setup ms) → HasPut form order setup ms v e
      → IsPutBy form order setup ms v e
  recorded order setup ms v e is_in put =
      let is = has_record form order setup.backstep 2 ms (first_state setup) e is_in in
      let by = put_by v e is.the_call e.event.what is.deed put in
      record {
        earlier = is.earlier;
        content = is.content;
        later = is.later;
        place = is.place;
        count = is.count;
        sample = by.0;
        node = by.1;
        reading = is.reading by.0 v.key v.value by.2;
        calls = is.calls ∙ ap Ok by.2;
      }
