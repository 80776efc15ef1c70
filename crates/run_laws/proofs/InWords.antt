-- What the law says of the answers alone.
use Rattle.std.proofs.Common.{◌≡◌, ℕ, ℤ, ◌+◌, ◌-◌, ◌≤◌, ◌⊎◌, inl, inr, Bool, true, false, arith}
use Rattle.std.proofs.Common.{List, [], ◌∷◌, ◌++◌, length, map, take, Vec, Global, refl, ap, ◌∙◌, subst}
use Rattle.std.specs.Prelude.{Some, None, Ok, Err, Option, Result, if◌then◌else◌}
use Rattle.std.specs.declared.cmp.Ordering.{Ordering}
use Rattle.std.specs.List.{cons_option, filter_map, zip}
use Rattle.std.specs.Option.{option_to_list}
use Rattle.std.specs.Result.{result_unwrap_or}
use Rattle.std.proofs.lemmas.Bool.Decides.{nat_tests}
use Rattle.std.proofs.lemmas.List.{append-nil, length-append, length-map}
use Rattle.std.proofs.lemmas.List.Elements.{filter_map-append}
use Rattle.clocks.specs.Bank.{Meaning}
use Rattle.clocks.specs.declared.sample.Sample.{Sample}
use Rattle.messages.specs.Messages.{MessageNumbers, message_of}
use Rattle.stamps.specs.Rules.{StampedNumbers, event_answer, own_stamp, receipt_stamp}
use Rattle.stamps.specs.Stamp.{Timestamp}
use Rattle.store.specs.Contents.{Contents}
use Rattle.store.specs.Newest.{IsIn}
use Rattle.store.specs.declared.version.Version.{Version}
use Rattle.history.specs.Events.{Event, Note, Put, Receipt, Send, What, no_event, puts, version_of}
use Rattle.history.specs.History.{Closed, Entered, Entry, event_of, events_of}
use Rattle.history.specs.Law.{Cuts, Drift, Reads}
use Rattle.history.proofs.Entries.{events_of-append}
use Rattle.history.proofs.Lists.{each_push, in_append, placed}
use Rattle.history.proofs.Puts.{puts-append}
use Rattle.history.proofs.Unique.{stamps_once}
use Rattle.recorder.specs.Answers.{clock_answer, receipt_answer}
use Rattle.stamper.specs.Readings.{at_reading}
use Rattle.stamper.specs.Readings.{TookReading}
use Rattle.stamper.specs.Stamps.{stamp_at}
use Rattle.recorder.specs.State.{State, is_settled}
use Rattle.replay.specs.Calls.{AnswerNumbers, CutAnswer, EventAnswer, LossAnswer, ReadAnswer, UnderWayAnswer}
use Rattle.replay.specs.Calls.{call_answer, question_answer}
use Rattle.run_laws.specs.InWords.{AnswersKeepLaw, HistoryKeepsLaw, IsKept, IsNear, IsRightAmong, OrdersAreAlike, RunsKeepBeside}
use Rattle.run_laws.specs.InWords.{asked_of, version_by, versions_by}
use Rattle.replay.specs.Replay.{IsReplayed, end_answer, end_entries, whole_history}
use Rattle.replay.specs.Runs.{IsRun, NoCall, OneMore, TookFor, call_entry, event_entry, question_entry}
use Rattle.replay.specs.declared.call.Call.{Call}
use Rattle.replay.specs.declared.call.Call.TheVariants as call
use Rattle.replay.specs.declared.call.Question.{Question}
use Rattle.replay.specs.declared.call.Question.TheVariants as question
use Rattle.replay.specs.declared.replay.Run.{Run}

-- what is in two lists joined is in one of them
in_one_of : {X : Type 0} (x : X) (xs ys : List X) → IsIn x (xs ++ ys) → IsIn x xs ⊎ IsIn x ys
in_one_of x [] ys is_in = inr is_in
in_one_of x (z ∷ xs) ys (inl here) = inl (inl here)
in_one_of x (z ∷ xs) ys (inr there) = elim (in_one_of x xs ys there) [ inl one ↦ inl (inr one) | inr other ↦ inr other ]

-- what is made of one in a list is among what is made of the list
in_cons : {X : Type 0} (x : X) (found : Option X) (xs : List X) → IsIn x xs → IsIn x (cons_option found xs)
in_cons x None xs is_in = is_in
in_cons x (Some y) xs is_in = inr is_in

in_made : {X Y : Type 0} (f : X → Option Y) (x : X) (y : Y) (xs : List X) → IsIn x xs → f x ≡ Some y → IsIn y (filter_map f xs)
in_made f x y [] is_in is = elim is_in [ ]
in_made f x y (z ∷ xs) (inl here) is = rw (← here, is) (inl refl)
in_made f x y (z ∷ xs) (inr there) is = in_cons y (f z) (filter_map f xs) (in_made f x y xs there is)

-- lists that are joined pair by pair
zip_joined : {X Y : Type 0} (xs : List X) (ys : List Y) (more : List X) (others : List Y) → length ys ≡ length xs
    → zip (xs ++ more) (ys ++ others) ≡ zip xs ys ++ zip more others
zip_joined [] [] more others is = refl
zip_joined [] (y ∷ ys) more others is = absurd (omega (arith, is))
zip_joined (x ∷ xs) [] more others is = absurd (omega (arith, is))
zip_joined {X} {Y} (x ∷ xs) (y ∷ ys) more others is =
    ap (λ (ps : List (X × Y)). (x, y) ∷ ps) (zip_joined xs ys more others (omega (arith, is)))

-- an event's drift is how far its stamp is ahead of its reading
drift_by : (rule : ℕ → Timestamp) (clock : Result ℕ ℕ) (event : StampedNumbers)
    → at_reading (λ reading. event_answer (rule reading) reading) clock ≡ Ok event
    → event.drift ≡ event.stamp.time - result_unwrap_or clock 0
drift_by rule (Ok reading) event is = grind (arith, nat_tests, is)
drift_by rule (Err refusal) event is = absurd (cc is)

-- a close is no event
close_no_event : {K : Type 0} (closes : Bool) → events_of {K = K} (if closes then Closed ∷ [] else []) ≡ []
close_no_event true = refl
close_no_event false = refl

module _ {B K : Type 0} (order : K → K → Ordering) (meaning : B → Meaning) where
  -- the history has the event of an answer
  abbrev HasEvent : List (Entry K) → Sample → AnswerNumbers K → Type 0
  HasEvent history sample a = (event : StampedNumbers) → a ≡ EventAnswer (Ok event)
      → (e : Event K) × IsIn (Entered e) history × (e.node ≡ sample.node) × (event.drift ≡ e.stamp.time - e.reading)

  -- what the history is told of a call that answered so
  abbrev Tells : List (Entry K) → Call K → AnswerNumbers K → Type 0
  Tells history (call.Note sample) a = HasEvent history sample a
  Tells history (call.Send sample to number) a = HasEvent history sample a
  Tells history (call.Receipt sample number) a = HasEvent history sample a
  Tells history (call.Loss number) a = Unit {0}
  Tells history (call.Put sample key value) a = HasEvent history sample a
  Tells history (call.Ask q) a = (entry : Entry K) → question_entry q a ≡ Some entry → IsIn entry history

  -- it is told of a longer one
  module _ (history longer : List (Entry K)) (more : (entry : Entry K) → IsIn entry history → IsIn entry longer) where
    has_more : (sample : Sample) (a : AnswerNumbers K) → HasEvent history sample a → HasEvent longer sample a
    has_more sample a has = λ event is. let e = has event is in (e.0, more _ e.1, e.2, e.3)

    tells_more : (c : Call K) (a : AnswerNumbers K) → Tells history c a → Tells longer c a
    tells_more (call.Note sample) a tells = has_more sample a tells
    tells_more (call.Send sample to number) a tells = has_more sample a tells
    tells_more (call.Receipt sample number) a tells = has_more sample a tells
    tells_more (call.Loss number) a tells = tt
    tells_more (call.Put sample key value) a tells = has_more sample a tells
    tells_more (call.Ask q) a tells = λ entry is. more entry (tells entry is)

  -- no question is told as an event
  read_no_event : (key : K) (stamp : ℕ) (r : Result (Option (Version K)) ℕ)
      → events_of (option_to_list (question_entry (question.Read key stamp) (ReadAnswer r))) ≡ []
  read_no_event key stamp (Ok found) = refl
  read_no_event key stamp (Err refusal) = refl

  cut_no_event : (stamp : ℕ) (rows : Vec (Version K) Global) (r : Result ℕ ℕ) (filled : List (Version K))
      → events_of (option_to_list (question_entry (question.Cut stamp rows) (CutAnswer r filled))) ≡ []
  cut_no_event stamp rows (Ok count) filled = refl
  cut_no_event stamp rows (Err refusal) filled = refl

  none_in_front : (found : Option (Entry K)) (entries : List (Entry K)) → events_of (option_to_list found) ≡ []
      → events_of entries ≡ [] → events_of (cons_option found entries) ≡ []
  none_in_front None entries none none_behind = none_behind
  none_in_front (Some entry) entries none none_behind = events_of-append (entry ∷ []) entries ∙ rw none none_behind

  module _ (settled : ℕ → Bool) (contents : Contents K) (messages : List MessageNumbers) where
    abbrev answer_to : Question K → AnswerNumbers K
    answer_to q = question_answer order settled contents messages q

    no_event_of : (q : Question K) → events_of (option_to_list (question_entry q (answer_to q))) ≡ []
    no_event_of (question.Read key stamp) = read_no_event key stamp _
    no_event_of (question.Cut stamp rows) = cut_no_event stamp rows _ _
    no_event_of (question.UnderWay rows) = refl

    no_events : (qs : List (Question K)) → events_of (filter_map (λ q. question_entry q (answer_to q)) qs) ≡ []
    no_events [] = refl
    no_events (q ∷ qs) = none_in_front (question_entry q (answer_to q)) _ (no_event_of q) (no_events qs)

    -- questions put nothing, and what is told of each is told behind the calls
    no_versions : (qs : List (Question K)) → versions_by (map call.Ask qs) (map answer_to qs) ≡ []
    no_versions [] = refl
    no_versions (q ∷ qs) = no_versions qs

    asked_tells : (qs : List (Question K)) (p : Call K × AnswerNumbers K) → IsIn p (zip (map call.Ask qs) (map answer_to qs))
        → Tells (filter_map (λ q. question_entry q (answer_to q)) qs) p.0 p.1
    asked_tells [] p is_in = elim is_in [ ]
    asked_tells (q ∷ qs) p (inl here) = rw here (λ entry is. rw is (inl refl))
    asked_tells (q ∷ qs) p (inr there) =
        tells_more _ _ (λ entry is_in. in_cons entry (question_entry q (answer_to q)) _ is_in) p.0 p.1 (asked_tells qs p there)

  -- one call
  module _ (s : State B K) (told : List (Entry K)) where
    abbrev IsDrift : Sample → StampedNumbers → Type 0
    IsDrift sample event = event.drift ≡ event.stamp.time - result_unwrap_or (clock_answer meaning s sample) 0

    abbrev entered : Sample → What K → Result StampedNumbers ℕ → List (Entry K)
    entered sample what answer = told ++ option_to_list (event_entry order meaning s sample what answer)

    event_tells : (sample : Sample) (what : What K) (answer : Result StampedNumbers ℕ)
        → ((event : StampedNumbers) → answer ≡ Ok event → IsDrift sample event)
        → HasEvent (entered sample what answer) sample (EventAnswer answer)
    event_tells sample what (Ok event) drift = λ other is.
        let same : event ≡ other = cc is in
        (_, in_append _ told _ (inr (inl refl)), refl, rw (← same) (drift event refl))
    event_tells sample what (Err refusal) drift = λ other is. absurd (cc is)

    own_drift : (sample : Sample) (event : StampedNumbers)
        → let rule : ℕ → Timestamp = own_stamp (stamp_at s.last sample.node) in
        at_reading (λ reading. event_answer (rule reading) reading) (clock_answer meaning s sample) ≡ Ok event
        → IsDrift sample event
    own_drift sample = drift_by (own_stamp (stamp_at s.last sample.node)) (clock_answer meaning s sample)

    received : (sample : Sample) (number : ℕ) (found : Option MessageNumbers) (event : StampedNumbers)
        → message_of number s.messages ≡ found → receipt_answer meaning s sample number ≡ Ok event
        → IsDrift sample event
    received sample number None event finds is = absurd (grind (arith, nat_tests, is, finds))
    received sample number (Some m) event finds is =
        drift_by (receipt_stamp (stamp_at s.last sample.node) m.stamp) (clock_answer meaning s sample) event
        (grind (arith, nat_tests, is, finds))

    call_tells : (c : Call K) → Tells (told ++ option_to_list (call_entry order meaning s c)) c (call_answer order meaning s c)
    call_tells (call.Note sample) =
        event_tells sample Note _ (λ event is. own_drift sample event (grind (arith, nat_tests, is)))
    call_tells (call.Send sample to number) =
        event_tells sample (Send number) _ (λ event is. own_drift sample event (grind (arith, nat_tests, is)))
    call_tells (call.Receipt sample number) =
        event_tells sample (Receipt number) _ (λ event is. received sample number _ event refl is)
    call_tells (call.Loss number) = tt
    call_tells (call.Put sample key value) =
        event_tells sample (Put key value) _ (λ event is. own_drift sample event (grind (arith, nat_tests, is)))
    call_tells (call.Ask q) = λ entry is. in_append entry told _ (inr (rw is (inl refl)))

    put_by : (sample : Sample) (key : K) (value : ℤ) (answer : Result StampedNumbers ℕ)
        → puts (events_of (option_to_list (event_entry order meaning s sample (Put key value) answer)))
        ≡ cons_option (version_by (call.Put sample key value) (EventAnswer answer)) []
    put_by sample key value (Ok event) = refl
    put_by sample key value (Err refusal) = refl

    no_put : (sample : Sample) (what : What K) (answer : Result StampedNumbers ℕ)
        → ((e : Event K) → version_of e what ≡ None)
        → puts (events_of (option_to_list (event_entry order meaning s sample what answer))) ≡ []
    no_put sample what (Ok event) none = rw (none _) refl
    no_put sample what (Err refusal) none = refl

    call_puts : (c : Call K) → puts (events_of (option_to_list (call_entry order meaning s c)))
        ≡ cons_option (version_by c (call_answer order meaning s c)) []
    call_puts (call.Note sample) = no_put sample Note _ (λ e. refl)
    call_puts (call.Send sample to number) = no_put sample (Send number) _ (λ e. refl)
    call_puts (call.Receipt sample number) = no_put sample (Receipt number) _ (λ e. refl)
    call_puts (call.Loss number) = refl
    call_puts (call.Put sample key value) = put_by sample key value _
    call_puts (call.Ask q) = ap puts (no_event_of (is_settled s) s.contents s.messages q)

  -- the calls of a run, one after another
  record AreTold (calls : List (Call K)) (answers : List (AnswerNumbers K)) (told : List (Entry K)) : Type 0 where
    many : length answers ≡ length calls
    versions : puts (events_of told) ≡ versions_by calls answers
    each : (p : Call K × AnswerNumbers K) → IsIn p (zip calls answers) → Tells told p.0 p.1

  module _ {beside : Sample → Result ℕ ℕ → B → B → Type 0} {start : State B K} where
    run_told : {calls : List (Call K)} {answers : List (AnswerNumbers K)} {told : List (Entry K)} {s : State B K}
        → IsRun order meaning beside start calls answers told s → AreTold calls answers told
    run_told NoCall = record { many = refl; versions = refl; each = λ p is_in. elim is_in [ ] }
    run_told (OneMore {calls} {answers} {told} {s} {c} {a} run is) =
        let so_far = run_told run in
        let entry = option_to_list (call_entry order meaning s c) in
        let pairs = zip_joined calls answers (c ∷ []) (a ∷ []) so_far.many in
        let by = λ (p : Call K × AnswerNumbers K). version_by p.0 p.1 in
        let later = λ (e : Entry K) (is_in : IsIn e told). in_append e told entry (inl is_in) in
        record {
          many = omega (arith, so_far.many, length-append answers (a ∷ []), length-append calls (c ∷ []));
          versions = rw (
            pairs,
            filter_map-append by (zip calls answers) ((c, a) ∷ []),
            events_of-append told entry,
            puts-append (events_of told) (events_of entry),
            so_far.versions,
            call_puts s told c,
            ← is.answer,
          ) refl;
          each = λ p is_in. each_push (λ (p : Call K × AnswerNumbers K). Tells (told ++ entry) p.0 p.1) (c, a) (zip calls answers)
              (λ p is_in. tells_more told (told ++ entry) later p.0 p.1 (so_far.each p is_in))
              (rw is.answer (call_tells s told c)) p (subst (IsIn p) pairs is_in);
        }

    -- a whole run
    module _ (run : Run K) (answers : List (AnswerNumbers K)) (r : IsReplayed order meaning beside start run answers) where
      abbrev whole : List (Entry K)
      whole = whole_history order meaning run r.told r.end

      abbrev answer : Question K → AnswerNumbers K
      answer = end_answer order meaning run.closes r.end

      abbrev end_settled : ℕ → Bool
      end_settled stamp = (if run.closes then true else is_settled r.end stamp)

      abbrev answered : List (Entry K)
      answered = filter_map (λ q. question_entry q (answer q)) run.questions.items

      calls_told : AreTold run.calls.items r.during r.told
      calls_told = run_told r.calls

      pairs : zip (asked_of run) answers
          ≡ zip run.calls.items r.during ++ zip (map call.Ask run.questions.items) (map answer run.questions.items)
      pairs = rw r.all (zip_joined run.calls.items r.during _ _ calls_told.many)

      end_no_events : events_of (end_entries order meaning run.closes r.end run.questions.items) ≡ []
      end_no_events = rw (events_of-append (if run.closes then Closed ∷ [] else []) answered, close_no_event run.closes)
          (no_events end_settled r.end.contents r.end.messages run.questions.items)

      versions_are : puts (events_of whole) ≡ versions_by (asked_of run) answers
      versions_are =
          let by = λ (p : Call K × AnswerNumbers K). version_by p.0 p.1 in
          let none = no_versions end_settled r.end.contents r.end.messages run.questions.items in
          rw (
            events_of-append r.told (end_entries order meaning run.closes r.end run.questions.items),
            end_no_events,
            append-nil (events_of r.told),
            pairs,
            filter_map-append by (zip run.calls.items r.during)
                (zip (map call.Ask run.questions.items) (map answer run.questions.items)),
            none,
            append-nil (filter_map by (zip run.calls.items r.during)),
          )
          calls_told.versions

      tells : (p : Call K × AnswerNumbers K) → IsIn p (zip (asked_of run) answers) → Tells whole p.0 p.1
      tells p is_in = elim (in_one_of p _ _ (subst (IsIn p) pairs is_in)) [
        | inl during ↦ tells_more r.told whole (λ e told. in_append e r.told _ (inl told)) p.0 p.1 (calls_told.each p during)
        | inr after ↦
            let close : List (Entry K) = (if run.closes then Closed ∷ [] else []) in
            tells_more answered whole (λ e told. in_append e r.told _ (inr (in_append e close answered (inr told)))) p.0 p.1
            (asked_tells end_settled r.end.contents r.end.messages run.questions.items p after)
      ]

      near : (sample : Sample) (a : AnswerNumbers K) → HasEvent whole sample a → IsNear order meaning start sample a
      near sample (EventAnswer (Ok event)) has =
          let e = has event refl in
          let at = placed no_event e.0 (events_of whole) (in_made event_of (Entered e.0) e.0 whole e.1 refl) in
          let bound : e.0.stamp.time ≤ e.0.reading + start.lead + (meaning start.bank e.0.node).backstep =
          subst (λ (x : Event K). x.stamp.time ≤ x.reading + start.lead + (meaning start.bank x.node).backstep) at.2
          (r.lawful Drift at.0 at.1) in
          let at_node : e.0.stamp.time ≤ e.0.reading + start.lead + (meaning start.bank sample.node).backstep =
          subst (λ node. e.0.stamp.time ≤ e.0.reading + start.lead + (meaning start.bank node).backstep) e.2 bound in
          omega (arith, at_node, e.3)
      near sample (EventAnswer (Err refusal)) has = tt
      near sample (LossAnswer answer) has = tt
      near sample (ReadAnswer answer) has = tt
      near sample (CutAnswer answer rows) has = tt
      near sample (UnderWayAnswer answer rows) has = tt

      right : (q : Question K) (a : AnswerNumbers K) → Tells whole (call.Ask q) a
          → IsRightAmong order meaning (puts (events_of whole)) q a
      right (question.Read key stamp) (ReadAnswer (Ok found)) told = r.lawful Reads key stamp found (told _ refl)
      right (question.Read key stamp) (ReadAnswer (Err refusal)) told = tt
      right (question.Read key stamp) (EventAnswer answer) told = tt
      right (question.Read key stamp) (LossAnswer answer) told = tt
      right (question.Read key stamp) (CutAnswer answer rows) told = tt
      right (question.Read key stamp) (UnderWayAnswer answer rows) told = tt
      right (question.Cut stamp given) (CutAnswer (Ok count) rows) told =
          r.lawful Cuts stamp count (take count rows) (told _ refl)
      right (question.Cut stamp given) (CutAnswer (Err refusal) rows) told = tt
      right (question.Cut stamp given) (EventAnswer answer) told = tt
      right (question.Cut stamp given) (LossAnswer answer) told = tt
      right (question.Cut stamp given) (ReadAnswer answer) told = tt
      right (question.Cut stamp given) (UnderWayAnswer answer rows) told = tt
      right (question.UnderWay rows) a told = tt

      kept : (c : Call K) (a : AnswerNumbers K) → Tells whole c a → IsKept order meaning start (puts (events_of whole)) c a
      kept (call.Note sample) a told = near sample a told
      kept (call.Send sample to number) a told = near sample a told
      kept (call.Receipt sample number) a told = near sample a told
      kept (call.Loss number) a told = tt
      kept (call.Put sample key value) a told = near sample a told
      kept (call.Ask q) a told = right q a told

      as_many : length answers ≡ length (asked_of run)
      as_many = omega (
        arith,
        ap length r.all,
        calls_told.many,
        length-append r.during (map answer run.questions.items),
        length-append run.calls.items (map call.Ask run.questions.items),
        length-map run.questions.items answer,
        length-map run.questions.items (λ (q : Question K). call.Ask q),
      )

      keeps : (c : Call K) (a : AnswerNumbers K) → IsIn (c, a) (zip (asked_of run) answers)
          → IsKept order meaning start (versions_by (asked_of run) answers) c a
      keeps c a is_in =
          subst (λ all. IsKept order meaning start all c a) versions_are (kept c a (tells (c, a) is_in))

  module _ (beside : Sample → Result ℕ ℕ → B → B → Type 0) where
    pub answers_keep_law : AnswersKeepLaw order meaning beside
    answers_keep_law start run answers r = (as_many run answers r, keeps run answers r)

    pub history_keeps_law : HistoryKeepsLaw order meaning beside
    history_keeps_law start run answers r clause = r.lawful clause

    -- what a take keeps, an event keeps, and so does a call
    module _ (number : B → ℕ)
        (keeps : (sample : Sample) (reading : Result ℕ ℕ) (old new : B)
        → beside sample reading old new → number new ≡ number old) where
      event_keeps : (sample : Sample) (answer : Result StampedNumbers ℕ) (old new : B)
          → TookReading meaning beside sample answer old new → number new ≡ number old
      event_keeps sample (Ok event) old new takes = keeps sample _ old new takes.1
      event_keeps sample (Err refusal) old new stays = ap number stays

      call_keeps : (s : State B K) (c : Call K) (bank : B) → TookFor order meaning beside s c bank → number bank ≡ number s.bank
      call_keeps s (call.Note sample) bank takes = event_keeps sample _ s.bank bank takes
      call_keeps s (call.Send sample to sent) bank takes = event_keeps sample _ s.bank bank takes
      call_keeps s (call.Receipt sample received) bank takes = event_keeps sample _ s.bank bank takes
      call_keeps s (call.Loss lost) bank stays = ap number stays
      call_keeps s (call.Put sample key value) bank takes = event_keeps sample _ s.bank bank takes
      call_keeps s (call.Ask q) bank stays = ap number stays

      run_keeps : {start s : State B K} {calls : List (Call K)} {answers : List (AnswerNumbers K)} {told : List (Entry K)}
          → IsRun order meaning beside start calls answers told s → number s.bank ≡ number start.bank
      run_keeps NoCall = refl
      run_keeps (OneMore {s} {next} {c} run is) = call_keeps s c next.bank is.reading ∙ run_keeps run

    pub runs_keep_beside : RunsKeepBeside order meaning beside
    runs_keep_beside number keeps start run answers r = run_keeps number keeps r.calls

    pub orders_are_alike : OrdersAreAlike order meaning beside
    orders_are_alike start other_start run other_run answers other_answers r other to from moved messages =
        stamps_once order _ _ _ _ to from r.written other.written moved messages
