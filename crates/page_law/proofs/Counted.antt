-- No more puts are accepted than there are records of puts.
use Rattle.std.proofs.Common.{◌≡◌, ℕ, ◌+◌, ◌-◌, ◌≤◌, List, [], ◌∷◌, length, map, Some, None, Ok, Err, Option, Result, refl, arith}
use Rattle.std.specs.List.{cons_option}
use Rattle.std.specs.Option.{option_to_list}
use Rattle.history.specs.Events.{Event, Note, Put, Receipt, Send, What, puts, version_of}
use Rattle.replay.specs.Calls.{AnswerNumbers, CutAnswer, EventAnswer, LossAnswer, ReadAnswer, UnderWayAnswer}
use Rattle.replay.specs.declared.call.Call.{Call}
use Rattle.store.specs.declared.version.Version.{Version}
use Rattle.trace.specs.Contents.{Content, set_up, note, send, receipt, loss, put_point, put_tag, read_point, read_tag}
use Rattle.trace_history.specs.Events.{Deed, Numbered, deed_by, event_by, next_event, numbered_events}
use Rattle.trace_history.specs.Puts.{put_record, put_records}
use Rattle.trace_run.specs.Calls.{KeyForm, answers_left, call_of, put_call, read_call}

module _ {K : Type 0} where
  -- 1 for what a put does, 0 for what any other event does
  abbrev what_puts : What K → ℕ
  what_puts Note = 0
  what_puts (Send number) = 0
  what_puts (Receipt number) = 0
  what_puts (Put key value) = 1

  abbrev deed_puts : Option (Deed K) → ℕ
  deed_puts None = 0
  deed_puts (Some deed) = what_puts deed.what

  -- of a record that calls for this, or is refused
  abbrev call_puts : Result (Call K) ℕ → ℕ
  call_puts (Err refusal) = 0
  call_puts (Ok c) = deed_puts (deed_by c)

  -- how many versions were put by these
  abbrev count : List (Numbered K) → ℕ
  count numbered = length (puts (map (λ e. e.event) numbered))

  what_counted : (e : Event K) (what : What K) → length (cons_option (version_of e what) []) ≡ what_puts what
  what_counted e Note = refl
  what_counted e (Send number) = refl
  what_counted e (Receipt number) = refl
  what_counted e (Put key value) = refl

  event_counted : (number : ℕ) (deed : Option (Deed K)) (a : AnswerNumbers K)
      → count (option_to_list (event_by number deed a)) ≤ deed_puts deed
  event_counted number None a = omega arith
  event_counted number (Some deed) (EventAnswer (Err refusal)) = omega arith
  event_counted number (Some deed) (EventAnswer (Ok event)) =
      let e : Event K =
      record { node = deed.node; reading = event.stamp.time - event.drift; stamp = event.stamp; what = deed.what } in
      omega (arith, what_counted e deed.what)
  event_counted number (Some deed) (LossAnswer answer) = omega arith
  event_counted number (Some deed) (ReadAnswer answer) = omega arith
  event_counted number (Some deed) (CutAnswer answer rows) = omega arith
  event_counted number (Some deed) (UnderWayAnswer answer rows) = omega arith

  next_counted : (number : ℕ) (c : Result (Call K) ℕ) (answers : List (AnswerNumbers K))
      → count (option_to_list (next_event number c answers)) ≤ call_puts c
  next_counted number (Err refusal) answers = omega arith
  next_counted number (Ok c) [] = omega arith
  next_counted number (Ok c) (a ∷ answers) = event_counted number (deed_by c) a

  one_more : (found : Option (Version K)) (vs : List (Version K))
      → length (cons_option found vs) ≡ length (cons_option found []) + length vs
  one_more None vs = omega arith
  one_more (Some v) vs = omega arith

  counted_first : (found : Option (Numbered K)) (others : List (Numbered K))
      → count (cons_option found others) ≡ count (option_to_list found) + count others
  counted_first None others = omega arith
  counted_first (Some e) others = one_more (version_of e.event e.event.what) (puts (map (λ e. e.event) others))

  module _ (form : KeyForm K) where
    of_put : (node raw : ℕ) (value : _) (key : Result K ℕ) → call_puts (put_call form node raw value key) ≤ 1
    of_put node raw value (Ok key) = omega arith
    of_put node raw value (Err refusal) = omega arith

    of_read : (at : ℕ) (key : Result K ℕ) → call_puts (read_call form at key) ≤ 0
    of_read at (Ok key) = omega arith
    of_read at (Err refusal) = omega arith

    -- only the record of a put calls for one
    call_counted : (m : Content) → call_puts (call_of form m) ≤ put_record m
    call_counted (set_up nodes key_kind lead backstep) = omega arith
    call_counted (note node raw) = omega arith
    call_counted (send node raw to message) = omega arith
    call_counted (receipt node raw message) = omega arith
    call_counted (loss message) = omega arith
    call_counted (put_point node raw key value) = of_put node raw value (form.point key)
    call_counted (put_tag node raw key value) = of_put node raw value (form.tag key)
    call_counted (read_point at key) = of_read at (form.point key)
    call_counted (read_tag at key) = of_read at (form.tag key)

    pub counted : (number : ℕ) (ms : List Content) (answers : List (AnswerNumbers K))
        → count (numbered_events form number ms answers) ≤ put_records ms
    counted number [] answers = omega arith
    counted number (m ∷ ms) answers =
        let c = call_of form m in
        let left = answers_left c answers in
        omega (
          arith,
          counted_first (next_event number c answers) (numbered_events form (number + 1) ms left),
          next_counted number c answers,
          call_counted m,
          counted (number + 1) ms left,
        )
