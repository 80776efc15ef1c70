-- What is known between two records whose events are listed.
use Rattle.std.proofs.Common.{◌≡◌, ℕ, ◌+◌, ◌<◌, ◌≤◌, List, [], ◌∷◌, ◌++◌, length, map, drop, get_or, Some, None, Option, sym, ap, ◌∙◌}
use Rattle.std.proofs.Common.{append-nil, append_assoc, arith}
use Rattle.std.specs.List.{cons_option}
use Rattle.std.specs.Option.{option_map, option_to_list}
use Rattle.std.proofs.lemmas.List.{at_drop_all, at_drop_more, map-append}
use Rattle.replay.specs.Calls.{AnswerNumbers}
use Rattle.trace.specs.Contents.{Content, content_of}
use Rattle.trace.specs.declared.records.Record.{Record}
use Rattle.trace_run.specs.Calls.{KeyForm, answers_left, call_of}
use Rattle.trace_history.specs.Events.{Numbered, next_event, numbered_events}
use Rattle.trace_history.specs.Shown.{event_numbers}
use Rattle.trace_history.specs.declared.events.Event.{Event}

-- an event more at the end of those so far stands before the others
moved : {K : Type 0} (events : List (Event K)) (found : Option (Event K)) (rest : List (Numbered K))
    → map event_numbers (events ++ option_to_list found) ++ rest
    ≡ map event_numbers events ++ cons_option (option_map event_numbers found) rest
moved events None rest = ap (λ es. map event_numbers es ++ rest) (append-nil events)
moved events (Some e) rest =
    ap (λ es. es ++ rest) (map-append event_numbers events (e ∷ [])) ∙ append_assoc (map event_numbers events) _ rest

module _ {K : Type 0} (form : KeyForm K) (records : List Record) (answers : List (AnswerNumbers K)) where
  abbrev all : List (Numbered K)
  all = numbered_events form 2 (map content_of records) answers

  -- those of the first i records are listed, and these answers are left
  abbrev pub AreListed : ℕ → List (Event K) → List (AnswerNumbers K) → Type 0
  AreListed i events left =
      map event_numbers events ++ numbered_events form (i + 2) (map content_of (drop i records)) left ≡ all

  module _ (i : ℕ) (r : Record) (h : i < length records) where
    abbrev pub content : Content
    content = content_of (get_or records i r)

    -- one record more
    pub listed : (events : List (Event K)) (left : List (AnswerNumbers K)) → AreListed i events left
        → (found : Option (Event K)) (left_then : List (AnswerNumbers K)) (after : List (Event K))
        → option_map event_numbers found ≡ next_event (i + 2) (call_of form content) left
        → left_then ≡ answers_left (call_of form content) left
        → after ≡ events ++ option_to_list found → AreListed (i + 1) after left_then
    listed events left g found left_then after event_is left_is after_is =
        let later = map content_of (drop (i + 1) records) in
        let rest = numbered_events form (i + 1 + 2) later in
        let behind = answers_left (call_of form content) left in
        let first = next_event (i + 2) (call_of form content) left in
        let next : i + 1 + 2 ≡ i + 2 + 1 = omega arith in
        let more = at_drop_more (λ (rs : List Record). numbered_events form (i + 2) (map content_of rs) left) records i r h in
        rw (after_is, left_is) (moved events found (rest behind)
        ∙ ap (λ first. map event_numbers events ++ cons_option first (rest behind)) event_is
        ∙ ap (λ n. map event_numbers events ++ cons_option first (numbered_events form n later behind)) next
        ∙ ap (λ es. map event_numbers events ++ es) (sym more) ∙ g)

  -- behind the last
  pub listed_all : (i : ℕ) (events : List (Event K)) (left : List (AnswerNumbers K)) → AreListed i events left
      → length records ≤ i → map event_numbers events ≡ all
  listed_all i events left g h =
      let none = at_drop_all (λ (rs : List Record). numbered_events form (i + 2) (map content_of rs) left) records i h in
      sym (append-nil (map event_numbers events)) ∙ ap (λ es. map event_numbers events ++ es) (sym none) ∙ g
