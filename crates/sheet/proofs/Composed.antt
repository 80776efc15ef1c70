-- A sheet is its head and what stands below.
use Rattle.std.proofs.Common.{◌≡◌, ℕ, Bool, List, [], ◌++◌, ap, ◌∙◌, map, Ok, Err, Result, IfOk, String, string_bytes}
use Rattle.std.specs.declared.cmp.Ordering.{Ordering}
use Rattle.replay.specs.Calls.{AnswerNumbers}
use Rattle.sheet_lines.specs.Lines.{head_lines}
use Rattle.sheet_lines.specs.Puts.{put_counts}
use Rattle.sheet_lines.specs.declared.puts.Puts.{Puts}
use Rattle.store.specs.declared.version.Version.{Version}
use Rattle.trace.specs.Contents.{Content}
use Rattle.trace_history.specs.Events.{Numbered, numbered_events}
use Rattle.trace_history.specs.Trace.{trace_events}
use Rattle.trace_replay.specs.Page.{IsPaged}
use Rattle.trace_run.specs.Calls.{KeyForm, calls_of}
use Rattle.trace_run.specs.SetUp.{SetUpNumbers}
use Rattle.sheet.specs.Printed.{body_lines, printed}
use Rattle.sheet.specs.Sheet.{sheet_at}

module _ {K : Type 0} (name : K → List ℕ) (setup : SetUpNumbers) (closed : Bool) (stamp : ℕ) (events : List (Numbered K))
    (ms : List Content) (page : Result (List (Version K)) ℕ) where
  pub head_and_body : (none mid after : List ℕ) (puts : Puts) → none ≡ [] → puts ≡ put_counts ms (map (λ e. e.event) events)
      → mid ≡ none ++ head_lines setup puts stamp → after ≡ mid ++ body_lines name setup closed stamp events page
      → after ≡ printed name setup closed stamp events ms page
  unfolding printed
  head_and_body none mid after puts is_none counted head body =
      let lower = body_lines name setup closed stamp events page in
      body ∙ ap (λ bytes. bytes ++ lower) head ∙ ap (λ p. (none ++ head_lines setup p stamp) ++ lower) counted
      ∙ ap (λ bytes. (bytes ++ head_lines setup (put_counts ms (map (λ e. e.event) events)) stamp) ++ lower) is_none

-- The sheet of what a recorder answered is the sheet of the page.
module _ {K : Type 0} (form : KeyForm K) (order : K → K → Ordering) (name : K → List ℕ) (setup : SetUpNumbers)
    (ms : List Content) (closed : Bool) (stamp : ℕ) where
  pub sheet_of_answers : {Z E : Type 0} (r : Result (String Z) E) (answers : List (AnswerNumbers K))
      (page : Result (List (Version K)) ℕ) → IsPaged order setup (calls_of form ms) closed stamp answers page
      → IfOk r (λ text. string_bytes text ≡ printed name setup closed stamp (numbered_events form 2 ms answers) ms page)
      → IfOk r (λ text. string_bytes text ≡ sheet_at form order name setup ms closed stamp)
  sheet_of_answers (Err e) answers page paged is = tt
  sheet_of_answers (Ok text) answers page paged is =
      is ∙ ap (λ a. printed name setup closed stamp (numbered_events form 2 ms a) ms page) paged.answers_are
      ∙ ap (printed name setup closed stamp (trace_events form order setup ms) ms) paged.page_is
