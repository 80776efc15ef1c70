-- What comes later leaves a final page as it is.
use Rattle.std.specs.Prelude.{◌≡◌, ℕ, Bool, true, false, List, ◌++◌, Some}
use Rattle.std.specs.List.{find}
use Rattle.std.specs.declared.cmp.Ordering.{Ordering}
use Rattle.store.specs.declared.version.Version.{Version}
use Rattle.trace.specs.Contents.{Content}
use Rattle.trace_history.specs.Events.{Numbered}
use Rattle.trace_history.specs.Source.{is_source}
use Rattle.trace_history.specs.Trace.{trace_events}
use Rattle.trace_replay.specs.Page.{is_final, page_answer, rows_at}
use Rattle.trace_run.specs.Calls.{KeyForm, calls_of}
use Rattle.trace_run.specs.SetUp.{SetUpNumbers}

module _ {K : Type 0} (form : KeyForm K) (order : K → K → Ordering) (setup : SetUpNumbers) (ms : List Content) (stamp : ℕ) where
  -- Behind these records too, accepted or refused, and then a close or none, the page is final, and it is the same.
  pub record IsStill (later : List Content) (closes : Bool) : Type 0 where
    pub final : is_final order setup (calls_of form (ms ++ later)) closes stamp ≡ true
    pub rows : rows_at order setup (calls_of form (ms ++ later)) closes stamp
        ≡ rows_at order setup (calls_of form ms) false stamp
    pub answer : page_answer order setup (calls_of form (ms ++ later)) closes stamp
        ≡ page_answer order setup (calls_of form ms) false stamp
    -- the event that was found for a version still is, so that a row's record and clock are the same
    pub found : (v : Version K) (e : Numbered K) → find (is_source v) (trace_events form order setup ms) ≡ Some e
        → find (is_source v) (trace_events form order setup (ms ++ later)) ≡ Some e

  -- A page that is final of an open recorder stays so, whatever comes later.
  abbrev pub PageStays : Type 0
  PageStays = is_final order setup (calls_of form ms) false stamp ≡ true
      → (later : List Content) (closes : Bool) → IsStill later closes

-- Every final page stays.
abbrev pub FinalPagesStay : {K : Type 0} → KeyForm K → (K → K → Ordering) → Type 0
FinalPagesStay form order = (setup : SetUpNumbers) (ms : List Content) (stamp : ℕ) → PageStays form order setup ms stamp
