-- What the law of whole runs says of the page of a trace.
use Rattle.std.specs.Prelude.{◌≡◌, ℕ, ◌+◌, ◌<◌, ◌≤◌, ◌↔◌, Bool, true, false, List, ◌∷◌, ◌++◌, length, map, Some, Ok, Result}
use Rattle.std.specs.declared.cmp.Ordering.{Ordering}
use Rattle.std.specs.List.{find}
use Rattle.clocks.specs.declared.sample.Sample.{Sample}
use Rattle.history.specs.Events.{Event, event_at, puts, version_of}
use Rattle.history.specs.History.{Entry, IsHistory, IsSettled, events_of, last_stamp}
use Rattle.history.specs.Law.{IsLawful}
use Rattle.replay.specs.Calls.{AnswerNumbers}
use Rattle.replay.specs.declared.call.Call.TheVariants as call
use Rattle.stamps.specs.Stamp.{code_of}
use Rattle.store.specs.Newest.{IsIn}
use Rattle.store.specs.Page.{IsPage}
use Rattle.store.specs.declared.version.Version.{Version}
use Rattle.trace.specs.Contents.{Content}
use Rattle.trace_history.specs.Events.{Numbered}
use Rattle.trace_history.specs.Puts.{put_records}
use Rattle.trace_history.specs.Source.{is_source}
use Rattle.trace_history.specs.Trace.{bound_of, highest_code, newest_final, trace_events}
use Rattle.trace_replay.specs.Page.{IsPaged, is_final, page_history, rows_at}
use Rattle.trace_replay.specs.Traced.{history_setup}
use Rattle.trace_run.specs.Calls.{KeyForm, call_of, calls_of}
use Rattle.trace_run.specs.SetUp.{SetUpNumbers}
use Rattle.page_law.specs.Stays.{PageStays}

-- The records of a trace behind its set-up.
module _ {K : Type 0} (form : KeyForm K) (order : K → K → Ordering) (setup : SetUpNumbers) (ms : List Content) where
  -- its events, as the history has them
  abbrev pub events : List (Event K)
  events = map (λ e. e.event) (trace_events form order setup ms)

  -- An event put a version.
  abbrev pub HasPut : Version K → Numbered K → Type 0
  HasPut v e = version_of e.event e.event.what ≡ Some v

  -- The record of an event puts a version's value under its key, at its node, with the event's reading as its raw number. (The
  -- set-up has the number 1.)
  pub record IsPutBy (v : Version K) (e : Numbered K) : Type 0 where
    pub earlier : List Content
    pub content : Content
    pub later : List Content
    pub place : ms ≡ earlier ++ content ∷ later
    pub count : e.number ≡ length earlier + 2
    pub sample : Sample
    pub node : sample.node ≡ v.node
    pub reading : sample.raw.0 ≡ e.event.reading
    pub calls : call_of form content ≡ Ok (call.Put sample v.key v.value)

  -- A version comes from this event: it put it, no other did, and the search for the first event of its node and stamp finds it.
  pub record IsFrom (v : Version K) (e : Numbered K) : Type 0 where
    pub put : HasPut v e
    pub recorded : IsPutBy v e
    pub no_other : (other : Numbered K) → IsIn other (trace_events form order setup ms) → HasPut v other → other ≡ e
    pub found : find (is_source v) (trace_events form order setup ms) ≡ Some e

  -- This node holds the page at a stamp back: its last stamp is below it.
  pub record HoldsBack (stamp node : ℕ) : Type 0 where
    pub is_node : node < setup.settings.nodes
    pub below : code_of (last_stamp events node) < stamp

  -- Then a close or none, and a cut at a stamp.
  module _ (closes : Bool) (stamp : ℕ) where
    -- the history that this comes to
    abbrev pub history : List (Entry K)
    history = page_history order setup (calls_of form ms) closes stamp

    -- the rows of the page
    abbrev pub rows : List (Version K)
    rows = rows_at order setup (calls_of form ms) closes stamp

    -- The page is final.
    abbrev pub IsFinal : Type 0
    IsFinal = is_final order setup (calls_of form ms) closes stamp ≡ true

    -- A final page has the newest versions of all puts of the trace, and each row comes from one event.
    pub record IsRight : Type 0 where
      pub page : IsPage order (puts events) stamp rows
      pub from : (v : Version K) → IsIn v rows → (e : Numbered K) × IsFrom v e

  module _ (closes : Bool) where
    -- This is the newest stamp code at which the page is final.
    pub record IsNewestFinal (newest : ℕ) : Type 0 where
      pub is_code : newest ≤ highest_code
      pub final : IsFinal closes newest
      pub none_newer : (stamp : ℕ) → stamp ≤ highest_code → IsFinal closes stamp → stamp ≤ newest

    -- What the law says of the page at a stamp.
    pub record IsInspected (stamp : ℕ) : Type 0 where
      -- the trace's run is a history, and keeps the law of whole runs; its events are those of the trace
      pub written : IsHistory order (history_setup setup) (history closes stamp)
      pub lawful : IsLawful order (history_setup setup) (history closes stamp)
      pub events_are : events ≡ events_of (history closes stamp)
      -- no stamp's time is above its event's reading by more than the bound
      pub bound : (j : ℕ) → j < length events
          → (event_at events j).stamp.time ≤ (event_at events j).reading + bound_of setup
      -- no more puts were accepted than the trace has
      pub counted : length (puts events) ≤ put_records ms
      -- a page at any stamp is final exactly if that stamp is settled
      pub final : (at : ℕ) → IsFinal closes at ↔ IsSettled (history_setup setup) (history closes stamp) at
      -- the page of an open recorder is not final exactly if a node holds it back
      pub held_back : is_final order setup (calls_of form ms) closes stamp ≡ false
          ↔ (closes ≡ false) × ((node : ℕ) × HoldsBack stamp node)
      -- what is final is right
      pub right : IsFinal closes stamp → IsRight closes stamp
      -- a page that is final of the open recorder stays as it is, whatever comes later
      pub stays : PageStays form order setup ms stamp
      -- the newest stamp at which a page is final
      pub newest : IsNewestFinal (newest_final closes events setup.settings.nodes)

-- Whatever page is answered, the law says this of it.
abbrev pub PagesAreInspected : {K : Type 0} → KeyForm K → (K → K → Ordering) → Type 0
PagesAreInspected {K} form order = (setup : SetUpNumbers) (ms : List Content) (closes : Bool) (stamp : ℕ)
    → (answers : List (AnswerNumbers K)) (answered : Result (List (Version K)) ℕ)
    → IsPaged order setup (calls_of form ms) closes stamp answers answered → IsInspected form order setup ms closes stamp
