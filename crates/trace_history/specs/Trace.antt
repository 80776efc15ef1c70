-- What a page of a trace is made of, beside its rows.
use Rattle.std.specs.Prelude.{ℕ, zero, suc, ◌+◌, Bool, if◌then◌else◌, List, min}
use Rattle.std.specs.declared.cmp.Ordering.{Ordering}
use Rattle.history.specs.Events.{Event}
use Rattle.history.specs.History.{last_stamp}
use Rattle.stamps.specs.Stamp.{code_of}
use Rattle.trace.specs.Contents.{Content}
use Rattle.trace_replay.specs.Machine.{trace_answers}
use Rattle.trace_replay.specs.Traced.{first_state}
use Rattle.trace_run.specs.Calls.{KeyForm, calls_of}
use Rattle.trace_run.specs.SetUp.{SetUpNumbers}
use Rattle.trace_history.specs.Events.{Numbered, numbered_events}

-- the events of the records behind a set-up, which is the first record
abbrev pub trace_events : {K : Type 0} → KeyForm K → (K → K → Ordering) → SetUpNumbers → List Content → List (Numbered K)
trace_events form order setup ms =
    numbered_events form 2 ms (trace_answers order setup.backstep (first_state setup) (calls_of form ms))

-- by so many milliseconds a stamp runs ahead of its node's clock at most: the lead plus the backstep
abbrev pub bound_of : SetUpNumbers → ℕ
bound_of setup = setup.settings.lead + setup.backstep

-- the highest stamp code
abbrev pub highest_code : ℕ
highest_code = 0xffff_ffff_ffff_ffff

-- the lowest of the last stamps of the nodes below n, as a code
abbrev pub lowest_last : {K : Type 0} → List (Event K) → ℕ → ℕ
lowest_last events zero = highest_code
lowest_last events (suc n) = min (lowest_last events n) (code_of (last_stamp events n))

-- the newest stamp code at which a page is final: of a closed recorder, the highest of all
abbrev pub newest_final : {K : Type 0} → Bool → List (Event K) → ℕ → ℕ
newest_final closes events nodes = (if closes then highest_code else lowest_last events nodes)
