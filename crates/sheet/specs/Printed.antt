-- A page as it is printed.
use Rattle.std.specs.Prelude.{ℕ, Bool, List, ◌++◌, map, Ok, Err, Result}
use Rattle.sheet_lines.specs.Lines.{head_lines, page_lines, waiting_lines}
use Rattle.sheet_lines.specs.Puts.{put_counts}
use Rattle.store.specs.declared.version.Version.{Version}
use Rattle.trace.specs.Contents.{Content}
use Rattle.trace_history.specs.Events.{Numbered}
use Rattle.trace_run.specs.SetUp.{SetUpNumbers}

-- The keys have these names; the recorder was set up so, and was closed or not; its trace came to these events.
module _ {K : Type 0} (name : K → List ℕ) (setup : SetUpNumbers) (closed : Bool) (stamp : ℕ) (events : List (Numbered K)) where
  -- what stands below the head: the page, or why it is refused
  abbrev pub body_lines : Result (List (Version K)) ℕ → List ℕ
  body_lines (Ok rows) = page_lines name closed events rows
  body_lines (Err refusal) = waiting_lines refusal (map (λ e. e.event) events) stamp setup.settings.nodes

  -- the sheet
  unfoldable pub printed : List Content → Result (List (Version K)) ℕ → List ℕ
  printed ms page = head_lines setup (put_counts ms (map (λ e. e.event) events)) stamp ++ body_lines page
