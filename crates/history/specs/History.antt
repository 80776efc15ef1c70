-- The history of a run, and what may be written into it.
use Rattle.std.specs.Prelude.{◌≡◌, ℕ, ◌+◌, ◌<◌, ◌≤◌, ◌⊎◌, ⊤, ◌==◌, List, length, map, take, slice_index_or, Some, None, Option}
use Rattle.std.specs.declared.cmp.Ordering.{Ordering}
use Rattle.std.specs.List.{filter, filter_map, last_or}
use Rattle.std.specs.Option.{unwrap_or}
use Rattle.stamps.specs.Range.{max_counter}
use Rattle.stamps.specs.Rules.{own_stamp, receipt_stamp}
use Rattle.stamps.specs.Stamp.{Timestamp, code_of, zero_stamp}
use Rattle.store.specs.Newest.{IsIn, IsReadAnswer}
use Rattle.store.specs.Page.{IsPage}
use Rattle.store.specs.declared.version.Version.{Version}
use Rattle.history.specs.Events.{Event, Note, Put, Receipt, Send, What, event_at, puts}
use Rattle.history.specs.Before.{IsLastSend}

-- What a recorder is set up with.
pub record Setup : Type 0 where
  -- its nodes are 0, 1, and so on: so many
  pub nodes : ℕ
  -- E: by how much a message's time may be above the reading of the node that receives it
  pub lead : ℕ
  -- by how much each node's clock may fall below an earlier reading
  pub backstep : ℕ → ℕ

-- the stamp of the node's last event, 0.0 if it has none
abbrev pub last_stamp : {K : Type 0} → List (Event K) → ℕ → Timestamp
last_stamp events node = unwrap_or (last_or None (map (λ e. e.stamp) (filter (λ e. e.node == node) events))) zero_stamp

-- Event e received the message of this number behind `earlier`: the time of its send is not above the reading by more than the lead,
-- and e has the stamp that the rule gives.
pub record IsReceived {K : Type 0} (lead : ℕ) (earlier : List (Event K)) (e : Event K) (number : ℕ) : Type 0 where
  pub send : ℕ
  pub last_send : IsLastSend earlier number send
  pub not_ahead : (event_at earlier send).stamp.time ≤ e.reading + lead
  pub by_rule : e.stamp ≡ receipt_stamp (last_stamp earlier e.node) (event_at earlier send).stamp e.reading

-- the stamp of an event that did this behind `earlier` is the one that the stamp rules give
abbrev pub IsStamped : {K : Type 0} → ℕ → List (Event K) → Event K → What K → Type 0
IsStamped lead earlier e Note = e.stamp ≡ own_stamp (last_stamp earlier e.node) e.reading
IsStamped lead earlier e (Send number) = e.stamp ≡ own_stamp (last_stamp earlier e.node) e.reading
IsStamped lead earlier e (Put key value) = e.stamp ≡ own_stamp (last_stamp earlier e.node) e.reading
IsStamped lead earlier e (Receipt number) = IsReceived lead earlier e number

-- Event e may be entered behind the events `earlier`.
pub record MayEnter {K : Type 0} (setup : Setup) (earlier : List (Event K)) (e : Event K) : Type 0 where
  pub node : e.node < setup.nodes
  -- a reading is at least 1
  pub reading : 1 ≤ e.reading
  -- the bank's law: no earlier reading of the node is above this one by more than the node's backstep
  pub clock : (d : Event K) → IsIn d earlier → d.node ≡ e.node → d.reading ≤ e.reading + setup.backstep e.node
  pub stamped : IsStamped setup.lead earlier e e.what
  pub counter : e.stamp.counter ≤ max_counter

-- A history is what a run came to, in order: its events; the reads of a key at a stamp code, each with its answer; the cuts at a stamp
-- code, each with the number that it answered and its rows; and the close. Neither refused calls nor any others are in it.
pub data Entry (K : Type 0) : Type 0 where
  Entered : Event K → Entry K
  Read : K → ℕ → Option (Version K) → Entry K
  Cut : ℕ → ℕ → List (Version K) → Entry K
  Closed : Entry K

-- the event of an entry, if it is one
abbrev pub event_of : {K : Type 0} → Entry K → Option (Event K)
event_of (Entered e) = Some e
event_of (Read key stamp answer) = None
event_of (Cut stamp count rows) = None
event_of Closed = None

-- the events of a history, in order
abbrev pub events_of : {K : Type 0} → List (Entry K) → List (Event K)
events_of history = filter_map event_of history

-- what stands at a place of a history, from place 0 on (none behind the last is asked for)
abbrev pub entry_at : {K : Type 0} → List (Entry K) → ℕ → Entry K
entry_at history place = slice_index_or history place Closed

-- A stamp is settled: the recorder is closed, or no node's last stamp is below it.
abbrev pub IsSettled : {K : Type 0} → Setup → List (Entry K) → ℕ → Type 0
IsSettled setup history stamp =
    IsIn Closed history ⊎ ((node : ℕ) → node < setup.nodes → stamp ≤ code_of (last_stamp (events_of history) node))

module _ {K : Type 0} (order : K → K → Ordering) (setup : Setup) where
  -- What may be written behind `earlier`: an event that may be entered, until the close; the answer to a read or a cut at a
  -- settled stamp, by the puts so far; a close.
  abbrev pub MayBeWritten : List (Entry K) → Entry K → Type 0
  MayBeWritten earlier (Entered e) = (IsIn Closed earlier → ⊥) × MayEnter setup (events_of earlier) e
  MayBeWritten earlier (Read key stamp answer) =
      IsSettled setup earlier stamp × IsReadAnswer (puts (events_of earlier)) key stamp answer
  MayBeWritten earlier (Cut stamp count rows) =
      IsSettled setup earlier stamp × IsPage order (puts (events_of earlier)) stamp rows × (count ≡ length rows)
  MayBeWritten earlier Closed = ⊤

  -- a history: each of its entries may be written behind those before it
  abbrev pub IsHistory : List (Entry K) → Type 0
  IsHistory history = (j : ℕ) → j < length history → MayBeWritten (take j history) (entry_at history j)
