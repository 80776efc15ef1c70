-- How the nodes stand, and what is under way between them.
use Rattle.std.specs.Prelude.{ℕ, ◌≤◌, Bool, List, [], length, nat_lt}
use Rattle.messages.specs.Messages.{MessageNumbers}
use Rattle.stamps.specs.Stamp.{Timestamp, code_of}
use Rattle.stamper.specs.Settings.{SettingNumbers}
use Rattle.stamper.specs.Stamps.{no_stamps, stamp_at}

-- The nodes with a bank of clocks of the type B.
pub record ExchangeState (B : Type 0) : Type 0 where
  -- by how much a message's time may be above the reading of the node that receives it
  pub lead : ℕ
  pub bank : B
  -- the stamp of each node's last event, 0.0 if it has none: as many as there are nodes
  pub last : List Timestamp
  -- the messages under way, in the order in which they were sent
  pub messages : List MessageNumbers

-- before the first event
abbrev pub fresh_exchange : {B : Type 0} → SettingNumbers → B → ExchangeState B
fresh_exchange settings bank =
    record { lead = settings.lead; bank = bank; last = no_stamps settings.nodes; messages = [] }

-- is there such a node?
abbrev pub is_node : {B : Type 0} → ExchangeState B → ℕ → Bool
is_node s node = nat_lt node (length s.last)

-- no node's last stamp falls back
abbrev pub GoesForward : List Timestamp → List Timestamp → Type 0
GoesForward old new = (node : ℕ) → code_of (stamp_at old node) ≤ code_of (stamp_at new node)
