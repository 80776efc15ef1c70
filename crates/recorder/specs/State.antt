-- How a recorder stands.
use Rattle.std.specs.Prelude.{ℕ, ◌≤◌, ◌==◌, if◌then◌else◌, List, [], length, Bool, nat_lt, Ok, Err, Result}
use Rattle.exchange.specs.State.{ExchangeState}
use Rattle.messages.specs.Messages.{MessageNumbers}
use Rattle.stamps.specs.Stamp.{Timestamp, code_of}
use Rattle.store.specs.Contents.{Contents}
use Rattle.store.specs.Newest.{IsIn}
use Rattle.store.specs.declared.version.Version.{Version}
use Rattle.stamper.specs.Settings.{SettingNumbers}
use Rattle.stamper.specs.Stamps.{no_stamps, none_below, stamp_at}

-- An open recorder with a bank of clocks of the type B, and keys of the type K.
pub record State (B K : Type 0) : Type 0 where
  -- by how much a message's time may be above the reading of the node that receives it
  pub lead : ℕ
  pub bank : B
  -- the stamp of each node's last event, 0.0 if it has none: as many as there are nodes
  pub last : List Timestamp
  -- the messages under way, in the order in which they were sent
  pub messages : List MessageNumbers
  -- the versions in its store
  pub contents : Contents K

-- the nodes and the messages between them, whatever is recorded
abbrev pub exchange_of : {B K : Type 0} → State B K → ExchangeState B
exchange_of s = record { lead = s.lead; bank = s.bank; last = s.last; messages = s.messages }

-- as it is set up
abbrev pub fresh_state : {B K : Type 0} → SettingNumbers → B → Contents K → State B K
fresh_state settings bank contents =
    record { lead = settings.lead; bank = bank; last = no_stamps settings.nodes; messages = []; contents = contents }

-- a store is fit to be recorded into if it is empty: else 4
abbrev pub empty_answer : {K : Type 0} → Contents K → Result (Contents K) ℕ
empty_answer contents = (if length contents.versions == 0 then Ok contents else Err 4)

-- is there such a node?
abbrev pub is_node : {B K : Type 0} → State B K → ℕ → Bool
is_node s node = nat_lt node (length s.last)

-- a stamp code is settled if no node's last stamp is below it
abbrev pub is_settled : {B K : Type 0} → State B K → ℕ → Bool
is_settled s code = none_below s.last code

-- no version is above the last stamp of its node, so that no put finds its own key, stamp and node in the store
abbrev pub IsBehind : {K : Type 0} → List Timestamp → Contents K → Type 0
IsBehind {K} last contents = (v : Version K) → IsIn v contents.versions → v.stamp ≤ code_of (stamp_at last v.node)

-- A closed recorder takes no event any more, and every stamp is settled.
pub record ClosedState (K : Type 0) : Type 0 where
  -- the messages that were under way
  pub messages : List MessageNumbers
  pub contents : Contents K

-- what is left of it at the close
abbrev pub closed_state : {B K : Type 0} → State B K → ClosedState K
closed_state s = record { messages = s.messages; contents = s.contents }
