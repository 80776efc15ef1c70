-- The clocks of the nodes, and the stamps of their last events.
use Rattle.std.specs.Prelude.{ℕ, Bool, List, nat_le, replicate, slice_index_or, slice_set}
use Rattle.std.specs.List.{list_all}
use Rattle.stamps.specs.Stamp.{Timestamp, code_of, zero_stamp}
use Rattle.stamper.specs.Settings.{SettingNumbers}

-- of a node among these, 0.0 for any other
abbrev pub stamp_at : List Timestamp → ℕ → Timestamp
stamp_at last node = slice_index_or last node zero_stamp

-- of so many nodes that have none yet
abbrev pub no_stamps : ℕ → List Timestamp
no_stamps nodes = replicate nodes zero_stamp

-- the node's last stamp becomes this one
abbrev pub with_last : ℕ → Timestamp → List Timestamp → List Timestamp
with_last node stamp last = slice_set last node stamp

-- none of these stamps is below the code
abbrev pub none_below : List Timestamp → ℕ → Bool
none_below last code = list_all (λ stamp. nat_le code (code_of stamp)) last

-- What an event's stamp is made from, with a bank of clocks of the type B.
pub record Stamping (B : Type 0) : Type 0 where
  -- by how much a message's time may be above the reading of the node that receives it
  pub lead : ℕ
  pub bank : B
  -- the stamp of each node's last event, 0.0 if it has none: as many as there are nodes
  pub last : List Timestamp

-- before the first event
abbrev pub fresh_stamping : {B : Type 0} → SettingNumbers → B → Stamping B
fresh_stamping settings bank = record { lead = settings.lead; bank = bank; last = no_stamps settings.nodes }
