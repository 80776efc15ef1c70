-- What a recorder is set up with, each tested for its range once: the settings, or 4.
use Rattle.std.specs.Prelude.{ℕ, ◌&&◌, if◌then◌else◌, Ok, Err, Result, nat_le}
use Rattle.clocks.specs.Limits.{day_millis}
use Rattle.stamps.specs.Lead.{lead_of}
use Rattle.stamper.specs.declared.settings.Settings.{Settings}

-- Settings as numbers: how many nodes there are, and E, by how many milliseconds a message's time may be above the reading of the
-- node that receives it.
pub record SettingNumbers : Type 0 where
  pub nodes : ℕ
  pub lead : ℕ

-- the settings in numbers
abbrev pub setting_numbers : Settings → SettingNumbers
setting_numbers s = record { nodes = s.nodes; lead = lead_of s.lead }

-- so many nodes at most
abbrev pub most_nodes : ℕ
most_nodes = 16

-- one node to sixteen, and a lead of at most a day
abbrev pub settings_answer : ℕ → ℕ → Result SettingNumbers ℕ
settings_answer nodes lead =
    (if nat_le 1 nodes && (nat_le nodes most_nodes && nat_le lead day_millis)
    then Ok (record { nodes = nodes; lead = lead })
    else Err 4)
