-- The set-up, which the first record has to be.
use Rattle.std.specs.Prelude.{ℕ, ◌&&◌, ◌==◌, if◌then◌else◌, Ok, Err, Result, nat_le}
use Rattle.clocks.specs.Limits.{day_millis}
use Rattle.stamper.specs.Settings.{SettingNumbers, most_nodes, setting_numbers}
use Rattle.trace.specs.Contents.{Content, set_up, note, send, receipt, loss, put_point, put_tag, read_point, read_tag}
use Rattle.clocks.specs.Settings.{backstep_of}
use Rattle.trace_run.specs.declared.setup.Keys.{Keys}
use Rattle.trace_run.specs.declared.setup.SetUp.{SetUp}
use Rattle.trace_run.specs.declared.setup.Keys.TheVariants.{Points, Tags}

-- what a set-up sets: the recorder, the kind of its keys, and how far a clock may step back
pub record SetUpNumbers : Type 0 where
  pub settings : SettingNumbers
  pub keys : Keys
  pub backstep : ℕ

-- a set-up in numbers
abbrev pub set_up_numbers : SetUp → SetUpNumbers
set_up_numbers s = record { settings = setting_numbers s.settings; keys = s.keys; backstep = backstep_of s.backstep }

-- 0 for points, 1 for tags
abbrev pub keys_answer : ℕ → Result Keys ℕ
keys_answer key_kind = (if key_kind == 0 then Ok Points else (if key_kind == 1 then Ok Tags else Err 4))

-- the set-up of a record: 5 if it is none, 4 if a number is out of its range
abbrev pub set_up_answer : Content → Result SetUpNumbers ℕ
set_up_answer (set_up nodes key_kind lead backstep) =
    (if nat_le 1 nodes && (nat_le nodes most_nodes
    && (nat_le key_kind 1 && (nat_le lead day_millis && nat_le backstep day_millis)))
    then Ok (record {
      settings = record { nodes = nodes; lead = lead };
      keys = (if key_kind == 0 then Points else Tags);
      backstep = backstep;
    })
    else Err 4)
set_up_answer (note node raw) = Err 5
set_up_answer (send node raw to message) = Err 5
set_up_answer (receipt node raw message) = Err 5
set_up_answer (loss message) = Err 5
set_up_answer (put_point node raw key value) = Err 5
set_up_answer (put_tag node raw key value) = Err 5
set_up_answer (read_point at key) = Err 5
set_up_answer (read_tag at key) = Err 5
