-- The stamp rules of a hybrid logical clock.
use Rattle.std.specs.Prelude.{ℕ, ◌+◌, ◌-◌, max, if◌then◌else◌, Ok, Err, Result, ◌==◌, nat_le}
use Rattle.stamps.specs.Range.{max_counter}
use Rattle.stamps.specs.Lead.{is_too_far_ahead}
use Rattle.stamps.specs.Stamp.{Timestamp, stamp_of}
use Rattle.stamps.specs.declared.stamped.Stamped.{Stamped}

-- A note, send or put, from the node's last stamp and the reading: the time is the larger of the two; the counter goes on
-- where the time stays, else it starts at 0.
abbrev pub own_stamp : Timestamp → ℕ → Timestamp
own_stamp last reading =
    let time : ℕ = max last.time reading in
    record { time = time; counter = (if time == last.time then last.counter + 1 else 0) }

-- A receipt of the message stamped `sent`: the time is the largest of the three; the counter goes on from the stamps that
-- have this time, from the larger counter if both have it, else it starts at 0.
abbrev pub receipt_stamp : Timestamp → Timestamp → ℕ → Timestamp
receipt_stamp last sent reading =
    let time : ℕ = max (max last.time sent.time) reading in
    record {
      time = time;
      counter =
          (if time == last.time
          then (if time == sent.time then max last.counter sent.counter + 1 else last.counter + 1)
          else (if time == sent.time then sent.counter + 1 else 0));
    }

-- What an event answers, as numbers: its stamp, and its drift, the stamp's time less the reading.
pub record StampedNumbers : Type 0 where
  pub stamp : Timestamp
  pub drift : ℕ

-- what an event answers, in numbers
abbrev pub stamped_numbers : Stamped → StampedNumbers
stamped_numbers stamped = record { stamp = stamp_of stamped.stamp; drift = stamped.drift }

-- a stamp with its drift from the reading, or 10 where its counter would be 65536
abbrev pub event_answer : Timestamp → ℕ → Result StampedNumbers ℕ
event_answer stamp reading =
    (if nat_le stamp.counter max_counter then Ok (record { stamp = stamp; drift = stamp.time - reading }) else Err 10)

-- what a note, send or put answers
abbrev pub own_answer : Timestamp → ℕ → Result StampedNumbers ℕ
own_answer last reading = event_answer (own_stamp last reading) reading

-- what a receipt answers
abbrev pub receipt_answer : Timestamp → Timestamp → ℕ → Result StampedNumbers ℕ
receipt_answer last sent reading = event_answer (receipt_stamp last sent reading) reading

-- what a receipt answers where messages may be ahead by the lead: 15, then 10
abbrev pub lead_receipt_answer : ℕ → Timestamp → Timestamp → ℕ → Result StampedNumbers ℕ
lead_receipt_answer lead last sent reading =
    (if is_too_far_ahead lead sent.time reading then Err 15 else receipt_answer last sent reading)
