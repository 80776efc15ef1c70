-- Messages under way, and what the calls on them answer and change.
use Rattle.std.specs.Prelude.{◌≡◌, ℕ, ⊤, Bool, false, not, if◌then◌else◌, ◌==◌, List, [], ◌∷◌, ◌++◌, length, nat_le, Ok, Err}
use Rattle.std.specs.Prelude.{Option, Result, is_ok}
use Rattle.std.specs.List.{filter, find, list_any}
use Rattle.stamps.specs.Stamp.{Timestamp, stamp_of, zero_stamp}
use Rattle.messages.specs.declared.message.Message.{Message}

-- A message as numbers.
pub record MessageNumbers : Type 0 where
  pub number : ℕ
  -- the node that is to receive it
  pub to : ℕ
  -- the stamp of its send
  pub stamp : Timestamp

-- a message in numbers
abbrev pub message_numbers : Message → MessageNumbers
message_numbers m = record { number = m.number; to = m.to; stamp = stamp_of m.stamp }

-- what stands in a place that is free
abbrev pub no_message : MessageNumbers
no_message = record { number = 0; to = 0; stamp = zero_stamp }

-- has it this number?
abbrev pub has_number : ℕ → MessageNumbers → Bool
has_number number m = m.number == number

-- is a message of this number under way?
abbrev pub is_under_way : ℕ → List MessageNumbers → Bool
is_under_way number messages = list_any (has_number number) messages

-- the message of this number, or none
abbrev pub message_of : ℕ → List MessageNumbers → Option MessageNumbers
message_of number messages = find (has_number number) messages

-- the messages of all other numbers
abbrev pub without : ℕ → List MessageNumbers → List MessageNumbers
without number messages = filter (λ m. not (has_number number m)) messages

-- no number is under way twice: behind each message there is none of its number
abbrev pub AreDistinct : List MessageNumbers → Type 0
AreDistinct [] = ⊤
AreDistinct (m ∷ messages) = (is_under_way m.number messages ≡ false) × AreDistinct messages

-- so many messages are under way at most
abbrev pub most_under_way : ℕ
most_under_way = 64

-- whether a message of this number may be sent: 11 if one is under way, then 12 if there is no place for it
abbrev pub may_send_answer : ℕ → List MessageNumbers → Result (Unit {0}) ℕ
may_send_answer number messages =
    (if is_under_way number messages then Err 11
    else (if nat_le most_under_way (length messages) then Err 12 else Ok tt))

-- the messages after it, in the order in which they were sent; a refused one changes nothing
abbrev pub after_sending : MessageNumbers → List MessageNumbers → List MessageNumbers
after_sending m messages = (if is_ok (may_send_answer m.number messages) then messages ++ m ∷ [] else messages)
