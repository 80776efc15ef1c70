-- What each event answers: its checks in their order, and then the answer.
use Rattle.std.specs.Prelude.{ℕ, ◌&&◌, if◌then◌else◌, ◌==◌, Some, None, Ok, Err, Option, Result}
use Rattle.clocks.specs.Bank.{Meaning, look_answer}
use Rattle.clocks.specs.declared.sample.Sample.{Sample}
use Rattle.messages.specs.Messages.{MessageNumbers, is_under_way, message_of, may_send_answer}
use Rattle.stamper.specs.Readings.{at_reading, taken_answer}
use Rattle.stamper.specs.Stamps.{stamp_at}
use Rattle.stamps.specs.Rules.{StampedNumbers, lead_receipt_answer, own_answer}
use Rattle.exchange.specs.State.{ExchangeState, is_node}

module _ {B : Type 0} (meaning : B → Meaning) (s : ExchangeState B) where
  -- the reading of the sample's node
  abbrev pub clock_answer : Sample → Result ℕ ℕ
  clock_answer sample = look_answer (meaning s.bank) sample.node sample.raw.0

  -- an event behind the node's last one: the clock's 8 or 9, then 10
  abbrev pub own_event : Sample → Result StampedNumbers ℕ
  own_event sample = at_reading (own_answer (stamp_at s.last sample.node)) (clock_answer sample)

  -- whether an event may be entered: 7, then the clock's 8 or 9
  abbrev pub enter_answer : Sample → Result (Unit {0}) ℕ
  enter_answer sample = (if is_node s sample.node then taken_answer (clock_answer sample) else Err 7)

  -- 7, 8 or 9, 10
  abbrev pub note_answer : Sample → Result StampedNumbers ℕ
  note_answer sample = (if is_node s sample.node then own_event sample else Err 7)

  -- the event, where a message may be sent
  abbrev pub if_sent : Sample → Result (Unit {0}) ℕ → Result StampedNumbers ℕ
  if_sent sample (Ok _) = own_event sample
  if_sent sample (Err number) = Err number

  -- 7 for either node, 11, 12, 8 or 9, 10
  abbrev pub send_answer : Sample → ℕ → ℕ → Result StampedNumbers ℕ
  send_answer sample to number =
      (if is_node s sample.node && is_node s to then if_sent sample (may_send_answer number s.messages) else Err 7)

  -- the event, where a message was found
  abbrev pub if_found : Sample → Option MessageNumbers → Result StampedNumbers ℕ
  if_found sample None = Err 13
  if_found sample (Some m) =
      (if m.to == sample.node
      then at_reading (lead_receipt_answer s.lead (stamp_at s.last sample.node) m.stamp) (clock_answer sample)
      else Err 14)

  -- 7, 13, 14, 8 or 9, 15, 10
  abbrev pub receipt_answer : Sample → ℕ → Result StampedNumbers ℕ
  receipt_answer sample number =
      (if is_node s sample.node then if_found sample (message_of number s.messages) else Err 7)

-- 13
abbrev pub loss_answer : {B : Type 0} → ExchangeState B → ℕ → Result (Unit {0}) ℕ
loss_answer s number = (if is_under_way number s.messages then Ok tt else Err 13)
