-- What each event changes, by its answer: a refused one nothing at all.
use Rattle.std.specs.Prelude.{ℕ, List, [], ◌∷◌, ◌++◌, Ok, Err, Result}
use Rattle.clocks.specs.declared.sample.Sample.{Sample}
use Rattle.messages.specs.Messages.{MessageNumbers, without}
use Rattle.stamper.specs.Stamps.{with_last}
use Rattle.stamps.specs.Rules.{StampedNumbers}
use Rattle.stamps.specs.Stamp.{Timestamp}
use Rattle.exchange.specs.State.{ExchangeState}

module _ {B : Type 0} (s : ExchangeState B) where
  -- an event of this node got this stamp: then the bank is this one, and so are the messages under way
  abbrev pub with_event : ℕ → Timestamp → B → List MessageNumbers → ExchangeState B
  with_event node stamp bank messages =
      record { lead = s.lead; bank = bank; last = with_last node stamp s.last; messages = messages }

  -- after a note; the bank is then this one
  abbrev pub after_note : Sample → Result StampedNumbers ℕ → B → ExchangeState B
  after_note sample (Ok event) bank = with_event sample.node event.stamp bank s.messages
  after_note sample (Err refusal) bank = s

  -- after a send: the message is under way, behind all others
  abbrev pub after_send : Sample → ℕ → ℕ → Result StampedNumbers ℕ → B → ExchangeState B
  after_send sample to number (Ok event) bank =
      let m : MessageNumbers = record { number = number; to = to; stamp = event.stamp } in
      with_event sample.node event.stamp bank (s.messages ++ m ∷ [])
  after_send sample to number (Err refusal) bank = s

  -- after a receipt: the message is used up
  abbrev pub after_receipt : Sample → ℕ → Result StampedNumbers ℕ → B → ExchangeState B
  after_receipt sample number (Ok event) bank = with_event sample.node event.stamp bank (without number s.messages)
  after_receipt sample number (Err refusal) bank = s

  -- after a loss: the message is used up
  abbrev pub after_loss : ℕ → Result (Unit {0}) ℕ → ExchangeState B
  after_loss number (Ok _) =
      record { lead = s.lead; bank = s.bank; last = s.last; messages = without number s.messages }
  after_loss number (Err refusal) = s
