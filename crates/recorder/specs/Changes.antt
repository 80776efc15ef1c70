-- What each call of an open recorder changes, by its answer: a refused one nothing at all.
use Rattle.std.specs.Prelude.{ℕ, ℤ, List, Ok, Err, Result}
use Rattle.std.specs.declared.cmp.Ordering.{Ordering}
use Rattle.clocks.specs.declared.sample.Sample.{Sample}
use Rattle.exchange.specs.Changes as exchange
use Rattle.exchange.specs.State.{ExchangeState}
use Rattle.messages.specs.Messages.{MessageNumbers}
use Rattle.stamps.specs.Rules.{StampedNumbers}
use Rattle.stamps.specs.Stamp.{Timestamp, code_of}
use Rattle.store.specs.Contents.{Contents}
use Rattle.store.specs.Versions.{with_version}
use Rattle.store.specs.declared.version.Version.{Version}
use Rattle.stamper.specs.Stamps.{with_last}
use Rattle.recorder.specs.State.{State, exchange_of}

module _ {B K : Type 0} (s : State B K) where
  -- an event of this node got this stamp: then the bank is this one, and so are the messages under way and the contents
  abbrev pub with_event : ℕ → Timestamp → B → List MessageNumbers → Contents K → State B K
  with_event node stamp bank messages contents = record {
    lead = s.lead;
    bank = bank;
    last = with_last node stamp s.last;
    messages = messages;
    contents = contents;
  }

  -- with the nodes as they are then: the contents stay
  abbrev pub with_exchange : ExchangeState B → State B K
  with_exchange e = record { lead = e.lead; bank = e.bank; last = e.last; messages = e.messages; contents = s.contents }

  -- after a note; the bank is then this one
  abbrev pub after_note : Sample → Result StampedNumbers ℕ → B → State B K
  after_note sample answer bank = with_exchange (exchange.after_note (exchange_of s) sample answer bank)

  -- after a send: the message is under way, behind all others
  abbrev pub after_send : Sample → ℕ → ℕ → Result StampedNumbers ℕ → B → State B K
  after_send sample to number answer bank =
      with_exchange (exchange.after_send (exchange_of s) sample to number answer bank)

  -- after a receipt: the message is used up
  abbrev pub after_receipt : Sample → ℕ → Result StampedNumbers ℕ → B → State B K
  after_receipt sample number answer bank =
      with_exchange (exchange.after_receipt (exchange_of s) sample number answer bank)

  -- after a loss: the message is used up
  abbrev pub after_loss : ℕ → Result (Unit {0}) ℕ → State B K
  after_loss number answer = with_exchange (exchange.after_loss (exchange_of s) number answer)

  module _ (order : K → K → Ordering) where
    -- with one version more
    abbrev pub with_put : Version K → Contents K
    with_put v = record { versions = with_version order v s.contents.versions; capacity = s.contents.capacity }

    -- after a put: the store has its version too, with the event's stamp
    abbrev pub after_put : Sample → K → ℤ → Result StampedNumbers ℕ → B → State B K
    after_put sample key value (Ok event) bank =
        let v : Version K = record { key = key; stamp = code_of event.stamp; node = sample.node; value = value } in
        with_event sample.node event.stamp bank s.messages (with_put v)
    after_put sample key value (Err refusal) bank = s
