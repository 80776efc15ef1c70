-- What each call of an open recorder answers: its checks in their order, and then the answer.
use Rattle.std.specs.Prelude.{ℕ, Bool, List, if◌then◌else◌, length, nat_le, Ok, Err, Option, Result}
use Rattle.std.specs.declared.cmp.Ordering.{Ordering}
use Rattle.clocks.specs.Bank.{Meaning}
use Rattle.clocks.specs.declared.sample.Sample.{Sample}
use Rattle.exchange.specs.Answers as exchange
use Rattle.stamps.specs.Rules.{StampedNumbers}
use Rattle.store.specs.Contents.{Contents}
use Rattle.store.specs.Newest.{newest}
use Rattle.store.specs.Page.{after_cut, cut_answer, page}
use Rattle.store.specs.declared.version.Version.{Version}
use Rattle.recorder.specs.State.{State, exchange_of, is_node}

-- Notes, sends, receipts and losses: as the nodes answer them, whatever is recorded.
module _ {B K : Type 0} (meaning : B → Meaning) (s : State B K) where
  -- the reading of the sample's node
  abbrev pub clock_answer : Sample → Result ℕ ℕ
  clock_answer sample = exchange.clock_answer meaning (exchange_of s) sample

  -- an event behind the node's last one: the clock's 8 or 9, then 10
  abbrev pub own_event : Sample → Result StampedNumbers ℕ
  own_event sample = exchange.own_event meaning (exchange_of s) sample

  -- 7, 8 or 9, 10
  abbrev pub note_answer : Sample → Result StampedNumbers ℕ
  note_answer sample = exchange.note_answer meaning (exchange_of s) sample

  -- 7 for either node, 11, 12, 8 or 9, 10
  abbrev pub send_answer : Sample → ℕ → ℕ → Result StampedNumbers ℕ
  send_answer sample to number = exchange.send_answer meaning (exchange_of s) sample to number

  -- 7, 13, 14, 8 or 9, 15, 10
  abbrev pub receipt_answer : Sample → ℕ → Result StampedNumbers ℕ
  receipt_answer sample number = exchange.receipt_answer meaning (exchange_of s) sample number

  -- a put: 7, 16, 8 or 9, 10
  abbrev pub put_answer : Sample → Result StampedNumbers ℕ
  put_answer sample =
      (if is_node s sample.node
      then (if nat_le s.contents.capacity (length s.contents.versions) then Err 16 else own_event sample)
      else Err 7)

-- 13
abbrev pub loss_answer : {B K : Type 0} → State B K → ℕ → Result (Unit {0}) ℕ
loss_answer s number = exchange.loss_answer (exchange_of s) number

-- Questions, where these stamp codes are settled, of these contents: of an open recorder, or of a closed one, where all are.
module _ {K : Type 0} (order : K → K → Ordering) (settled : ℕ → Bool) (contents : Contents K) where
  -- 18, and then the store's answer
  abbrev pub read_answer : K → ℕ → Result (Option (Version K)) ℕ
  read_answer key code = (if settled code then Ok (newest order contents.versions key code) else Err 18)

  -- 18, 19
  abbrev pub page_answer : ℕ → ℕ → Result ℕ ℕ
  page_answer code places = (if settled code then cut_answer (page order contents.versions code) places else Err 18)

  -- the caller's rows after a cut: a refused one leaves them
  abbrev pub after_page : ℕ → List (Version K) → List (Version K)
  after_page code rows = (if settled code then after_cut (page order contents.versions code) rows else rows)
