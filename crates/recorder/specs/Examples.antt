-- Worked examples: what the definitions of the stamp rules, the clocks and the recorder come to.
use Rattle.std.specs.Prelude.{◌≡◌, ℕ, ℤ, negsuc, [], Some, None, Ok, Err, Option, Result}
use Rattle.std.specs.Ordering.{nat_cmp}
use Rattle.clocks.specs.Bank.{Meaning}
use Rattle.clocks.specs.Highs.{fresh_highs, raised_high}
use Rattle.clocks.specs.OffsetLayer.{offset_answer}
use Rattle.clocks.specs.TraceClocks.{trace_answer, trace_meaning}
use Rattle.clocks.specs.declared.sample.Sample.{Sample}
use Rattle.stamps.specs.Rules.{StampedNumbers, lead_receipt_answer, own_answer, receipt_answer}
use Rattle.stamps.specs.Stamp.{Timestamp, code_of, zero_stamp}
use Rattle.store.specs.declared.version.Version.{Version}
use Rattle.stamper.specs.Readings.{at_reading}
use Rattle.recorder.specs.Answers.{put_answer, read_answer}
use Rattle.recorder.specs.Changes.{after_put}
use Rattle.recorder.specs.State.{State, fresh_state, is_settled}

-- the stamp l.c
abbrev at : ℕ → ℕ → Timestamp
at l c = record { time = l; counter = c }

-- an event gets the stamp l.c, with this drift
abbrev stamped : ℕ → ℕ → ℕ → Result StampedNumbers ℕ
stamped l c drift = Ok (record { stamp = at l c; drift = drift })

-- a note behind this stamp, at what the clock answered
abbrev noted : Timestamp → Result ℕ ℕ → Result StampedNumbers ℕ
noted last clock = at_reading (own_answer last) clock

-- a recorder of two nodes, with trace clocks, a lead of 500 and a backstep of 20; keys are numbers
abbrev clocks : (ℕ → ℕ) → Meaning
clocks highs = trace_meaning highs 20

-- a recorder of nothing
abbrev fresh : State (ℕ → ℕ) ℕ
fresh = fresh_state (record { nodes = 2; lead = 500 }) fresh_highs (record { versions = []; capacity = 1024 })

-- key 7 is put by this node, at the raw number 1000
abbrev put_at_1000 : State (ℕ → ℕ) ℕ → ℕ → ℤ → State (ℕ → ℕ) ℕ
put_at_1000 s node value =
    let sample : Sample = record { node = node; raw = record { 0 = 1000 } } in
    after_put s nat_cmp sample 7 value (put_answer clocks s sample) (raised_high node 1000 s.bank)

-- and this is what it left
abbrev version : ℕ → ℤ → Version ℕ
version node value = record { key = 7; stamp = code_of (at 1000 0); node = node; value = value }

-- what a read of key 7 answers at this stamp code
abbrev read_by : State (ℕ → ℕ) ℕ → ℕ → Result (Option (Version ℕ)) ℕ
read_by s code = read_answer nat_cmp (is_settled s) s.contents 7 code

-- the worked examples
abbrev pub Examples : Type 0
Examples =
    -- the last stamp is 1000.65535: a note at 1000 is refused with 10, at 1001 it gets 1001.0
    (noted (at 1000 65535) (Ok 1000) ≡ Err 10)
    × (noted (at 1000 65535) (Ok 1001) ≡ stamped 1001 0 0)
    -- the last stamp is 1000.4 and the message's 1000.9: at 1000 the receipt gets 1000.10, at 1001 it gets 1001.0
    × (receipt_answer (at 1000 4) (at 1000 9) 1000 ≡ stamped 1000 10 0)
    × (receipt_answer (at 1000 4) (at 1000 9) 1001 ≡ stamped 1001 0 0)
    -- the message's is 1001.9, and the lead 1: at 1000 the receipt gets 1001.10
    × (lead_receipt_answer 1 (at 1000 4) (at 1001 9) 1000 ≡ stamped 1001 10 1)
    -- the lead is 500, and the node has no stamp: at 1000 a message of time 1500 gives drift 500, one of 1501 is refused with 15
    × (lead_receipt_answer 500 zero_stamp (at 1500 0) 1000 ≡ stamped 1500 1 500)
    × (lead_receipt_answer 500 zero_stamp (at 1501 0) 1000 ≡ Err 15)
    -- then, with a high of 1000 and a backstep of 20, a note at 980 has drift 520, and at 979 it is refused with 9
    × (noted (at 1500 1) (trace_answer 1000 20 980) ≡ stamped 1500 2 520)
    × (noted (at 1500 1) (trace_answer 1000 20 979) ≡ Err 9)
    -- an offset of -1000 over the reading 1000 is refused with 8, over 1001 it gives 1
    × (offset_answer (negsuc 999) (Ok 1000) ≡ Err 8)
    × (offset_answer (negsuc 999) (Ok 1001) ≡ Ok 1)
    -- one key is put at 1000.0 by nodes 0 and 1: a read at 1000.0 gives node 1's
    × (read_by (put_at_1000 (put_at_1000 fresh 0 (negsuc 8999)) 1 (negsuc 8499)) (code_of (at 1000 0))
    ≡ Ok (Some (version 1 (negsuc 8499))))
    -- a fresh recorder answers none at the stamp code 0, and is refused with 18 at the code 1
    × (read_by fresh 0 ≡ Ok None)
    × (read_by fresh 1 ≡ Err 18)
