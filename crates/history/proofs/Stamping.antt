-- Each entered event follows from single steps, and is ahead of its node's readings by the lead at most.
use Rattle.std.proofs.Common.{◌≡◌, ℕ, suc, ◌+◌, ◌<◌, ◌≤◌, ◌⊎◌, inl, inr, List, length, refl, sym, ap, ◌∙◌, arith}
use Rattle.std.specs.Prelude.{take}
use Rattle.std.proofs.lemmas.Bool.{cases_lt, cases_order}
use Rattle.std.proofs.lemmas.Bool.Decides.{nat_tests}
use Rattle.std.proofs.lemmas.List.{length-take-le}
use Rattle.stamps.specs.Rules.{own_stamp, receipt_stamp}
use Rattle.stamps.specs.Stamp.{Timestamp, code_of}
use Rattle.history.specs.Events.{Event, Note, Put, Receipt, Send, What, event_at}
use Rattle.history.specs.Before.{ByMessage, HappenedBefore, InOneStep, IsLastSend, IsStep, OnOneNode}
use Rattle.history.specs.History.{IsReceived, IsStamped, Setup, last_stamp}
use Rattle.history.proofs.Last.{HasLast, IsLastOf, has_last}
use Rattle.history.proofs.Lists.{by_earlier}
use Rattle.history.proofs.Places.{AreEntered, NodesRise, at_take, before_less, before_to, in_take, last_send_once}
use Rattle.history.proofs.Chains.{Follows, IsLater, later, later_through}

-- stamp t starts at a reading: it has this time, and the counter 0
abbrev StartsAt : ℕ → Timestamp → Type 0
StartsAt reading t = (reading ≡ t.time) × (t.counter ≡ 0)

-- stamp t goes on from s: it has the same time, and the next counter
abbrev GoesOn : Timestamp → Timestamp → Type 0
GoesOn s t = (s.time ≡ t.time) × (t.counter ≡ suc s.counter)

-- a stamp is later than those that its rule names, and starts at the reading or goes on from one of them
module _ (last : Timestamp) (reading : ℕ) where
  after_own : IsLater last (own_stamp last reading)
  after_own = record { time = omega arith; counter = λ same. grind (arith, nat_tests) }

  own_from : StartsAt reading (own_stamp last reading) ⊎ GoesOn last (own_stamp last reading)
  own_from = grind (arith, nat_tests)

  module _ (sent : Timestamp) where
    after_last : IsLater last (receipt_stamp last sent reading)
    after_last = record { time = omega arith; counter = λ same. grind (arith, nat_tests) }

    after_sent : IsLater sent (receipt_stamp last sent reading)
    after_sent = record { time = omega arith; counter = λ same. grind (arith, nat_tests) }

    receipt_from : StartsAt reading (receipt_stamp last sent reading)
        ⊎ (GoesOn last (receipt_stamp last sent reading) ⊎ GoesOn sent (receipt_stamp last sent reading))
    receipt_from = grind (arith, nat_tests)

-- the last stamp of event j's node before it
abbrev its_last : {K : Type 0} → List (Event K) → ℕ → Timestamp
its_last events j = last_stamp (take j events) (event_at events j).node

module _ {K : Type 0} (lead : ℕ) (events : List (Event K)) (j : ℕ) where
  -- Event j's stamp is not before its reading, and later than its node's last and its message's; it starts at the reading, or goes on
  -- from the last, or from that of a message which is ahead by the lead at most.
  record IsRuled : Type 0 where
    not_early : (event_at events j).reading ≤ (event_at events j).stamp.time
    after_last : IsLater (its_last events j) (event_at events j).stamp
    after_sent : (number i : ℕ) → (event_at events j).what ≡ Receipt number → IsLastSend (take j events) number i
        → IsLater (event_at events i).stamp (event_at events j).stamp
    from : StartsAt (event_at events j).reading (event_at events j).stamp
        ⊎ (GoesOn (its_last events j) (event_at events j).stamp
        ⊎ ((i : ℕ) × IsStep events i j × GoesOn (event_at events i).stamp (event_at events j).stamp
        × ((event_at events j).stamp.time ≤ (event_at events j).reading + lead)))

  own_is_ruled : ((number : ℕ) → (event_at events j).what ≡ Receipt number → ⊥)
      → (event_at events j).stamp ≡ own_stamp (its_last events j) (event_at events j).reading → IsRuled
  own_is_ruled no_receipt is = record {
    not_early = rw is (omega arith);
    after_last = rw is (after_own (its_last events j) (event_at events j).reading);
    after_sent = λ number i receipt last. absurd (no_receipt number receipt);
    from = elim (own_from (its_last events j) (event_at events j).reading)
        [ inl start ↦ inl (rw is start) | inr last ↦ inr (inl (rw is last)) ];
  }

  receipt_is_ruled : (number : ℕ) → j < length events → (event_at events j).what ≡ Receipt number
      → IsReceived lead (take j events) (event_at events j) number → IsRuled
  receipt_is_ruled number inside receipt stamped =
      let same = at_take events j stamped.send (omega (arith, stamped.last_send.inside, length-take-le j events)) in
      let is : (event_at events j).stamp
      ≡ receipt_stamp (its_last events j) (event_at events stamped.send).stamp (event_at events j).reading =
      rw (← same) stamped.by_rule in
      let ahead : (event_at events stamped.send).stamp.time ≤ (event_at events j).reading + lead =
      rw (← same) stamped.not_ahead in
      record {
        not_early = rw is (omega arith);
        after_last = rw is (after_last (its_last events j) (event_at events j).reading (event_at events stamped.send).stamp);
        after_sent = λ other i receipt′ last.
            let numbers : other ≡ number = cc (receipt, receipt′) in
            let places : i ≡ stamped.send = last_send_once (rw numbers at last) stamped.last_send in
            rw (places, is) (after_sent (its_last events j) (event_at events j).reading (event_at events stamped.send).stamp);
        from = elim (receipt_from (its_last events j) (event_at events j).reading (event_at events stamped.send).stamp) [
          | inl start ↦ inl (rw is start)
          | inr (inl last) ↦ inr (inl (rw is last))
          | inr (inr sent) ↦ inr (inr (
            stamped.send,
            ByMessage number inside receipt stamped.last_send,
            rw is sent,
            rw is (omega (arith, ahead, sent.0)),
          ))
        ];
      }

  is_ruled_by : j < length events → (what : What K) → (event_at events j).what ≡ what
      → IsStamped lead (take j events) (event_at events j) what → IsRuled
  is_ruled_by inside Note is stamped = own_is_ruled (λ number receipt. cc (is, receipt)) stamped
  is_ruled_by inside (Send n) is stamped = own_is_ruled (λ number receipt. cc (is, receipt)) stamped
  is_ruled_by inside (Put key value) is stamped = own_is_ruled (λ number receipt. cc (is, receipt)) stamped
  is_ruled_by inside (Receipt number) is stamped = receipt_is_ruled number inside is stamped

module _ {K : Type 0} {setup : Setup} {events : List (Event K)} (entered : AreEntered setup events) where
  is_ruled : (j : ℕ) → j < length events → IsRuled setup.lead events j
  is_ruled j inside = is_ruled_by setup.lead events j inside (event_at events j).what refl (entered j inside).stamped

  -- no time is before its reading
  pub not_early : (j : ℕ) → j < length events → (event_at events j).reading ≤ (event_at events j).stamp.time
  not_early j inside = (is_ruled j inside).not_early

  -- the last event of event j's node before it
  last_before : (j : ℕ) → j < length events → HasLast events (event_at events j).node j
  last_before j inside = has_last events (event_at events j).node j (omega (arith, inside))

  -- each stamp is later than all those of its node before it
  later_on_node : (j : ℕ) → j < length events → (i : ℕ) → i < j → (event_at events i).node ≡ (event_at events j).node
      → IsLater (event_at events i).stamp (event_at events j).stamp
  later_on_node = by_earlier _ (λ j earlier inside i less same. elim (last_before j inside) [
    | inl last ↦
        let step : IsLater (event_at events last.0).stamp (event_at events j).stamp =
        rw last.1.stamp (is_ruled j inside).after_last in
        elim (cases_order i last.0) [
          | inl at_last ↦ rw at_last step
          | inr (inl before) ↦ later_through
              (earlier last.0 last.1.before (omega (arith, last.1.before, inside)) i before (same ∙ sym last.1.of_node)) step
          | inr (inr behind) ↦ absurd (last.1.none_behind i less behind same)
        ]
    | inr none ↦ absurd (none.none i less same)
  ])

  -- and than those from which one step leads to it
  later_step : (i j : ℕ) → IsStep events i j → IsLater (event_at events i).stamp (event_at events j).stamp
  later_step i j (OnOneNode less inside same) = later_on_node j inside i less same
  later_step i j (ByMessage number inside receipt last) = (is_ruled j inside).after_sent number i receipt last

  -- a stamp that goes on from the last of its node goes on from that of the node's last event
  from_last : (j : ℕ) → j < length events → GoesOn (its_last events j) (event_at events j).stamp
      → (i : ℕ) × IsLastOf events (event_at events j).node j i × GoesOn (event_at events i).stamp (event_at events j).stamp
  from_last j inside on = elim (last_before j inside) [
    | inl last ↦ (last.0, last.1, rw last.1.stamp on)
    | inr none ↦ absurd (omega (arith, on.0, ap (λ s. s.time) none.stamp, not_early j inside, (entered j inside).reading))
  ]

  -- a stamp starts at the reading, or goes on from that of an event from which a step leads to its own
  from_step : (j : ℕ) → j < length events → StartsAt (event_at events j).reading (event_at events j).stamp
      ⊎ ((i : ℕ) × IsStep events i j × GoesOn (event_at events i).stamp (event_at events j).stamp)
  from_step j inside = elim (is_ruled j inside).from [
    | inl start ↦ inl start
    | inr (inl on) ↦ let last = from_last j inside on in inr (last.0, OnOneNode last.1.before inside last.1.of_node, last.2)
    | inr (inr sent) ↦ inr (sent.0, sent.1, sent.2)
  ]

  pub follows : (j : ℕ) → j < length events → Follows events j
  follows j inside = record {
    later = λ i step. later_step i j step;
    own = not_early j inside;
    time = elim (from_step j inside) [ inl start ↦ inl start.0 | inr from ↦ inr (from.0, from.1, from.2.0) ];
    counter = elim (from_step j inside) [ inl start ↦ inl start.1 | inr from ↦ inr (from.0, from.1, from.2.0, from.2.1) ];
  }

  -- The time of event j is above some reading of its node, event j's or an earlier one's, by the lead at most.
  record IsNear (j : ℕ) : Type 0 where
    place : ℕ
    not_behind : place ≤ j
    of_node : (event_at events place).node ≡ (event_at events j).node
    near : (event_at events j).stamp.time ≤ (event_at events place).reading + setup.lead

  near_own : (j : ℕ) → (event_at events j).stamp.time ≤ (event_at events j).reading + setup.lead → IsNear j
  near_own j near = record { place = j; not_behind = omega arith; of_node = refl; near = near }

  -- each event is so
  near : (j : ℕ) → j < length events → IsNear j
  near = by_earlier _ (λ j earlier inside. elim (is_ruled j inside).from [
    | inl start ↦ near_own j (omega (arith, start.0))
    | inr (inl on) ↦
        let last = from_last j inside on in
        let before = earlier last.0 last.1.before (omega (arith, last.1.before, inside)) in
        record {
          place = before.place;
          not_behind = omega (arith, before.not_behind, last.1.before);
          of_node = before.of_node ∙ last.1.of_node;
          near = omega (arith, before.near, last.2);
        }
    | inr (inr sent) ↦ near_own j sent.3
  ])

  -- and readings fall back by the backstep at most
  pub ahead : (j : ℕ) → j < length events
      → (event_at events j).stamp.time ≤ (event_at events j).reading + setup.lead + setup.backstep (event_at events j).node
  ahead j inside =
      let is = near j inside in
      elim (cases_lt is.place j) [
        | inl less ↦ omega (
          arith,
          is.near,
          (entered j inside).clock (event_at events is.place) (in_take events j is.place less (omega (arith, inside)))
              is.of_node,
        )
        | inr at ↦ let same : is.place ≡ j = omega (arith, at, is.not_behind) in
            omega (arith, is.near, ap (λ k. (event_at events k).reading) same)
      ]

  -- later stamps have higher codes
  pub higher : (i j : ℕ) → HappenedBefore events i j → code_of (event_at events i).stamp < code_of (event_at events j).stamp
  higher i j before =
      let after = later events follows before in
      let less = before_less before in
      let fits = (entered i (omega (arith, less, before_to before))).counter in
      grind (arith, after.time, after.counter, fits)

  pub nodes_rise : NodesRise events
  nodes_rise i j less inside same = higher i j (InOneStep (OnOneNode less inside same))
