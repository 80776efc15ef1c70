-- How a recorder stands behind a history.
use Rattle.std.proofs.Common.{◌≡◌, ◌≢◌, ℕ, ◌+◌, ◌<◌, ◌≤◌, ◌⊎◌, inl, inr, Bool, true, false, List, [], ◌∷◌, ◌++◌, length, Ok, refl}
use Rattle.std.proofs.Common.{sym, ◌∙◌, subst, arith}
use Rattle.std.specs.declared.cmp.Ordering.{Ordering}
use Rattle.std.proofs.lemmas.Bool.{cases_eq}
use Rattle.std.proofs.lemmas.Bool.Decides.{nat_tests}
use Rattle.std.proofs.lemmas.List.{append-nil, length-append, length-replicate, length-set}
use Rattle.std.proofs.lemmas.List.{get_or_append_left, get_or_past, get_or_push, get_or-replicate, get_or-set_other}
use Rattle.std.proofs.lemmas.List.{get_or-set_same}
use Rattle.std.proofs.lemmas.List.Sums.{fold-append}
use Rattle.clocks.specs.Bank.{IsAllowed, IsLawful, Meaning, Taken, look_answer}
use Rattle.messages.specs.Messages.{MessageNumbers}
use Rattle.stamps.specs.Range.{max_counter}
use Rattle.stamps.specs.Stamp.{Timestamp, zero_stamp}
use Rattle.store.specs.Contents.{Contents}
use Rattle.store.specs.Newest.{IsIn}
use Rattle.history.specs.Events.{Event, Send, event_at, no_event, puts}
use Rattle.history.specs.Before.{IsLastSend}
use Rattle.history.specs.History.{Closed, Entered, Entry, IsHistory, IsStamped, MayBeWritten, MayEnter, Setup, events_of}
use Rattle.history.specs.History.{last_stamp}
use Rattle.history.proofs.Entries.{events_of-append}
use Rattle.history.proofs.Last.{last_stamp-push}
use Rattle.history.proofs.Lists.{each_push, in_append, one_more}
use Rattle.history.proofs.OneAnswer.{recorded, recorded_onto}
use Rattle.history.proofs.Puts.{puts-append}
use Rattle.recorder.specs.Changes.{with_event}
use Rattle.stamper.specs.Settings.{SettingNumbers}
use Rattle.stamper.specs.Stamps.{no_stamps, stamp_at, with_last}
use Rattle.recorder.specs.State.{State, fresh_state}
use Rattle.replay.specs.Replay.{setup_of}

module _ {K : Type 0} where
  -- a message has the stamp of the last send of its number
  pub record IsSent (events : List (Event K)) (m : MessageNumbers) : Type 0 where
    pub send : ℕ
    pub last : IsLastSend events m.number send
    pub stamp : (event_at events send).stamp ≡ m.stamp

  -- behind an event more it still has, unless that sends its number; then it has if the event's stamp is its own
  abbrev pub StaysSent : List MessageNumbers → Event K → MessageNumbers → Type 0
  StaysSent messages e m = (IsIn m messages × (e.what ≢ Send m.number)) ⊎ ((e.what ≡ Send m.number) × (e.stamp ≡ m.stamp))

  module _ (events : List (Event K)) (e : Event K) where
    more : length (events ++ e ∷ []) ≡ length events + 1
    more = length-append events (e ∷ [])

    pub sent_push : (messages : List MessageNumbers) (m : MessageNumbers)
        → ((m : MessageNumbers) → IsIn m messages → IsSent events m)
        → StaysSent messages e m → IsSent (events ++ e ∷ []) m
    sent_push messages m sent (inl (is_in, other)) =
        let old = sent m is_in in
        let place = get_or_append_left events (e ∷ []) no_event old.send old.last.inside in
        record {
          send = old.send;
          last = record {
            inside = omega (arith, more, old.last.inside);
            sends = rw place old.last.sends;
            none_behind = λ k behind inside.
                let earlier = get_or_append_left events (e ∷ []) no_event k in
                grind (arith, more, other, old.last.none_behind k behind, earlier, get_or_push events e no_event k);
          };
          stamp = rw place old.stamp;
        }
    sent_push messages m sent (inr (is, stamp)) =
        let place = get_or_push events e no_event (length events) refl in
        record {
          send = length events;
          last = record {
            inside = omega (arith, more);
            sends = rw place is;
            none_behind = λ k behind inside. absurd (omega (arith, behind, inside, more));
          };
          stamp = rw place stamp;
        }

  -- whether the recorder is closed, the history says
  abbrev pub TellsClose : Bool → List (Entry K) → Type 0
  TellsClose true history = IsIn Closed history
  TellsClose false history = IsIn Closed history → ⊥

  -- an entry that is no close leaves it so
  pub still_tells : (closed : Bool) (history : List (Entry K)) (entry : Entry K) → entry ≢ Closed → TellsClose closed history
      → TellsClose closed (history ++ entry ∷ [])
  still_tells true history entry other tells = in_append Closed history (entry ∷ []) (inl tells)
  still_tells false history entry other tells =
      λ closed. each_push (λ x. x ≢ Closed) entry history (λ x is_in is. tells (subst (λ y. IsIn y history) is is_in))
      other Closed closed refl

module _ {B K : Type 0} where
  -- An event is accepted: the bank gives its reading, and is then this one.
  pub record IsAccepted (meaning : B → Meaning) (s : State B K) (e : Event K) (bank : B) : Type 0 where
    pub node : e.node < length s.last
    pub raw : ℕ
    pub clock : look_answer (meaning s.bank) e.node raw ≡ Ok e.reading
    pub taken : Taken (Ok e.reading) e.node (meaning s.bank) (meaning bank)
    pub counter : e.stamp.counter ≤ max_counter

  -- Behind an event more there are these messages under way, and these contents.
  pub record IsNext (order : K → K → Ordering) (s : State B K) (e : Event K)
      (messages : List MessageNumbers) (contents : Contents K) : Type 0 where
    pub versions : contents.versions ≡ recorded_onto order s.contents.versions (puts (e ∷ []))
    pub messages_sent : (m : MessageNumbers) → IsIn m messages → StaysSent s.messages e m

module _ {B K : Type 0} (order : K → K → Ordering) (meaning : B → Meaning) (setup : Setup) where
  -- A recorder with this lead and this bank, these last stamps and these contents stands so behind these events.
  pub record Stands (events : List (Event K)) (lead : ℕ) (bank : B) (last : List Timestamp) (contents : Contents K) : Type 0 where
    pub the_lead : lead ≡ setup.lead
    pub nodes : length last ≡ setup.nodes
    pub backsteps : (node : ℕ) → (meaning bank node).backstep ≡ setup.backstep node
    pub readings : (d : Event K) → IsIn d events → d.reading ≤ (meaning bank d.node).high
    pub stamps : (node : ℕ) → stamp_at last node ≡ last_stamp events node
    pub versions : contents.versions ≡ recorded order (puts events)

  -- A recorder that is closed, or is not, stands so behind a history.
  pub record StandsBehind (closed : Bool) (history : List (Entry K)) (s : State B K) : Type 0 where
    pub written : IsHistory order setup history
    pub tells : TellsClose closed history
    pub stands : Stands (events_of history) s.lead s.bank s.last s.contents
    pub messages : (m : MessageNumbers) → IsIn m s.messages → IsSent (events_of history) m

  -- so it does behind one entry more that is no event
  pub told : {closed closed_then : Bool} {history : List (Entry K)} {s : State B K} → StandsBehind closed history s
      → (entry : Entry K) → events_of (entry ∷ []) ≡ [] → MayBeWritten order setup history entry
      → (TellsClose closed history → TellsClose closed_then (history ++ entry ∷ []))
      → StandsBehind closed_then (history ++ entry ∷ []) s
  told {history = history} {s} before entry none may tells =
      let same : events_of (history ++ entry ∷ []) ≡ events_of history =
      rw (events_of-append history (entry ∷ []), none) (append-nil (events_of history)) in
      record {
        written = one_more (MayBeWritten order setup) Closed history entry before.written may;
        tells = tells before.tells;
        stands = rw same before.stands;
        messages = rw same before.messages;
      }

  module _ (lawful_bank : (bank : B) → IsLawful (meaning bank)) (few : setup.nodes ≤ 16) where
    module _ {events : List (Event K)} {s : State B K} {e : Event K} {bank : B}
        (stands : Stands events s.lead s.bank s.last s.contents) (accepted : IsAccepted meaning s e bank) where
      -- it may be entered
      may_enter : IsStamped setup.lead events e e.what → MayEnter setup events e
      may_enter stamped =
          let node : e.node < setup.nodes = omega (arith, accepted.node, stands.nodes) in
          let law = (lawful_bank s.bank).answers e.node accepted.raw (omega (arith, node, few)) in
          let answers : (meaning s.bank e.node).answer accepted.raw ≡ Ok e.reading =
          grind (arith, nat_tests, node, few, accepted.clock) in
          let allowed = subst (IsAllowed (meaning s.bank e.node)) answers law in
          record {
            node = node;
            reading = grind (arith, nat_tests, allowed.0);
            clock = λ d is_in same.
                let high : d.reading ≤ (meaning s.bank e.node).high = rw (← same) (stands.readings d is_in) in
                omega (arith, high, allowed.1, stands.backsteps e.node);
            stamped = stamped;
            counter = accepted.counter;
          }

      -- no clock's high falls, and its backstep stays
      clock_then : (node : ℕ)
          → ((meaning s.bank node).high ≤ (meaning bank node).high)
          × ((meaning bank node).backstep ≡ (meaning s.bank node).backstep)
      clock_then node = elim (cases_eq node e.node) [
        | inl same ↦ rw same (omega (arith, accepted.taken.0.high), accepted.taken.0.backstep)
        | inr other ↦ rw (accepted.taken.1 node other) (omega arith, refl)
      ]

      stands_push : {contents : Contents K} → contents.versions ≡ recorded_onto order s.contents.versions (puts (e ∷ []))
          → Stands (events ++ e ∷ []) s.lead bank (with_last e.node e.stamp s.last) contents
      stands_push versions = record {
        the_lead = stands.the_lead;
        nodes = length-set s.last e.node e.stamp ∙ stands.nodes;
        backsteps = λ node. (clock_then node).1 ∙ stands.backsteps node;
        readings = each_push (λ d. d.reading ≤ (meaning bank d.node).high) e events
            (λ d is_in. omega (arith, stands.readings d is_in, (clock_then d.node).0))
            (omega (arith, accepted.taken.0.high));
        stamps = λ node.
            let same = get_or-set_same s.last e.node e.stamp zero_stamp accepted.node in
            let other = get_or-set_other s.last e.node node e.stamp zero_stamp in
            grind (arith, nat_tests, stands.stamps node, same, other, last_stamp-push events e node _ refl);
        versions = rw (versions, stands.versions, puts-append events (e ∷ []))
            (sym (fold-append _ [] (puts events) (puts (e ∷ []))));
      }

    -- so that the recorder stands behind the history with that event
    pub entered : {history : List (Entry K)} {s : State B K} {e : Event K} {bank : B}
        {messages : List MessageNumbers} {contents : Contents K}
        → StandsBehind false history s → IsAccepted meaning s e bank
        → IsStamped setup.lead (events_of history) e e.what → IsNext order s e messages contents
        → StandsBehind false (history ++ Entered e ∷ []) (with_event s e.node e.stamp bank messages contents)
    entered {history} {s} {e} {bank} {messages} {contents} before accepted stamped next = record {
      written = one_more (MayBeWritten order setup) Closed history (Entered e) before.written
          (before.tells, may_enter before.stands accepted stamped);
      tells = still_tells false history (Entered e) (λ is. absurd (cc is)) before.tells;
      stands = rw (events_of-append history (Entered e ∷ [])) (stands_push before.stands accepted next.versions);
      messages = rw (events_of-append history (Entered e ∷ []))
          (λ m is_in. sent_push (events_of history) e s.messages m before.messages (next.messages_sent m is_in));
    }

-- a fresh recorder stands behind no history
module _ {B K : Type 0} (order : K → K → Ordering) (meaning : B → Meaning) where
  pub fresh_stands : (settings : SettingNumbers) (bank : B) (contents : Contents K) → contents.versions ≡ []
      → let start = fresh_state settings bank contents in StandsBehind order meaning (setup_of meaning start) false [] start
  fresh_stands settings bank contents empty = record {
    written = λ j inside. absurd (omega (arith, inside));
    tells = λ closed. elim closed [ ];
    stands = record {
      the_lead = refl;
      nodes = refl;
      backsteps = λ node. refl;
      readings = λ d is_in. elim is_in [ ];
      stamps = λ node.
          let past = get_or_past (no_stamps settings.nodes) node zero_stamp in
          let there = get_or-replicate settings.nodes node zero_stamp zero_stamp in
          grind (arith, past, there, length-replicate settings.nodes zero_stamp);
      versions = empty;
    };
    messages = λ m is_in. elim is_in [ ];
  }
