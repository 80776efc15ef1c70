-- The last stamp of a node, event by event.
use Rattle.std.proofs.Common.{◌≡◌, ℕ, suc, ◌+◌, ◌<◌, List, [], ◌∷◌, ◌++◌, length, map, take, get_or, refl, ap, ◌∙◌, sym, arith}
use Rattle.std.specs.Prelude.{◌==◌, if◌then◌else◌}
use Rattle.std.proofs.Math.Seq.{take-suc}
use Rattle.std.proofs.lemmas.List.{map-append}
use Rattle.history.specs.History.{last_stamp}
use Rattle.history.proofs.Last.{last_stamp-push}
use Rattle.stamps.specs.Stamp.{Timestamp, stamp_of}
use Rattle.trace_history.specs.Shown.{event_numbers, events_in}
use Rattle.trace_history.specs.declared.events.Event.{Event}

-- one event more
pub events_in-push : {K : Type 0} (events : List (Event K)) (e : Event K)
    → events_in (events ++ e ∷ []) ≡ events_in events ++ (event_numbers e).event ∷ []
events_in-push events e =
    ap (map (λ n. n.event)) (map-append event_numbers events (e ∷ []))
    ∙ map-append (λ n. n.event) (map event_numbers events) (event_numbers e ∷ [])

pub last_more : {K : Type 0} (events : List (Event K)) (i node : ℕ) (d : Event K) (last next : Timestamp) → i < length events
    → last ≡ last_stamp (events_in (take i events)) node
    → next ≡ (if (get_or events i d).node == node then stamp_of (get_or events i d).stamp else last)
    → next ≡ last_stamp (events_in (take (i + 1) events)) node
last_more events i node d last next inside so_far is =
    let next_is : suc i ≡ i + 1 = omega arith in
    let e = (event_numbers (get_or events i d)).event in
    is ∙ ap (λ l. if e.node == node then e.stamp else l) so_far
    ∙ sym (last_stamp-push (events_in (take i events)) e node _ refl)
    ∙ ap (λ es. last_stamp es node) (sym (events_in-push (take i events) (get_or events i d)))
    ∙ ap (λ es. last_stamp (events_in es) node) (sym (take-suc events i d inside))
    ∙ ap (λ n. last_stamp (events_in (take n events)) node) next_is
