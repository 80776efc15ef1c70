-- The puts among events, event by event.
use Rattle.std.proofs.Common.{◌≡◌, ℕ, suc, ◌+◌, ◌<◌, List, [], ◌∷◌, length, take, get_or, ap, ◌∙◌, arith}
use Rattle.std.proofs.Math.Seq.{take-suc}
use Rattle.std.proofs.lemmas.List.{length-append}
use Rattle.history.specs.Events.{puts}
use Rattle.history.proofs.Puts.{puts-append}
use Rattle.trace_history.specs.Shown.{event_numbers, events_in}
use Rattle.trace_history.proofs.Latest.{events_in-push}
use Rattle.trace_history.specs.declared.events.Event.{Event}

-- one event more
pub puts_more : {K : Type 0} (events : List (Event K)) (i : ℕ) (d : Event K) → i < length events
    → length (puts (events_in (take (i + 1) events)))
    ≡ length (puts (events_in (take i events))) + length (puts ((event_numbers (get_or events i d)).event ∷ []))
puts_more events i d inside =
    let next_is : i + 1 ≡ suc i = omega arith in
    let e = get_or events i d in
    ap (λ n. length (puts (events_in (take n events)))) next_is
    ∙ ap (λ es. length (puts (events_in es))) (take-suc events i d inside)
    ∙ ap (λ es. length (puts es)) (events_in-push (take i events) e)
    ∙ ap length (puts-append (events_in (take i events)) ((event_numbers e).event ∷ []))
    ∙ length-append (puts (events_in (take i events))) (puts ((event_numbers e).event ∷ []))
