-- The code's events, as numbers.
use Rattle.std.specs.Prelude.{List, map}
use Rattle.history.specs.Events as history
use Rattle.stamps.specs.Stamp.{stamp_of}
use Rattle.trace_history.specs.Events as events
use Rattle.trace_history.specs.declared.events.Deed.{Deed}
use Rattle.trace_history.specs.declared.events.Event.{Event}
use Rattle.trace_history.specs.declared.events.What.{What}
use Rattle.trace_history.specs.declared.events.What.TheVariants as what

module _ {K : Type 0} where
  -- what a node did
  abbrev pub what_numbers : What K → history.What K
  what_numbers what.Note = history.Note
  what_numbers (what.Send number) = history.Send number
  what_numbers (what.Receipt number) = history.Receipt number
  what_numbers (what.Put key value) = history.Put key value

  -- and which node it was
  abbrev pub deed_numbers : Deed K → events.Deed K
  deed_numbers d = record { node = d.node; what = what_numbers d.what }

  -- an event, with the number of its record
  abbrev pub event_numbers : Event K → events.Numbered K
  event_numbers e = record {
    number = e.number;
    event = record { node = e.node; reading = e.reading; stamp = stamp_of e.stamp; what = what_numbers e.what };
  }

  -- events, as the history has them
  abbrev pub events_in : List (Event K) → List (history.Event K)
  events_in events = map (λ e. e.event) (map event_numbers events)
