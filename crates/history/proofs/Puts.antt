-- What is among the puts of events.
use Rattle.std.proofs.Common.{◌≡◌, ℕ, zero, suc, ◌<◌, inl, inr, List, [], ◌∷◌, ◌++◌, length, Some, None, Option, refl, sym, ap}
use Rattle.std.proofs.Common.{◌∙◌, arith}
use Rattle.std.specs.List.{cons_option}
use Rattle.std.proofs.lemmas.List.Elements.{filter_map-append}
use Rattle.stamps.specs.Stamp.{code_of}
use Rattle.store.specs.Newest.{IsIn}
use Rattle.store.specs.declared.version.Version.{Version}
use Rattle.history.specs.Events.{Event, Note, Put, Receipt, Send, What, event_at, puts, version_of}

-- v is the version of an event that did this
pub record IsOfPut {K : Type 0} (e : Event K) (what : What K) (v : Version K) : Type 0 where
  pub stamp : v.stamp ≡ code_of e.stamp
  pub node : v.node ≡ e.node

pub of_put : {K : Type 0} (e : Event K) (what : What K) (v : Version K) → version_of e what ≡ Some v → IsOfPut e what v
of_put e Note v is = absurd (cc is)
of_put e (Send number) v is = absurd (cc is)
of_put e (Receipt number) v is = absurd (cc is)
of_put e (Put key value) v is = record { stamp = cc is; node = cc is }

-- v was put by the event at a place
pub record IsPutAt {K : Type 0} (events : List (Event K)) (v : Version K) : Type 0 where
  pub place : ℕ
  pub inside : place < length events
  pub is : version_of (event_at events place) (event_at events place).what ≡ Some v

module _ {K : Type 0} where
  -- what joined lists of events put
  pub puts-append : (earlier later : List (Event K)) → puts (earlier ++ later) ≡ puts earlier ++ puts later
  puts-append = filter_map-append (λ e. version_of e e.what)

  -- what is put was put at a place
  put_behind : (e : Event K) (events : List (Event K)) (v : Version K) → IsPutAt events v → IsPutAt (e ∷ events) v
  put_behind e events v put = record { place = suc put.place; inside = omega (arith, put.inside); is = put.is }

  put_at_by : (e : Event K) (events : List (Event K)) (v : Version K) (found : Option (Version K)) → version_of e e.what ≡ found
      → IsIn v (cons_option found (puts events)) → (IsIn v (puts events) → IsPutAt events v) → IsPutAt (e ∷ events) v
  put_at_by e events v None none is_in more = put_behind e events v (more is_in)
  put_at_by e events v (Some w) some (inl here) more = record { place = 0; inside = omega arith; is = some ∙ ap Some (sym here) }
  put_at_by e events v (Some w) some (inr there) more = put_behind e events v (more there)

  pub put_at : (events : List (Event K)) (v : Version K) → IsIn v (puts events) → IsPutAt events v
  put_at [] v is_in = elim is_in [ ]
  put_at (e ∷ events) v is_in = put_at_by e events v (version_of e e.what) refl is_in (put_at events v)

  -- and what was put at a place is put
  pub in_puts : (events : List (Event K)) (v : Version K) (place : ℕ) → place < length events
      → version_of (event_at events place) (event_at events place).what ≡ Some v → IsIn v (puts events)
  in_puts [] v place inside is = absurd (omega (arith, inside))
  in_puts (e ∷ events) v zero inside is = rw is (inl refl)
  in_puts (e ∷ events) v (suc place) inside is = let more = in_puts events v place (omega (arith, inside)) is in grind arith
