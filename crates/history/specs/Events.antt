-- The events of a run, and the versions that they put.
use Rattle.std.specs.Prelude.{ℕ, ℤ, List, slice_index_or, Some, None, Option}
use Rattle.std.specs.List.{filter_map}
use Rattle.stamps.specs.Stamp.{Timestamp, code_of, zero_stamp}
use Rattle.store.specs.declared.version.Version.{Version}

-- What a node did: a mark of its own; the send, or the receipt, of the message of a number; the put of a value under a key.
pub data What (K : Type 0) : Type 0 where
  Note : What K
  Send : ℕ → What K
  Receipt : ℕ → What K
  Put : K → ℤ → What K

-- What a node did was accepted, at this reading of its clock, and got this stamp.
pub record Event (K : Type 0) : Type 0 where
  pub node : ℕ
  pub reading : ℕ
  pub stamp : Timestamp
  pub what : What K

-- what stands for an event where there is none
abbrev pub no_event : {K : Type 0} → Event K
no_event = record { node = 0; reading = 0; stamp = zero_stamp; what = Note }

-- Events stand in the order in which they were accepted, from place 0 on; event i is the one at place i. (No definition asks for a
-- place behind the last.)
abbrev pub event_at : {K : Type 0} → List (Event K) → ℕ → Event K
event_at events i = slice_index_or events i no_event

-- the version that an event of this kind put, if it is a put
abbrev pub version_of : {K : Type 0} → Event K → What K → Option (Version K)
version_of e Note = None
version_of e (Send number) = None
version_of e (Receipt number) = None
version_of e (Put key value) = Some (record { key = key; stamp = code_of e.stamp; node = e.node; value = value })

-- all versions that these events put
abbrev pub puts : {K : Type 0} → List (Event K) → List (Version K)
puts events = filter_map (λ e. version_of e e.what) events
