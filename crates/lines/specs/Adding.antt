-- Bytes that are added to a text.
use Rattle.std.specs.Prelude.{◌≡◌, ℕ, ◌+◌, ◌≤◌, List, ◌++◌, length, IsOk, string_bytes, string_capacity, Result, String}
use Rattle.std.specs.Io.{StartsWith}

-- a call that answered r made `after` of the text `was`, to which it adds these bytes
pub record Adds {Z X E : Type 0} (was after : String Z) (bytes : List ℕ) (r : Result X E)
    : Type 0 where
  -- where it succeeded, the text has gained these bytes and no others
  pub text : IsOk r → string_bytes after ≡ string_bytes was ++ bytes
  -- where it failed, the text has kept what it had, and gained at most a first part of these bytes
  pub kept : StartsWith (string_bytes after) (string_bytes was)
  pub part : StartsWith (string_bytes was ++ bytes) (string_bytes after)
  -- the text keeps the room that it has
  pub capacity : string_capacity was ≤ string_capacity after

-- the same of a call that needs no other memory
pub record AddsInRoom {Z X E : Type 0} (was after : String Z) (bytes : List ℕ) (r : Result X E)
    : Type 0 where
  pub adds : Adds was after bytes r
  -- it succeeds wherever the text has room for the bytes
  pub room : length (string_bytes was) + length bytes ≤ string_capacity was → IsOk r
