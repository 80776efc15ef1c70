use Rattle.std.proofs.Common.{◌≡◌, ℕ, ◌≤◌, ◌==◌, Bool, List, drop, if◌then◌else◌}
use Rattle.keys.specs.Name.{is_blank, is_padded_name, padding_of}
use Rattle.keys.proofs.tag.TagTryFromRefArrayU816.try_from.Given as goal

-- what the bytes from a place on have to be, where a name of `name_len` bytes was read before it: a padded name at
-- the start, later the rest of the name and its padding, or the padding alone if the name has ended
abbrev pub is_rest : ℕ → ℕ → List ℕ → Bool
is_rest place name_len bytes =
    (if place == 0 then is_padded_name bytes
    else (if place == name_len then is_blank (padding_of bytes) else is_blank bytes))

abbrev pub invariant-loop-place : goal.invariant-loop-place
invariant-loop-place l = record {
  within : l.name_len ≤ l.place;
  rest : is_padded_name l.bytes ≡ is_rest l.place l.name_len (drop l.place l.bytes);
}
