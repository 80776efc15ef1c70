-- How a contract speaks of a tag.
use Rattle.std.specs.Prelude.{ℕ, List}
use Rattle.std.specs.Cmp.Lexicographic.{slice_cmp}
use Rattle.std.specs.Ordering.{nat_cmp}
use Rattle.std.specs.declared.cmp.Ordering.{Ordering}
use Rattle.keys.specs.Name.{name_of}
use Rattle.keys.specs.declared.tag.Tag.{Tag}

-- a tag's sixteen bytes
abbrev pub bytes_of : Tag → List ℕ
bytes_of tag = tag.bytes

-- the order of tags: their names byte by byte, a name before its own continuations
abbrev pub tag_cmp : Tag → Tag → Ordering
tag_cmp a b = slice_cmp nat_cmp (name_of (bytes_of a)) (name_of (bytes_of b))
