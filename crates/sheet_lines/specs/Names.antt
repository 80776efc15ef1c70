-- Keys, as a sheet prints them.
use Rattle.std.specs.Prelude.{ℕ, List, decimal}
use Rattle.keys.specs.Name.{name_of}
use Rattle.keys.specs.Tag.{bytes_of}
use Rattle.keys.specs.declared.point.Point.{Point}
use Rattle.keys.specs.declared.tag.Tag.{Tag}

-- a point by its number
abbrev pub point_name : Point → List ℕ
point_name point = decimal point.0

-- a tag by its name
abbrev pub tag_name : Tag → List ℕ
tag_name tag = name_of (bytes_of tag)
