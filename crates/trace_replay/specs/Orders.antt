-- The order of points.
use Rattle.std.specs.Ordering.{nat_cmp}
use Rattle.std.specs.declared.cmp.Ordering.{Ordering}
use Rattle.keys.specs.declared.point.Point.{Point}

-- that of their numbers
abbrev pub point_cmp : Point → Point → Ordering
point_cmp a b = nat_cmp a.0 b.0
