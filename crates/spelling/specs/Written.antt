-- What the records say that lines spell.
use Rattle.trace.specs.Contents.{Content, content_of, put_point, put_tag, read_point, read_tag}
use Rattle.std.specs.Prelude.{◌≡◌}
use Rattle.trace.specs.declared.records.KeyBytes.{KeyBytes}
use Rattle.trace.specs.declared.records.KeyBytes.TheVariants as lent
use Rattle.spelling.specs.declared.key.WrittenKey.{WrittenKey}
use Rattle.spelling.specs.declared.key.WrittenKey.TheVariants.{Point, Tag}
use Rattle.spelling.specs.declared.record.Written.{Written}
use Rattle.spelling.specs.declared.record.Written.TheVariants.{Keyless, Put, Read}

-- the bytes of a key are those that were written
abbrev pub IsLent : WrittenKey → KeyBytes → Type 0
IsLent (Point bytes) (lent.Point there) = there.now ≡ bytes
IsLent (Tag bytes) (lent.Tag there) = there.now ≡ bytes
IsLent written there = ⊥

-- what a record says that a line spells
abbrev pub written_content : Written → Content
written_content (Keyless keyless) = content_of keyless
written_content (Put node raw (Point bytes) value) = put_point node raw bytes value
written_content (Put node raw (Tag bytes) value) = put_tag node raw bytes value
written_content (Read at (Point bytes)) = read_point at bytes
written_content (Read at (Tag bytes)) = read_tag at bytes
