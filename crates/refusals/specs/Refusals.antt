-- The refusals by number, and how a contract speaks of an answer that may be one.
use Rattle.std.specs.Prelude.{ℕ, Ok, Err, Result}
use Rattle.refusals.specs.declared.refusal.Refusal.{Refusal}
use Rattle.refusals.specs.declared.refusal.Refusal.TheVariants.{UnknownKind, CutShort, MalformedTag, SettingOutOfRange}
use Rattle.refusals.specs.declared.refusal.Refusal.TheVariants.{MisplacedSetUp, OtherKeyKind, NoSuchNode, ReadingOutOfRange}
use Rattle.refusals.specs.declared.refusal.Refusal.TheVariants.{ClockFellBack, CounterSpent, NumberUnderWay, TooManyUnderWay}
use Rattle.refusals.specs.declared.refusal.Refusal.TheVariants.{NumberNotUnderWay, OtherAddressee, MessageTooFarAhead, StoreFull}
use Rattle.refusals.specs.declared.refusal.Refusal.TheVariants.{VersionPresent, NotSettled, NoRoom}

abbrev pub number_of : Refusal → ℕ
-- the kind byte of a record is above the last kind
number_of UnknownKind = 1
-- fewer bytes are left than the record's body needs
number_of CutShort = 2
-- a tag is no name of 1 to 16 bytes with only zero bytes behind it
number_of MalformedTag = 3
-- a setting or a number of places is out of its range, or a store that should be empty is not
number_of SettingOutOfRange = 4
-- the first record is no set-up, or a later one is
number_of MisplacedSetUp = 5
-- a record has a key of the kind that the set-up did not choose
number_of OtherKeyKind = 6
-- a node's number is the node count or above
number_of NoSuchNode = 7
-- a clock's answer is no reading
number_of ReadingOutOfRange = 8
-- a clock's answer is below its highest reading by more than its backstep, the step back that it may take
number_of ClockFellBack = 9
-- a stamp's counter would be 65536
number_of CounterSpent = 10
-- a message of this number is under way
number_of NumberUnderWay = 11
-- 64 messages are under way
number_of TooManyUnderWay = 12
-- no message of this number is under way
number_of NumberNotUnderWay = 13
-- the message is for another node
number_of OtherAddressee = 14
-- a message's time is above the reading by more than the lead that is allowed
number_of MessageTooFarAhead = 15
-- the store has as many versions as it can hold
number_of StoreFull = 16
-- the store has a version of that key, stamp and node
number_of VersionPresent = 17
-- some node's last stamp is below the stamp that is asked about, so that an answer could still change
number_of NotSettled = 18
-- the caller's list or buffer is too short
number_of NoRoom = 19

-- what a call answered: its value, or the number of its refusal
abbrev pub shown : {X : Type 0} → Result X Refusal → Result X ℕ
shown (Ok x) = Ok x
shown (Err e) = Err (number_of e)

-- an answer whose value is seen through `view`
abbrev pub result_map : {X Y E : Type 0} → (X → Y) → Result X E → Result Y E
result_map view (Ok x) = Ok (view x)
result_map view (Err e) = Err e
