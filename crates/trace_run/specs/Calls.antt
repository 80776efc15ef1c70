-- What each record of a trace calls of the recorder.
use Rattle.std.specs.Prelude.{ℕ, ℤ, List, [], ◌∷◌, Ok, Err, Result}
use Rattle.std.specs.Result.{result_ok}
use Rattle.std.specs.List.{filter_map}
use Rattle.clocks.specs.declared.sample.Sample.{Sample}
use Rattle.keys.specs.Making.{tag_of_bytes}
use Rattle.keys.specs.declared.point.Point.{Point}
use Rattle.keys.specs.declared.tag.Tag.{Tag}
use Rattle.refusals.specs.Refusals.{result_map}
use Rattle.replay.specs.Calls.{AnswerNumbers}
use Rattle.replay.specs.declared.call.Call.{Call}
use Rattle.replay.specs.declared.call.Call.TheVariants as call
use Rattle.replay.specs.declared.call.Question.TheVariants as question
use Rattle.trace.specs.Contents.{Content, set_up, note, send, receipt, loss, put_point, put_tag, read_point, read_tag}
use Rattle.trace.specs.Numbers.{unsigned_at}
use Rattle.trace.specs.declared.records.KeyBytes.{KeyBytes}
use Rattle.trace.specs.declared.records.KeyBytes.TheVariants as bytes_of

-- How a trace with keys of one kind says a key: the key that the bytes of a point are, and those of a tag, or a refusal's number.
pub record KeyForm (K : Type 0) : Type 0 where
  pub point : List ℕ → Result K ℕ
  pub tag : List ℕ → Result K ℕ

-- points, the highest byte first: a tag is refused with 6
abbrev pub points : KeyForm Point
points = record {
  point = λ bytes. Ok (record { 0 = unsigned_at 4 0 bytes });
  tag = λ bytes. Err 6;
}

-- tags: a point is refused with 6, then a malformed tag with 3
abbrev pub tags : KeyForm Tag
tags = record {
  point = λ bytes. Err 6;
  tag = tag_of_bytes;
}

module _ {K : Type 0} (form : KeyForm K) where
  -- the key of these bytes
  abbrev pub key_of : KeyBytes → Result K ℕ
  key_of (bytes_of.Point bytes) = form.point bytes.now
  key_of (bytes_of.Tag bytes) = form.tag bytes.now

  -- a node's raw number
  abbrev pub sample_of : ℕ → ℕ → Sample
  sample_of node raw = record { node = node; raw = record { 0 = raw } }

  -- the call of a put, or why its key is refused
  abbrev pub put_call : ℕ → ℕ → ℤ → Result K ℕ → Result (Call K) ℕ
  put_call node raw value key = result_map (λ k. call.Put (sample_of node raw) k value) key

  -- the call of a read, or why its key is refused
  abbrev pub read_call : ℕ → Result K ℕ → Result (Call K) ℕ
  read_call at key = result_map (λ k. call.Ask (question.Read k at)) key

  -- the call of a record, or why it is refused before the recorder sees it: a later set-up with 5, a key with 6 or 3
  abbrev pub call_of : Content → Result (Call K) ℕ
  call_of (set_up nodes key_kind lead backstep) = Err 5
  call_of (note node raw) = Ok (call.Note (sample_of node raw))
  call_of (send node raw to message) = Ok (call.Send (sample_of node raw) to message)
  call_of (receipt node raw message) = Ok (call.Receipt (sample_of node raw) message)
  call_of (loss message) = Ok (call.Loss message)
  call_of (put_point node raw key value) = put_call node raw value (form.point key)
  call_of (put_tag node raw key value) = put_call node raw value (form.tag key)
  call_of (read_point at key) = read_call at (form.point key)
  call_of (read_tag at key) = read_call at (form.tag key)

  -- the calls of some records, in order
  abbrev pub calls_of : List Content → List (Call K)
  calls_of records = filter_map (λ m. result_ok (call_of m)) records

-- the answers that are left behind a record with this call, or that was refused before: each call has one
abbrev pub answers_left : {K : Type 0} → Result (Call K) ℕ → List (AnswerNumbers K) → List (AnswerNumbers K)
answers_left (Err refusal) answers = answers
answers_left (Ok c) [] = []
answers_left (Ok c) (a ∷ answers) = answers
