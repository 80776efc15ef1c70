-- Bytes that are added one after another.
use Rattle.std.proofs.Common.{◌≡◌, ℕ, ◌+◌, ◌≤◌, true, if◌then◌else◌, List, ◌++◌, length, is_ok, is_err, Ok, Err, string_bytes}
use Rattle.std.proofs.Common.{string_len, string_capacity, Result, String, refl, sym, ap, ◌∙◌, subst, append_assoc, arith, length-append}
use Rattle.std.specs.Io.{StartsWith}
use Rattle.std.proofs.Transfers.{starts_with_of_append, starts_with_trans}
use Rattle.std.proofs.lemmas.Bool.{false≢true}
use Rattle.std.proofs.lemmas.Grind.{common_steps}
use Rattle.lines.specs.Adding.{Adds, AddsInRoom}

-- what `push_str` promises
pub pushes : {Z X E : Type 0} {was after : String Z} {bytes : List ℕ} (r : Result X E)
    → string_bytes after ≡ (if is_ok r then string_bytes was ++ bytes else string_bytes was)
    → string_capacity was ≤ string_capacity after → (string_len was + length bytes ≤ string_capacity was → is_ok r ≡ true)
    → AddsInRoom was after bytes r
pushes {was = was} {after = after} {bytes = bytes} r b c s =
    let adds : Adds was after bytes r = grind (arith, common_steps) in
    record { adds = adds; room = grind (arith, common_steps) }

-- a second addition behind one that succeeded
pub more : {Z X Y E F : Type 0} {was mid after : String Z} (xs ys : List ℕ) {x : X} {q : Result Y F}
    → AddsInRoom {E = E} was mid xs (Ok x) → AddsInRoom mid after ys q → AddsInRoom was after (xs ++ ys) q
more {was = was} {mid = mid} {after = after} xs ys a b =
    let joined = ap (λ (t : List ℕ). t ++ ys) (a.adds.text refl) ∙ append_assoc (string_bytes was) xs ys in
    record {
      adds = record {
        text = λ e. b.adds.text e ∙ joined;
        kept = starts_with_trans (string_bytes after) (string_bytes mid) (string_bytes was) b.adds.kept a.adds.kept;
        part = subst (λ (t : List ℕ). StartsWith t (string_bytes after)) joined b.adds.part;
        capacity = omega (arith, a.adds.capacity, b.adds.capacity);
      };
      room = λ h. b.room (omega (arith, ap length (a.adds.text refl), length-append (string_bytes was) xs, length-append xs ys, a.adds.capacity));
    }

-- an addition that failed, of which the bytes were the first part
pub halted : {Z X Y E F : Type 0} {was mid : String Z} (xs ys : List ℕ) {e : E} (q : Result Y F)
    → AddsInRoom {X = X} was mid xs (Err e) → is_err q ≡ true → AddsInRoom was mid (xs ++ ys) q
halted xs ys (Ok y) a i = absurd (false≢true i)
halted {was = was} {mid = mid} xs ys (Err f) a i =
    let all = string_bytes was ++ (xs ++ ys) in
    let first = string_bytes was ++ xs in
    record {
      adds = record {
        text = λ e. absurd (false≢true e);
        kept = a.adds.kept;
        part = starts_with_trans all first (string_bytes mid)
            (starts_with_of_append all first ys (sym (append_assoc (string_bytes was) xs ys))) a.adds.part;
        capacity = a.adds.capacity;
      };
      room = λ h. absurd (false≢true (a.room (omega (arith, length-append xs ys))));
    }

-- an addition of the same bytes
pub same_bytes : {Z X E : Type 0} (was after : String Z) (xs ys : List ℕ) (r : Result X E) → xs ≡ ys
    → AddsInRoom was after xs r → AddsInRoom was after ys r
same_bytes was after xs ys r e a = subst (λ (t : List ℕ). AddsInRoom was after t r) e a

-- a text on the way from `was` to what it is with `all` added: it is `mid`, and `todo` is to come
pub record OnTheWay {Z : Type 0} (was mid : String Z) (all todo : List ℕ) : Type 0 where
  pub bytes : string_bytes mid ++ todo ≡ string_bytes was ++ all
  pub kept : StartsWith (string_bytes mid) (string_bytes was)
  pub capacity : string_capacity was ≤ string_capacity mid

pub start : {Z : Type 0} (was : String Z) (all : List ℕ) → OnTheWay was was all all
start was all = grind (arith, common_steps)

-- the next addition, where it succeeded
pub step : {Z X E : Type 0} {was mid after : String Z} {all todo : List ℕ} (now rest : List ℕ) {x : X} → OnTheWay was mid all todo
    → todo ≡ now ++ rest → Adds {E = E} mid after now (Ok x) → OnTheWay was after all rest
step now rest g e a = grind (arith, common_steps, starts_with_trans)

-- and where it failed: all has failed
pub stop : {Z X Y E F : Type 0} {was mid after : String Z} {all todo : List ℕ} (now rest : List ℕ) {e : E} (q : Result Y F)
    → OnTheWay was mid all todo → todo ≡ now ++ rest → Adds {X = X} mid after now (Err e)
    → is_err q ≡ true → Adds was after all q
stop {was = was} {mid = mid} {after = after} {all = all} now rest q g e a i =
    let first = string_bytes mid ++ now in
    let whole : string_bytes was ++ all ≡ first ++ rest = cc (g.bytes, e, append_assoc (string_bytes mid) now rest) in
    let kept = starts_with_trans (string_bytes after) (string_bytes mid) (string_bytes was) a.kept g.kept in
    let part = starts_with_trans (string_bytes was ++ all) first (string_bytes after)
    (starts_with_of_append (string_bytes was ++ all) first rest whole) a.part in
    grind (arith, common_steps, kept, part)

-- that needs no other memory
pub stop_in_room : {Z X Y E F : Type 0} {was mid after : String Z} {all todo : List ℕ} (now rest : List ℕ) {e : E}
    (q : Result Y F) → OnTheWay was mid all todo → todo ≡ now ++ rest
    → AddsInRoom {X = X} mid after now (Err e) → is_err q ≡ true → AddsInRoom was after all q
stop_in_room {was = was} {mid = mid} {after = after} {all = all} now rest q g e a i =
    let adds = stop now rest q g e a.adds i in
    record { adds = adds; room = grind (arith, common_steps) }

-- and an addition that adds the rest, where it succeeded or failed
pub onward : {Z Y F : Type 0} {was mid after : String Z} {all ys : List ℕ} (q : Result Y F) → OnTheWay was mid all ys
    → Adds mid after ys q → Adds was after all q
onward {was = was} {mid = mid} {after = after} {all = all} {ys = ys} q g b =
    let kept = starts_with_trans (string_bytes after) (string_bytes mid) (string_bytes was) b.kept g.kept in
    grind (arith, common_steps, kept)
