-- No number comes to be under way twice.
use Rattle.std.proofs.Common.{◌≡◌, ◌∙◌, ℕ, Bool, true, false, not, cond, List, [], ◌∷◌, ◌++◌, map, is_ok, refl, arith}
use Rattle.std.proofs.lemmas.Bool.Decides.{nat_tests}
use Rattle.std.proofs.lemmas.List.{map-append}
use Rattle.std.proofs.lemmas.List.Folds.{list_any-append}
use Rattle.std.proofs.lemmas.Map.Views.{any-filter_same}
use Rattle.messages.specs.Messages.{AreDistinct, MessageNumbers, has_number, is_under_way, message_numbers, may_send_answer}
use Rattle.messages.specs.Messages.{without}
use Rattle.messages.specs.declared.message.Message.{Message}

distinct_push : (messages : List MessageNumbers) (m : MessageNumbers)
    → AreDistinct messages → is_under_way m.number messages ≡ false → AreDistinct (messages ++ m ∷ [])
distinct_push [] m distinct new = (refl, tt)
distinct_push (first ∷ messages) m distinct new = (
  list_any-append (has_number first.number) messages (m ∷ []) ∙ grind (arith, nat_tests, distinct.0, new),
  distinct_push messages m distinct.1 (grind (arith, nat_tests, new)),
)

without_first : (number : ℕ) (first : MessageNumbers) (messages : List MessageNumbers) (stays : Bool)
    → not (has_number number first) ≡ stays → is_under_way first.number messages ≡ false → AreDistinct (without number messages)
    → AreDistinct (cond stays (first ∷ without number messages) (without number messages))
without_first number first messages true is new rest =
    let other = λ (m : MessageNumbers). not (has_number number m) in
    (any-filter_same (has_number first.number) other true (λ m same. grind (arith, nat_tests)) messages ∙ new, rest)
without_first number first messages false is new rest = rest

pub distinct_without : (number : ℕ) (messages : List MessageNumbers)
    → AreDistinct messages → AreDistinct (without number messages)
distinct_without number [] distinct = tt
distinct_without number (first ∷ messages) distinct =
    without_first number first messages _ refl distinct.0 (distinct_without number messages distinct.1)

-- a message that may be sent has a number of its own
pub distinct_after_sending : (items : List Message) (message : Message) (messages : List MessageNumbers)
    → is_ok (may_send_answer message.number messages) ≡ true → AreDistinct messages → map message_numbers items ≡ messages
    → AreDistinct (map message_numbers (items ++ message ∷ []))
distinct_after_sending items message messages may distinct seen =
    let new : is_under_way message.number messages ≡ false = grind (arith, may) in
    rw (map-append message_numbers items (message ∷ []), seen) (distinct_push messages (message_numbers message) distinct new)
