-- A message may be sent where none of its number is found and there is a place.
use Rattle.std.proofs.Common.{◌≡◌, ◌∙◌, ℕ, ◌≤◌, List, length, map, nat_le, Option, sym, ap, arith}
use Rattle.std.specs.Prelude.{◌==◌}
use Rattle.std.specs.Option.{is_some, option_map}
use Rattle.std.proofs.lemmas.Bool.Decides.{nat_tests}
use Rattle.std.proofs.lemmas.List.{length-map}
use Rattle.messages.specs.Messages.{MessageNumbers, has_number, is_under_way, message_numbers, message_of, most_under_way}
use Rattle.messages.specs.declared.message.Message.{Message}
use Rattle.messages.proofs.Seen.{is_some-find, is_some-option_map}

-- one is under way if it is found
pub found_if_under_way : (number : ℕ) (messages : List MessageNumbers) (found : Option Message)
    → option_map message_numbers found ≡ message_of number messages → is_under_way number messages ≡ is_some found
found_if_under_way number messages found is =
    sym (is_some-find (has_number number) messages) ∙ ap is_some (sym is) ∙ is_some-option_map message_numbers found

-- 64 are under way if all places are taken
pub full_if_most : (messages : List MessageNumbers) (items : List Message)
    → length items ≤ most_under_way → map message_numbers items ≡ messages
    → nat_le most_under_way (length messages) ≡ (length items == most_under_way)
full_if_most messages items fits seen =
    let same : length messages ≡ length items = ap length (sym seen) ∙ length-map items message_numbers in
    grind (arith, nat_tests)
