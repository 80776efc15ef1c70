-- What a list of rows shows after the messages were written to its first places.
use Rattle.std.proofs.Common.{◌≡◌, ◌∙◌, ℕ, ◌≤◌, List, ◌++◌, length, drop, map, nat_le, true, ap, sym, arith}
use Rattle.std.specs.List.{drop-map}
use Rattle.std.proofs.lemmas.Bool.Decides.{nat_tests}
use Rattle.std.proofs.lemmas.List.{length-map, map-append}
use Rattle.store.specs.Page.{after_cut}
use Rattle.messages.specs.Messages.{MessageNumbers, message_numbers}
use Rattle.messages.specs.declared.message.Message.{Message}

pub shown_rows : (written items rows : List Message) (count : ℕ) (messages : List MessageNumbers)
    → written ≡ items → count ≡ length items → count ≤ length rows → map message_numbers items ≡ messages
    → map message_numbers (written ++ drop count rows) ≡ after_cut messages (map message_numbers rows)
shown_rows written items rows count messages same long fits seen =
    let places = length-map rows message_numbers in
    let length_seen : length messages ≡ count = ap length (sym seen) ∙ length-map items message_numbers ∙ sym long in
    let room : nat_le (length messages) (length (map message_numbers rows)) ≡ true = grind (arith, nat_tests) in
    rw (room, length_seen, drop-map message_numbers count rows, ← seen, ← same)
    (map-append message_numbers written (drop count rows))
