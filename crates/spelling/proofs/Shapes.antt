-- The words behind the first, by how many they are.
use Rattle.std.proofs.Common.{◌≡◌, ◌≢◌, ℕ, List, [], ◌∷◌, length, get_or, map, None, Some, Option, Bor, ◌∙◌, ap, sym}
use Rattle.std.proofs.Common.{refl, option_and_then, arith}
use Rattle.spelling.specs.declared.verb.Verb.{Verb}
use Rattle.spelling.specs.declared.verb.Verb.TheVariants.{SetUp, Note, Send, Receipt, Loss, Put, Read}
use Rattle.spelling.specs.Records.{loss_of, note_of, put_of, read_of, receipt_of, record_for, record_of, send_of, set_up_of}
use Rattle.spelling.specs.Verbs.{verb_of}
use Rattle.std.specs.List.{IsFirstAndRest}

-- words that a slice lends
abbrev pub Words : Type 0
Words = List (Bor (List ℕ))

abbrev pub texts : Words → List (List ℕ)
texts ws = map (λ word. word.now) ws

abbrev pub at : Words → ℕ → Bor (List ℕ) → List ℕ
at ws i d = (get_or ws i d).now

-- a slice of so many words is a list of so many
one : (P : Words → Type 0) → ((a : Bor (List ℕ)) → P (a ∷ [])) → (ws : Words) → length ws ≡ 1 → P ws
one P p [] h = absurd (omega arith)
one P p (a ∷ []) h = p a
one P p (a ∷ b ∷ ws) h = absurd (omega arith)

two : (P : Words → Type 0) → ((a b : Bor (List ℕ)) → P (a ∷ b ∷ [])) → (ws : Words) → length ws ≡ 2 → P ws
two P p [] h = absurd (omega arith)
two P p (a ∷ ws) h = one (λ ws. P (a ∷ ws)) (p a) ws (omega arith)

three : (P : Words → Type 0) → ((a b c : Bor (List ℕ)) → P (a ∷ b ∷ c ∷ [])) → (ws : Words) → length ws ≡ 3 → P ws
three P p [] h = absurd (omega arith)
three P p (a ∷ ws) h = two (λ ws. P (a ∷ ws)) (p a) ws (omega arith)

four : (P : Words → Type 0) → ((a b c d : Bor (List ℕ)) → P (a ∷ b ∷ c ∷ d ∷ [])) → (ws : Words) → length ws ≡ 4 → P ws
four P p [] h = absurd (omega arith)
four P p (a ∷ ws) h = three (λ ws. P (a ∷ ws)) (p a) ws (omega arith)

-- and has the record of its words
module _ (d : Bor (List ℕ)) where
  pub set_up_at : (ws : Words) → length ws ≡ 4
      → set_up_of (at ws 0 d) (at ws 1 d) (at ws 2 d) (at ws 3 d) ≡ record_for SetUp (texts ws)
  unfolding record_for
  set_up_at = four (λ ws. set_up_of (at ws 0 d) (at ws 1 d) (at ws 2 d) (at ws 3 d) ≡ record_for SetUp (texts ws))
      (λ a b c d. refl)

  pub note_at : (ws : Words) → length ws ≡ 2 → note_of (at ws 0 d) (at ws 1 d) ≡ record_for Note (texts ws)
  unfolding record_for
  note_at = two (λ ws. note_of (at ws 0 d) (at ws 1 d) ≡ record_for Note (texts ws)) (λ a b. refl)

  pub send_at : (ws : Words) → length ws ≡ 4
      → send_of (at ws 0 d) (at ws 1 d) (at ws 2 d) (at ws 3 d) ≡ record_for Send (texts ws)
  unfolding record_for
  send_at = four (λ ws. send_of (at ws 0 d) (at ws 1 d) (at ws 2 d) (at ws 3 d) ≡ record_for Send (texts ws)) (λ a b c d. refl)

  pub receipt_at : (ws : Words) → length ws ≡ 3
      → receipt_of (at ws 0 d) (at ws 1 d) (at ws 2 d) ≡ record_for Receipt (texts ws)
  unfolding record_for
  receipt_at = three (λ ws. receipt_of (at ws 0 d) (at ws 1 d) (at ws 2 d) ≡ record_for Receipt (texts ws)) (λ a b c. refl)

  pub loss_at : (ws : Words) → length ws ≡ 1 → loss_of (at ws 0 d) ≡ record_for Loss (texts ws)
  unfolding record_for
  loss_at = one (λ ws. loss_of (at ws 0 d) ≡ record_for Loss (texts ws)) (λ a. refl)

  pub put_at : (ws : Words) → length ws ≡ 4
      → put_of (at ws 0 d) (at ws 1 d) (at ws 2 d) (at ws 3 d) ≡ record_for Put (texts ws)
  unfolding record_for
  put_at = four (λ ws. put_of (at ws 0 d) (at ws 1 d) (at ws 2 d) (at ws 3 d) ≡ record_for Put (texts ws)) (λ a b c d. refl)

  pub read_at : (ws : Words) → length ws ≡ 2 → read_of (at ws 0 d) (at ws 1 d) ≡ record_for Read (texts ws)
  unfolding record_for
  read_at = two (λ ws. read_of (at ws 0 d) (at ws 1 d) ≡ record_for Read (texts ws)) (λ a b. refl)

-- how many words stand behind a first word
abbrev pub arity : Verb → ℕ
arity SetUp = 4
arity Note = 2
arity Send = 4
arity Receipt = 3
arity Loss = 1
arity Put = 4
arity Read = 2

-- other than so many are no record
pub none_at : (verb : Verb) (ws : Words) → length ws ≢ arity verb → None ≡ record_for verb (texts ws)
unfolding record_for
none_at SetUp (a ∷ b ∷ c ∷ d ∷ []) h = absurd (h refl)
none_at Note (a ∷ b ∷ []) h = absurd (h refl)
none_at Send (a ∷ b ∷ c ∷ d ∷ []) h = absurd (h refl)
none_at Receipt (a ∷ b ∷ c ∷ []) h = absurd (h refl)
none_at Loss (a ∷ []) h = absurd (h refl)
none_at Put (a ∷ b ∷ c ∷ d ∷ []) h = absurd (h refl)
none_at Read (a ∷ b ∷ []) h = absurd (h refl)
none_at verb ws h = refl

-- no words are no record
pub no_words : (ws : Words) → length ws ≡ 0 → None ≡ record_of (texts ws)
unfolding record_of
no_words [] h = refl
no_words (a ∷ ws) h = absurd (omega arith)

-- words by their first
by_first : (ws rest : Words) (first : Bor (List ℕ)) → IsFirstAndRest ws first rest
    → option_and_then (λ verb. record_for verb (texts rest)) (verb_of first.now) ≡ record_of (texts ws)
unfolding record_of
by_first ws rest first h = ap (λ (ws : Words). record_of (texts ws)) (sym h.0)

-- none where the first word is no first word
pub no_verb : (ws rest : Words) (first : Bor (List ℕ)) → IsFirstAndRest ws first rest → verb_of first.now ≡ None
    → None ≡ record_of (texts ws)
no_verb ws rest first h e =
    ap (λ (verb : Option Verb). option_and_then (λ verb. record_for verb (texts rest)) verb) (sym e) ∙ by_first ws rest first h

-- and else the record of the words behind it
pub by_verb : (ws rest : Words) (first : Bor (List ℕ)) (verb : Verb) → IsFirstAndRest ws first rest
    → verb_of first.now ≡ Some verb
    → record_for verb (texts rest) ≡ record_of (texts ws)
by_verb ws rest first verb h e =
    ap (λ (verb : Option Verb). option_and_then (λ verb. record_for verb (texts rest)) verb) (sym e) ∙ by_first ws rest first h
