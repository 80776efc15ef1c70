-- The first words of lines.
use Rattle.std.specs.Prelude.{ℕ, List, [], ◌∷◌, Option, codes, find}
use Rattle.std.specs.Str.{bytes_eq}
use Rattle.spelling.specs.declared.verb.Verb.{Verb}
use Rattle.spelling.specs.declared.verb.Verb.TheVariants.{SetUp, Note, Send, Receipt, Loss, Put, Read}

-- how a first word is written
abbrev pub verb_text : Verb → List ℕ
verb_text SetUp = codes "setup"
verb_text Note = codes "note"
verb_text Send = codes "send"
verb_text Receipt = codes "receipt"
verb_text Loss = codes "loss"
verb_text Put = codes "put"
verb_text Read = codes "read"

-- every first word
abbrev pub verbs : List Verb
verbs = SetUp ∷ Note ∷ Send ∷ Receipt ∷ Loss ∷ Put ∷ Read ∷ []

-- the first word that is written so
unfoldable pub verb_of : List ℕ → Option Verb
verb_of word = find (λ verb. bytes_eq (verb_text verb) word) verbs
