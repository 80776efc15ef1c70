-- What the program does.
use Rattle.std.specs.Prelude.{◌≡◌, ℕ, List, [], ◌∷◌, ◌++◌, Option, Result, Ok, Err, codes, decimal}
use Rattle.std.specs.Io.KnownBytes.{Appends}
use Rattle.std.specs.declared.process.ExitCode.{ExitCode}

-- what is said of a line that is not understood
abbrev pub message_of : ℕ → List ℕ
message_of line = codes "line " ++ (decimal line ++ (codes " is not understood" ++ 10 ∷ []))

-- the output gains the trace, with status 0; or it stays, and the error gains the message, with 1
abbrev pub Told : Result (List ℕ) ℕ → (output written errors said : Option (List ℕ)) → ExitCode → Type 0
Told (Ok trace) output written errors said code =
    Appends output written trace × (said ≡ errors) × (code.status ≡ 0)
Told (Err line) output written errors said code =
    (written ≡ output) × Appends errors said (message_of line) × (code.status ≡ 1)
