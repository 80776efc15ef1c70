-- What the program prints.
use Rattle.std.specs.Prelude.{◌≡◌, ℕ, List, [], ◌∷◌, ◌++◌, Ok, Err, Option, Result, codes}
use Rattle.std.specs.Io.KnownBytes.{Appends}
use Rattle.std.specs.declared.process.ExitCode.{ExitCode}
use Rattle.sheet.specs.NoPage.{Why, no_page_text}
use Rattle.sheet.specs.Sheet.{SheetIsInspected, sheet_of}
use Rattle.sheet.specs.declared.request.Request.{Request}

-- a sheet, or the line that stands in its place
abbrev pub answer_text : Result (List ℕ) Why → List ℕ
answer_text (Ok sheet) = sheet
answer_text (Err why) = no_page_text why ++ 10 ∷ []

-- the status of the program: 0 with a sheet, and 1 without
abbrev pub status_of : Result (List ℕ) Why → ℕ
status_of (Ok sheet) = 0
status_of (Err why) = 1

-- how the program is called
abbrev pub usage_text : List ℕ
usage_text = codes "usage: page [TIME.COUNTER] [closed]\n"

-- An output gains this text, and this is the status.
pub record Prints (text : List ℕ) (status : ℕ) (old new : Option (List ℕ)) (code : ExitCode) : Type 0 where
  pub output : Appends old new text
  pub status_is : code.status ≡ status

-- What the program does with a trace: it prints the sheet, or why there is none; and the law of whole runs says of the page what
-- it says of every page.
abbrev pub ShowsPage : Request → List ℕ → (old new : Option (List ℕ)) → ExitCode → Type 0
ShowsPage r trace old new code =
    Prints (answer_text (sheet_of trace r.closed r.stamp)) (status_of (sheet_of trace r.closed r.stamp)) old new code
    × SheetIsInspected trace r.closed r.stamp
