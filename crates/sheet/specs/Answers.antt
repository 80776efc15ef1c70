-- What the functions answer, as numbers and bytes.
use Rattle.std.specs.Prelude.{ℕ, List, map, Ok, Err, Result, String, string_bytes}
use Rattle.trace.specs.Contents.{content_of}
use Rattle.trace_run.specs.SetUp.{set_up_numbers}
use Rattle.sheet.specs.NoPage.{Why, no_page_numbers}
use Rattle.sheet.specs.Sheet as sheet
use Rattle.sheet.specs.declared.no_page.NoPage.{NoPage}
use Rattle.sheet.specs.declared.sheet.Start.{Start}

-- a sheet's text, or why there is none
abbrev pub sheet_answer : {Z : Type 0} → Result (String Z) NoPage → Result (List ℕ) Why
sheet_answer (Ok text) = Ok (string_bytes text)
sheet_answer (Err why) = Err (no_page_numbers why)

-- a set-up and the records behind it, or why there is no page
abbrev pub start_answer : Result Start NoPage → Result sheet.Start Why
start_answer (Ok b) = Ok (record { setup = set_up_numbers b.setup; records = map content_of b.records.now })
start_answer (Err why) = Err (no_page_numbers why)
