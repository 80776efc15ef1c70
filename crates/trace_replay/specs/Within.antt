-- What the functions within `trace_replay` promise each other.
use Rattle.std.specs.Prelude.{◌≡◌, ℕ, List, [], ◌∷◌, length, take, Some, None, Ok, Option, Result, Vec, ⊤}
use Rattle.std.specs.declared.alloc.Global.{Global}
use Rattle.refusals.specs.Refusals.{result_map, shown}
use Rattle.replay.specs.declared.call.Answer.{Answer}
use Rattle.replay.specs.declared.call.Answer.TheVariants as answer
use Rattle.replay.specs.declared.call.Question.{Question}
use Rattle.replay.specs.declared.call.Question.TheVariants as question
use Rattle.store.specs.declared.version.Version.{Version}
use Rattle.trace_replay.specs.Traced.{places}

-- There is one question: for the page at this stamp, with as many rows as there are places for versions.
pub record AsksForPage {K : Type 0} (stamp : ℕ) (questions : List (Question K)) : Type 0 where
  pub rows : Vec (Version K) Global
  pub one : questions ≡ question.Cut stamp rows ∷ []
  pub enough : length rows.items ≡ places

-- is it the answer to a cut?
abbrev pub IsOfCut : {K : Type 0} → Option (Answer K) → Type 0
IsOfCut None = ⊥
IsOfCut (Some (answer.Event result)) = ⊥
IsOfCut (Some (answer.Loss result)) = ⊥
IsOfCut (Some (answer.Read result)) = ⊥
IsOfCut (Some (answer.Cut count rows)) = ⊤
IsOfCut (Some (answer.UnderWay count rows)) = ⊥

-- the rows that it filled, or why there are none (no other answer is asked)
abbrev pub cut_page : {K : Type 0} → Option (Answer K) → Result (List (Version K)) ℕ
cut_page None = Ok []
cut_page (Some (answer.Event result)) = Ok []
cut_page (Some (answer.Loss result)) = Ok []
cut_page (Some (answer.Read result)) = Ok []
cut_page (Some (answer.Cut count rows)) = result_map (λ n. take n rows.items) (shown count)
cut_page (Some (answer.UnderWay count rows)) = Ok []
