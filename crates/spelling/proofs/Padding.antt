-- Zero bytes behind a name.
use Rattle.std.proofs.Common.{◌≡◌, ℕ, ◌++◌, true, List, length, drop, replicate, Some, ap, ◌∙◌}
use Rattle.std.proofs.lemmas.List.{drop-replicate}
use Rattle.spelling.specs.Keys.{is_name, tag_of}

-- a name that was copied over the first of sixteen zero bytes
pub over_zeros : (name copied : List ℕ) → is_name name ≡ true → copied ≡ name
    → Some (copied ++ drop (length name) (replicate 16 0)) ≡ tag_of name
unfolding tag_of
over_zeros name copied is same =
    rw is (ap (λ (front : List ℕ). Some (front ++ drop (length name) (replicate 16 0))) same
    ∙ ap (λ (zeros : List ℕ). Some (name ++ zeros)) (drop-replicate (length name) 16 0))
