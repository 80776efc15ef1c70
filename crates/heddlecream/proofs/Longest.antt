-- The first bytes of a trace say whether it is too long.
use Rattle.std.proofs.Common.{◌≡◌, ◌<◌, ◌≤◌, ◌++◌, ◌∙◌, ℕ, Bool, true, false, IfSome, OnOk, None, Some, Ok, Err, Option, Result}
use Rattle.std.proofs.Common.{List, [], length, take, nat_le, refl, ap, subst, arith}
use Rattle.std.specs.Option.{option_map}
use Rattle.std.specs.Io.KnownBytes.{Appends}
use Rattle.std.specs.Io.Take.{take_limit, take_inner, take_remaining}
use Rattle.std.specs.declared.io.traits.Take.{Take}
use Rattle.std.proofs.lemmas.Bool.{leb-true, leb-false}
use Rattle.std.proofs.lemmas.List.{length-take-le, take_all}
use Rattle.listing.specs.Text.{text_of}

text_by : (bs : List ℕ) (fits : Bool) → nat_le (length bs) 65536 ≡ fits → text_of (take 65537 bs) ≡ text_of bs
text_by bs true is =
    let short : length bs ≤ 65536 = leb-true (length bs) 65536 is in
    ap text_of (take_all 65537 bs (omega (arith, short)))
text_by bs false is =
    let long : 65536 < length bs = leb-false (length bs) 65536 is in
    let first : length (take 65537 bs) ≡ 65537 = length-take-le 65537 bs long in
    let longer : nat_le (length (take 65537 bs)) 65536 ≡ false = rw first refl in
    rw (longer, is) refl

-- one byte more than the longest trace is enough
text_of_first : (bs : List ℕ) → text_of (take 65537 bs) ≡ text_of bs
text_of_first bs = text_by bs (nat_le (length bs) 65536) refl

-- What was read of an input, up to that byte, has the text of all that the input still had.
pub listed : {I E : Type 0} (remaining : I → Option (List ℕ)) (input : I) (taken : Take I) (before read text : List ℕ)
    (r : Result (Unit {0}) E) (old new : Option (List ℕ))
    → take_inner taken ≡ input → take_limit taken ≡ 65537 → before ≡ []
    → IfSome (take_remaining remaining taken) (λ bs. read ≡ before ++ bs) → text ≡ text_of read
    → OnOk r (Appends old new text)
    → OnOk r (IfSome (remaining input) (λ trace. Appends old new (text_of trace)))
listed remaining input taken before read text (Err e) old new inner limit none got same wrote = tt
listed remaining input taken before read text (Ok u) old new inner limit none got same wrote =
    go (remaining input) (subst (λ i. IfSome (option_map (take taken.limit) (remaining i)) (λ bs. read ≡ before ++ bs)) inner got)
  where
    go : (left : Option (List ℕ)) → IfSome (option_map (take taken.limit) left) (λ bs. read ≡ before ++ bs)
        → IfSome left (λ trace. Appends old new (text_of trace))
    go None is = tt
    go (Some trace) is =
        let first : read ≡ take 65537 trace = is ∙ ap (λ b. b ++ take taken.limit trace) none ∙ ap (λ n. take n trace) limit in
        subst (Appends old new) (same ∙ ap text_of first ∙ text_of_first trace) wrote
