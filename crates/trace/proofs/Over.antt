-- A list written over another: what is known of `overlay`.
use Rattle.std.proofs.Common.{◌≡◌, ℕ, ◌+◌, ◌≤◌, List, ◌++◌, length, take, drop, sym, ap, ◌∙◌, append_assoc, add_assoc, arith}
use Rattle.std.proofs.Common.{length-append, drop-drop, take_at}
use lib.Seq.{drop-append-add}
use Rattle.std.proofs.lemmas.List.{length-take-le}
use Rattle.trace.specs.Writing.{overlay}

-- over a list in two parts
over_parts : (p q zs : List ℕ) (i : ℕ) → length p ≡ i → overlay i zs (p ++ q) ≡ p ++ (zs ++ drop (length zs) q)
unfolding overlay
over_parts p q zs i e =
    ap (λ (t : List ℕ). t ++ (zs ++ drop (i + length zs) (p ++ q))) (take_at p q i e)
    ∙ ap (λ (n : ℕ). p ++ (zs ++ drop (n + length zs) (p ++ q))) (sym e)
    ∙ ap (λ (t : List ℕ). p ++ (zs ++ t)) (drop-append-add p q (length zs))

-- one write behind another is one write
pub overlay_overlay : (place i : ℕ) (xs ys zs : List ℕ) → i ≡ place + length ys → place ≤ length xs
    → overlay i zs (overlay place ys xs) ≡ overlay place (ys ++ zs) xs
unfolding overlay
overlay_overlay place i xs ys zs e h =
    let p = take place xs ++ ys in
    let q = drop (place + length ys) xs in
    let lp : length p ≡ i = omega (arith, length-append (take place xs) ys, length-take-le place xs h) in
    ap (overlay i zs) (sym (append_assoc (take place xs) ys q))
    ∙ over_parts p q zs i lp
    ∙ append_assoc (take place xs) ys (zs ++ drop (length zs) q)
    ∙ ap (λ (t : List ℕ). take place xs ++ (ys ++ (zs ++ t))) (drop-drop (length zs) (place + length ys) xs)
    ∙ ap (λ (t : List ℕ). take place xs ++ t) (sym (append_assoc ys zs (drop (place + length ys + length zs) xs)))
    ∙ ap (λ (n : ℕ). take place xs ++ ((ys ++ zs) ++ drop n xs))
    (add_assoc place (length ys) (length zs) ∙ ap (λ (n : ℕ). place + n) (sym (length-append ys zs)))

-- for calls that write one behind another
pub ruleset overlays = (overlay_overlay, length-append)
