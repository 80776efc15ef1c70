-- Lists with the same versions at or below a stamp: at that stamp they have the same answers and pages.
use Rattle.std.proofs.Common.{ℕ, ◌≤◌, ◌↔◌, inl, inr, List, Some, None, Option}
use Rattle.std.specs.declared.cmp.Ordering.{Ordering}
use Rattle.std.proofs.lemmas.Bool.{cases_lt}
use Rattle.store.specs.Newest.{IsIn, IsNewest, IsReadAnswer}
use Rattle.store.specs.Page.{IsPage}
use Rattle.store.specs.declared.version.Version.{Version}

-- the same versions at or below a stamp
pub record AreSameUpTo {K : Type 0} (stamp : ℕ) (vs ws : List (Version K)) : Type 0 where
  pub there : (v : Version K) → v.stamp ≤ stamp → IsIn v vs → IsIn v ws
  pub back : (v : Version K) → v.stamp ≤ stamp → IsIn v ws → IsIn v vs

module _ {K : Type 0} {stamp : ℕ} {vs ws : List (Version K)} where
  same_back : AreSameUpTo stamp vs ws → AreSameUpTo stamp ws vs
  same_back same = record { there = same.back; back = same.there }

  newest_carries : AreSameUpTo stamp vs ws → (key : K) (v : Version K) → IsNewest vs key stamp v → IsNewest ws key stamp v
  newest_carries same key v newest = record {
    there = same.there v newest.not_above newest.there;
    of_key = newest.of_key;
    not_above = newest.not_above;
    none_later = λ w is_in of_key below. newest.none_later w (same.back w below is_in) of_key below;
  }

  -- what is answered of the one is answered of the other
  answer_carries : AreSameUpTo stamp vs ws → (key : K) (answer : Option (Version K)) → IsReadAnswer vs key stamp answer
      → IsReadAnswer ws key stamp answer
  answer_carries same key (Some v) newest = newest_carries same key v newest
  answer_carries same key None none = λ w is_in of_key. elim (cases_lt stamp w.stamp) [
    | inl above ↦ above
    | inr below ↦ none w (same.back w below is_in) of_key
  ]

  page_carries : (order : K → K → Ordering) → AreSameUpTo stamp vs ws → (rows : List (Version K)) → IsPage order vs stamp rows
      → IsPage order ws stamp rows
  page_carries order same rows page = record {
    ascending = page.ascending;
    newest = λ row is_in. newest_carries same row.key row (page.newest row is_in);
    complete = λ v is_in below. page.complete v (same.back v below is_in) below;
  }

module _ {K : Type 0} {stamp : ℕ} {vs ws : List (Version K)} where
  pub answers_alike : AreSameUpTo stamp vs ws → (key : K) (answer : Option (Version K))
      → IsReadAnswer vs key stamp answer ↔ IsReadAnswer ws key stamp answer
  answers_alike same key answer = (answer_carries same key answer, answer_carries (same_back same) key answer)

  pub pages_alike : (order : K → K → Ordering) → AreSameUpTo stamp vs ws → (rows : List (Version K))
      → IsPage order vs stamp rows ↔ IsPage order ws stamp rows
  pages_alike order same rows = (page_carries order same rows, page_carries order (same_back same) rows)
