-- What a walk over the keys still has to write.
use Rattle.std.proofs.Common.{◌≡◌, ℕ, ◌+◌, ◌<◌, ◌≤◌, ◌++◌, List, [], ◌∷◌, get_or, length, drop, Some, None, Option, true, false}
use Rattle.std.proofs.Common.{◌≢◌, is_some, set, refl, ap, subst, sym, ◌∙◌, arith}
use Rattle.std.specs.Cmp.{IsTotalOrder}
use Rattle.std.specs.declared.cmp.Ordering.{Ordering}
use Rattle.std.specs.List.{cons_option, filter_map}
use Rattle.std.proofs.lemmas.Bool.{both_ways}
use Rattle.std.proofs.Math.Seq.{set-append_seam}
use Rattle.std.proofs.lemmas.List.{append_assoc, drop_more, length-append}
use Rattle.store.specs.Keys.{first_key, next_key}
use Rattle.store.specs.Newest.{newest}
use Rattle.store.specs.Page.{page}
use Rattle.store.specs.Versions.{IsSorted}
use Rattle.store.specs.declared.version.Version.{Version}
use Rattle.store.proofs.Walk.{keys_from_first, keys_from_next, keys_left}

put_behind : {X : Type 0} (written old : List X) (x : X) → length written < length old
    → set (written ++ drop (length written) old) (length written) x ≡ (written ++ x ∷ []) ++ drop (length written + 1) old
put_behind written old x room =
    rw (drop_more old (length written) x room)
    (set-append_seam written (get_or old (length written) x) (drop (length written + 1) old) x)
    ∙ sym (append_assoc written (x ∷ []) (drop (length written + 1) old))

-- one more item behind those that are written
put_next : {X : Type 0} (written old : List X) (count : ℕ) (x : X) → length written ≡ count → count < length old
    → set (written ++ drop count old) count x ≡ (written ++ x ∷ []) ++ drop (count + 1) old
put_next written old count x as_many room =
    subst (λ n. set (written ++ drop n old) n x ≡ (written ++ x ∷ []) ++ drop (n + 1) old) as_many
    (put_behind written old x (omega (arith, as_many, room)))

module _ {K : Type 0} (order : K → K → Ordering) (vs : List (Version K)) (stamp : ℕ) where
  -- the rows of the keys that are left where this one is next
  abbrev pub rows_left : Option K → List (Version K)
  rows_left next = filter_map (λ key. newest order vs key stamp) (keys_left order vs next)

  -- so many rows are counted, and those of the keys that are left are not
  pub record HasCounted (places count : ℕ) (next : Option K) : Type 0 where
    pub sorted : IsSorted order vs
    pub within : count ≤ places
    pub rest : count + length (rows_left next) ≡ length (page order vs stamp)

  -- the first rows are written, and those of the keys that are left are not
  pub record HasWritten (old rows : List (Version K)) (count : ℕ) (next : Option K) : Type 0 where
    pub sorted : IsSorted order vs
    pub written : List (Version K)
    pub as_many : length written ≡ count
    pub rest : written ++ rows_left next ≡ page order vs stamp
    pub rows_are : rows ≡ written ++ drop count old

  module _ (total : IsTotalOrder order) (sorted : IsSorted order vs) where
    pub rows_from_first : rows_left (first_key vs) ≡ page order vs stamp
    rows_from_first = ap (filter_map (λ key. newest order vs key stamp)) (sym (keys_from_first order total vs sorted))

    pub rows_from_next : (key : K) → rows_left (Some key)
        ≡ cons_option (newest order vs key stamp) (rows_left (next_key order vs key))
    rows_from_next key = ap (λ keys. cons_option (newest order vs key stamp) (filter_map (λ key. newest order vs key stamp) keys))
        (keys_from_next order total key vs sorted)

    pub fewer_left : (key : K) → length (keys_left order vs (next_key order vs key)) < length (keys_left order vs (Some key))
    fewer_left key = omega (arith, ap length (keys_from_next order total key vs sorted))

  module _ (total : IsTotalOrder order) (places count : ℕ) (key : K) (counted : HasCounted places count (Some key)) where
    more_counted : (found : Option (Version K)) → newest order vs key stamp ≡ found → is_some found ≡ true → count ≢ places
        → HasCounted places (count + 1) (next_key order vs key)
    more_counted None is there room = absurd (both_ways false refl there)
    more_counted (Some v) is there room =
        let left = ap length (rows_from_next total counted.sorted key) in
        record {
          sorted = counted.sorted;
          within = omega (arith, counted.within, room);
          rest =
              omega (arith, counted.rest, left, ap (λ found. length (cons_option found (rows_left (next_key order vs key)))) is);
        }

    -- a key with a row
    pub row_counted : is_some (newest order vs key stamp) ≡ true → count ≢ places
        → HasCounted places (count + 1) (next_key order vs key)
    row_counted = more_counted (newest order vs key stamp) refl

    same_counted : (found : Option (Version K)) → newest order vs key stamp ≡ found → is_some found ≡ false
        → HasCounted places count (next_key order vs key)
    same_counted (Some v) is none = absurd (both_ways true none refl)
    same_counted None is none =
        let left = ap length (rows_from_next total counted.sorted key) in
        record {
          sorted = counted.sorted;
          within = counted.within;
          rest =
              omega (arith, counted.rest, left, ap (λ found. length (cons_option found (rows_left (next_key order vs key)))) is);
        }

    -- a key without
    pub none_counted : is_some (newest order vs key stamp) ≡ false → HasCounted places count (next_key order vs key)
    none_counted = same_counted (newest order vs key stamp) refl

  module _ (total : IsTotalOrder order) (old rows : List (Version K)) (count : ℕ) (key : K)
      (done : HasWritten old rows count (Some key)) where
    -- a key with a row, for which there is room
    pub row_written : (v : Version K) → newest order vs key stamp ≡ Some v → length (page order vs stamp) ≤ length old
        → HasWritten old (set rows count v) (count + 1) (next_key order vs key)
    row_written v is room =
        let left = rows_from_next total done.sorted key
        ∙ ap (λ found. cons_option found (rows_left (next_key order vs key))) is in
        let page_is : done.written ++ v ∷ rows_left (next_key order vs key) ≡ page order vs stamp =
        ap (λ left. done.written ++ left) (sym left) ∙ done.rest in
        let lengths = ap length page_is in
        let fits : count < length old =
        omega (arith, lengths, room, done.as_many, length-append done.written (v ∷ rows_left (next_key order vs key))) in
        record {
          sorted = done.sorted;
          written = done.written ++ v ∷ [];
          as_many = omega (arith, done.as_many, length-append done.written (v ∷ []));
          rest = append_assoc done.written (v ∷ []) (rows_left (next_key order vs key)) ∙ page_is;
          rows_are = ap (λ rows. set rows count v) done.rows_are ∙ put_next done.written old count v done.as_many fits;
        }

    pub none_written : newest order vs key stamp ≡ None → HasWritten old rows count (next_key order vs key)
    none_written is = record {
      sorted = done.sorted;
      written = done.written;
      as_many = done.as_many;
      rows_are =
          done.rows_are;
      rest = ap (λ left. done.written ++ left)
          (sym (rows_from_next total done.sorted key ∙ ap (λ found. cons_option found (rows_left (next_key order vs key))) is))
          ∙ done.rest;
    }
