-- What is known between two records of a trace that is being read.
use Rattle.std.proofs.Common.{◌≡◌, ℕ, ◌+◌, ◌≤◌, List, ◌++◌, ◌∷◌, length, map, Some, Ok, [], ap, ◌∙◌, sym, append_assoc, arith}
use Rattle.std.proofs.lemmas.List.{map-append}
use Rattle.trace.specs.Contents.{content_of, size_of}
use Rattle.trace.specs.Format.{place_behind}
use Rattle.trace.specs.Readers.{reader_trace, reader_offset, next_finding}
use Rattle.trace.specs.declared.reader.Reader.{Reader}
use Rattle.trace.specs.declared.records.Record.{Record}
use Rattle.trace.specs.Whole.{Whole, whole_of}
use Rattle.trace.proofs.Whole.{rest, rest_record}

-- these records of bs were read, and the reader stands behind them
pub record AreRead (bs : List ℕ) (reader : Reader) (records : List Record) : Type 0 where
  pub list : map content_of records ++ (rest bs (reader_offset reader)).records ≡ (whole_of bs).records
  pub ending : (rest bs (reader_offset reader)).ending ≡ (whole_of bs).ending
  pub same : reader_trace reader ≡ bs

module _ {bs : List ℕ} {reader : Reader} {records : List Record} (g : AreRead bs reader records) where
  -- one more
  pub read_more : (i : ℕ) (r : Record) (later : Reader) → next_finding reader ≡ Ok (Some (i, content_of r))
      → reader_trace later ≡ reader_trace reader
      → reader_offset later ≡ place_behind (reader_offset reader) (next_finding reader) → AreRead bs later (records ++ r ∷ [])
  read_more i r later e t o =
      let at = reader_offset reader in
      let m = content_of r in
      let h : at ≤ length bs = omega (arith, ap length g.same) in
      let behind : reader_offset later ≡ at + size_of m = o ∙ ap (place_behind at) e in
      let here = rest_record bs at i m h (rw (← g.same) e) in
      let moved : (map content_of records ++ m ∷ []) ++ (rest bs (at + size_of m)).records ≡ (whole_of bs).records =
      append_assoc (map content_of records) (m ∷ []) (rest bs (at + size_of m)).records
      ∙ ap (λ (w : Whole). map content_of records ++ w.records) (sym here) ∙ g.list in
      record {
        list = rw (behind, map-append content_of records (r ∷ [])) moved;
        ending = rw behind (ap (λ (w : Whole). w.ending) (sym here) ∙ g.ending);
        same = t ∙ g.same;
      }
