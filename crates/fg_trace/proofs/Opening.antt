-- What is known of a reader that has found the magic: its input isn't refused, the records that it stands after are few, and
-- a fault leaves it after them.
use Rattle.std.proofs.Common.{◌≡◌, ◌≢◌, ◌⊎◌, inl, inr, ℕ, ◌<◌, ◌≤◌, Option, Some, None, IfSome, Err, List, [], ◌∷◌, ◌++◌, length, slice_index, ap, ◌∙◌, subst, arith, append_assoc, append-nil, length-append}
use Rattle.std.specs.List.{flat_map}
use Rattle.std.proofs.lemmas.List.{get_or_append_left}
use Rattle.std.specs.Io.KnownBytes.{prepend_known}
use Rattle.fg_trace.specs.declared.step.TraceFault.{TraceFault}
use Rattle.fg_trace.specs.declared.step.TraceFault.TheVariants as fault
use Rattle.fg_trace.specs.Reader.{ReaderState, StandsAfter, Walks}
use Rattle.fg_trace.specs.Trace.{Record, DiffersAt, IsTrace, NotTrace, magic, spelling}

-- the front of a list is its own
front_at : (n : ℕ) (rest : List ℕ) → n < length magic → slice_index (magic ++ rest) n ≡ slice_index magic n
front_at n rest h = get_or_append_left magic rest 0 n h

not_differs : (bytes rest : List ℕ) (n : ℕ) → bytes ≡ magic ++ rest → DiffersAt bytes n → (length bytes ≡ n) ⊎ (slice_index bytes n ≢ slice_index magic n) → ⊥
not_differs bytes rest n e h (inl short) = omega (arith, h.within, length-append magic rest, ap length e)
not_differs bytes rest n e h (inr ne) = ne (ap (λ t. slice_index t n) e ∙ front_at n rest h.within)

begins : (bytes held : List ℕ) (now : Option (List ℕ)) → Some bytes ≡ prepend_known (magic ++ held) now → (rest : List ℕ) × (bytes ≡ magic ++ rest)
begins bytes held None e = absurd cc
begins bytes held (Some left) e =
    let same : bytes ≡ (magic ++ held) ++ left = cc in
    (held ++ left, same ∙ append_assoc magic held left)

pub never_refused : (P : Type 0) (first now : Option (List ℕ)) (reader : ReaderState) (max : ℕ) → StandsAfter reader first now [] → IfSome first (λ bytes. (place : ℕ) → IsTrace bytes max [] (NotTrace place) → P)
never_refused P None now reader max h = tt
never_refused P (Some bytes) now reader max h = λ place trace.
    let front = begins bytes reader.held now (subst (λ (t : List ℕ). Some bytes ≡ prepend_known (t ++ reader.held) now) (append-nil magic) h.given) in
    absurd (not_differs bytes front.0 place front.1 trace.1 trace.1.differs)

-- a record is spelled by one byte at least
spelled_some : (r : Record) → 1 ≤ length (spelling r)
spelled_some r = omega arith

pub few_spelled : (records : List Record) → length records ≤ length (flat_map spelling records)
few_spelled [] = omega arith
few_spelled (r ∷ records) = omega (arith, spelled_some r, few_spelled records, length-append (spelling r) (flat_map spelling records))

-- a fault leaves the reader after the same records
pub stands_still : (reader : ReaderState) (first now : Option (List ℕ)) (records : List Record) (why : TraceFault) → Walks (Err why) reader first now records → StandsAfter reader first now records
stands_still reader first now records fault.ReadFault h = h
stands_still reader first now records (fault.NotTrace n) h = h.0
stands_still reader first now records (fault.TooLong n) h = h.0
stands_still reader first now records (fault.Cut n) h = h.0
