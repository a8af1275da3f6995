-- A trace has one ending.
use Rattle.std.proofs.Common.{◌≡◌, ℕ, ◌≤◌, List, ◌++◌, length, sym, ap, ◌∙◌, refl, arith, append_assoc}
use Rattle.std.specs.List.{flat_map, AllByRecursion}
use Rattle.fg_trace.specs.Trace.{Record, Fits, spelling, magic, trace_of, Begins, IsLongest, DiffersAt, Ending, Ended, NotTrace, Cut, TooLong, IsTrace}
use Rattle.fg_trace.proofs.Fronts.{no_difference, one_difference, one_longest}
use Rattle.fg_trace.proofs.Traces.{longest}

-- bytes with the magic are no other
pub apart : (bytes : List ℕ) (max : ℕ) (records : List Record) (n : ℕ) → Begins bytes max records → DiffersAt bytes n → ⊥
apart bytes max records n h k = no_difference bytes (flat_map spelling records ++ h.rest) n (h.spelled ∙ append_assoc magic (flat_map spelling records) h.rest) k

same_place : (bytes : List ℕ) (max : ℕ) (p q : List Record) → IsLongest bytes max p → IsLongest bytes max q → length (trace_of p) ≡ length (trace_of q)
same_place bytes max p q h k = ap (λ t. length (trace_of t)) (one_longest bytes max p q h k)

pub one_trace : (bytes : List ℕ) (max : ℕ) (p q : List Record) (e f : Ending) → IsTrace bytes max p e → IsTrace bytes max q f → (p ≡ q) × (e ≡ f)
one_trace bytes max p q Ended Ended h k = (one_longest bytes max p q h.1 k.1, refl)
one_trace bytes max p q Ended (NotTrace n) h k = absurd (apart bytes max p n h.1.begins k.1)
one_trace bytes max p q Ended (Cut n) h k = absurd (omega (arith, h.2, k.2, k.3, same_place bytes max p q h.1 k.1))
one_trace bytes max p q Ended (TooLong n) h k = absurd (omega (arith, h.0, k.0))
one_trace bytes max p q (NotTrace m) Ended h k = absurd (apart bytes max q m k.1.begins h.1)
one_trace bytes max p q (NotTrace m) (NotTrace n) h k = (h.0 ∙ sym k.0, ap NotTrace (one_difference bytes m n h.1 k.1))
one_trace bytes max p q (NotTrace m) (Cut n) h k = absurd (apart bytes max q m k.1.begins h.1)
one_trace bytes max p q (NotTrace m) (TooLong n) h k = absurd (apart bytes max q m k.1.begins h.1)
one_trace bytes max p q (Cut m) Ended h k = absurd (omega (arith, k.2, h.2, h.3, same_place bytes max p q h.1 k.1))
one_trace bytes max p q (Cut m) (NotTrace n) h k = absurd (apart bytes max p n h.1.begins k.1)
one_trace bytes max p q (Cut m) (Cut n) h k = (one_longest bytes max p q h.1 k.1, ap Cut (h.2 ∙ same_place bytes max p q h.1 k.1 ∙ sym k.2))
one_trace bytes max p q (Cut m) (TooLong n) h k = absurd (omega (arith, h.0, k.0))
one_trace bytes max p q (TooLong m) Ended h k = absurd (omega (arith, h.0, k.0))
one_trace bytes max p q (TooLong m) (NotTrace n) h k = absurd (apart bytes max p n h.1.begins k.1)
one_trace bytes max p q (TooLong m) (Cut n) h k = absurd (omega (arith, h.0, k.0))
one_trace bytes max p q (TooLong m) (TooLong n) h k = (one_longest bytes max p q h.1 k.1, ap TooLong (h.2 ∙ same_place bytes max p q h.1 k.1 ∙ sym k.2))

pub spelled_is_read : (records : List Record) (max : ℕ) → AllByRecursion Fits records → length (trace_of records) ≤ max → IsTrace (trace_of records) max records Ended
spelled_is_read records max fit within = (within, longest (trace_of records) max records fit within refl, refl)
