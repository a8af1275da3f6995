-- How far an input is read, whatever is answered.
use Rattle.std.proofs.Common.{ℕ, Option, None, Some, IfSome, List}
use Rattle.fg_pcap.specs.ReadFor.{IsReadFor}

-- what was read for any ending is read for a fault
pub fault_read : {E : Type 0} (Reaches : E → List ℕ → List ℕ → Type 0) (max : ℕ) (ending : Option E) (first now : Option (List ℕ)) → IfSome first (λ bytes. IsReadFor Reaches max ending bytes now)
    → IfSome first (λ bytes. IsReadFor Reaches max None bytes now)
fault_read Reaches max ending None now h = tt
fault_read Reaches max ending (Some bytes) now h = record {
  read = h.read;
  rest = h.rest;
  now_is = h.now_is;
  all = h.all;
  reaches = tt;
  bounded = h.bounded;
}
