-- What both commands of captures have of how far they read.
use Rattle.std.proofs.Common.{ℕ, None, Some, Result, Ok, Err, List, [], refl, arith}
use Rattle.fg_io.specs.declared.fault.Fault.{Fault}
use Rattle.fg_pcap.specs.ReadFor.{IsReadFor, ending_of}
use Rattle.fg_commands.proofs.Came.{HasTold}

pub told : {E : Type 0} (came : Result E Fault) → HasTold came (ending_of came)
told (Ok end) = refl
told (Err f) = refl

-- nothing was read
pub unread : {E : Type 0} (Reaches : E → List ℕ → List ℕ → Type 0) (max : ℕ) (bytes : List ℕ) → IsReadFor Reaches max None bytes (Some bytes)
unread Reaches max bytes = record { read = []; rest = bytes; now_is = refl; all = refl; reaches = tt; bounded = omega arith }
