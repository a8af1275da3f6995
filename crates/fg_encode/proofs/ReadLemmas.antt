-- How far a stream was read.
use Rattle.std.proofs.Common.{◌≡◌, ℕ, Option, None, Some, IfOk, OnErr, Result, Ok, Err, List, [], refl, subst, arith}
use Rattle.fg_io.specs.declared.fault.Fault.{Fault}
use Rattle.fg_encode.specs.Encode.{ending_of}
use Rattle.fg_encode.specs.EncodeSteps.{IsReadTo}
use Rattle.fg_encode.specs.Reading.{IsStreamReadFor, ReadsAsFar, ReadsLittle}
use Rattle.fg_encode.specs.Stream.{StreamEnding}
use Rattle.fg_encode.specs.StreamReader.{StreamState, StandsAfter}

-- what was read for an ending was read for a fault
pub any_ending : (max : ℕ) (ending : Option StreamEnding) (bytes : List ℕ) (now : Option (List ℕ)) → IsStreamReadFor max ending bytes now → IsStreamReadFor max None bytes now
any_ending max ending bytes now h = record {
  read = h.read;
  rest = h.rest;
  now_is = h.now_is;
  all = h.all;
  reaches = tt;
  bounded = h.bounded;
}

pub any_ending_to : (max : ℕ) (ending : Option StreamEnding) (first now : Option (List ℕ)) → IsReadTo max ending first now → IsReadTo max None first now
any_ending_to max ending None now h = tt
any_ending_to max ending (Some bytes) now h = any_ending max ending bytes now h

-- nothing was read
pub unread : (max : ℕ) (bytes : List ℕ) → IsStreamReadFor max None bytes (Some bytes)
unread max bytes = record {
  read = [];
  rest = bytes;
  now_is = refl;
  all = refl;
  reaches = tt;
  bounded = omega arith;
}

pub unread_to : (max : ℕ) (first : Option (List ℕ)) → IsReadTo max None first first
unread_to max None = tt
unread_to max (Some bytes) = unread max bytes

-- wherever a reader stands
pub read_so_far : ReadsAsFar → (reader : StreamState) (first now : Option (List ℕ)) (payloads : List (List ℕ)) (max : ℕ) → reader.max ≡ max
    → StandsAfter reader first now payloads → ReadsLittle reader → IsReadTo max reader.kept first now
read_so_far law reader None now payloads max limit h little = tt
read_so_far law reader (Some bytes) now payloads max limit h little =
    subst (λ m. IsStreamReadFor m reader.kept bytes now) limit (law reader bytes now payloads h little)

-- what the answer to a stream was read for
pub read_of : (max : ℕ) (came : Result StreamEnding Fault) (first now : Option (List ℕ)) → IfOk came (λ ending. IsReadTo max (Some ending) first now) → OnErr came (IsReadTo max None first now)
    → IsReadTo max (ending_of came) first now
read_of max (Ok ending) first now h k = h
read_of max (Err fault) first now h k = k
