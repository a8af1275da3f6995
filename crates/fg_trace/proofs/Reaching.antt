-- How far an input is read, wherever a reader stands.
use Rattle.std.proofs.Common.{◌≡◌, inl, inr, ℕ, ◌+◌, ◌≤◌, Option, None, Some, IfSome, List, [], ◌++◌, length, refl, subst, arith, length-append}
use Rattle.fg_io.specs.Source.{Gives}
use Rattle.fg_io.proofs.SourceLemmas.{Gives-told}
use Rattle.fg_trace.specs.declared.step.Finish.{Finish}
use Rattle.fg_trace.specs.declared.step.Finish.TheVariants as finish
use Rattle.fg_trace.specs.Finish.{IsFault}
use Rattle.fg_trace.specs.Laws.{UnreadIsReadFor, BeforeIsReadFor, AfterIsReadFor}
use Rattle.fg_trace.specs.Reader.{ReaderState}
use Rattle.fg_trace.specs.Reading.{ReachesFor, IsReadFor, HasReached}
use Rattle.fg_trace.specs.Trace.{trace_of}

-- what a reader has reached is reached by what was read
reached : (answer : Finish) (reader : ReaderState) (read rest : List ℕ) → length read ≡ reader.place + length reader.held → HasReached answer reader (Some rest) → ReachesFor reader.max answer read rest
reached finish.Done reader read rest e h = h
reached (finish.Cut n) reader read rest e h = h
reached (finish.TooLong n) reader read rest e h = omega (arith, e, h)
reached (finish.NotTrace n) reader read rest e h = (
  elim h.0 [ inl found ↦ inl (omega (arith, e, found)) | inr end ↦ inr end ],
  omega (arith, e, h.1),
)
reached finish.ReadFault reader read rest e h = tt
reached finish.WriteFault reader read rest e h = tt
reached finish.Memory reader read rest e h = tt

-- from what the source gave
from_given : (answer : Finish) (reader : ReaderState) (first now : Option (List ℕ)) (read : List ℕ) → Gives first read now → length read ≡ reader.place + length reader.held → reader.place + length reader.held ≤ reader.max + 1
    → HasReached answer reader now → IfSome first (λ bytes. IsReadFor reader.max answer bytes now)
from_given answer reader None now read gives e few h = tt
from_given answer reader (Some bytes) now read gives e few h =
    let told = Gives-told (Some bytes) now read bytes gives refl in
    record {
      read = read;
      rest = told.0;
      now_is = told.1;
      all = told.2;
      reaches = reached answer reader read told.0 e (subst (λ (left : Option (List ℕ)). HasReached answer reader left) told.1 h);
      bounded = omega (arith, e, few);
    }

fault_reaches : (max : ℕ) (answer : Finish) (read rest : List ℕ) → IsFault answer → ReachesFor max answer read rest
fault_reaches max finish.Done read rest h = absurd h
fault_reaches max (finish.Cut n) read rest h = absurd h
fault_reaches max (finish.TooLong n) read rest h = absurd h
fault_reaches max (finish.NotTrace n) read rest h = absurd h
fault_reaches max finish.ReadFault read rest h = tt
fault_reaches max finish.WriteFault read rest h = tt
fault_reaches max finish.Memory read rest h = tt

pub unread : UnreadIsReadFor
unread max answer None h = tt
unread max answer (Some bytes) h = record {
  read = [];
  rest = bytes;
  now_is = refl;
  all = refl;
  reaches = fault_reaches max answer [] bytes h;
  bounded = omega arith;
}

pub before : BeforeIsReadFor
before answer reader first now h few reached = from_given answer reader first now reader.held h.given (omega (arith, h.start)) few reached

pub after : AfterIsReadFor
after answer reader first now records h few reached =
    from_given answer reader first now (trace_of records ++ reader.held) h.given (omega (arith, h.place, length-append (trace_of records) reader.held)) few reached
