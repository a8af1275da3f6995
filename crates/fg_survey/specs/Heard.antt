-- The records of a trace, each with what its datagram is. A list of what was heard has the latest first: behind each stands all
-- that came before it.
use Rattle.std.specs.Prelude.{◌≡◌, ℕ, ◌==◌, Bool, true, false, List, filter, reverse}
use Rattle.std.specs.List.{AllZip}
use Rattle.fg_trace.specs.Trace.{Record}
use Rattle.fg_survey.specs.declared.reading.Reading.{Reading}
use Rattle.fg_survey.specs.declared.reading.Reading.TheVariants.{Media, Parity, Other}
use Rattle.fg_survey.specs.Reading.{IsReading}

pub record Heard : Type 0 where
  pub time : ℕ
  pub port : ℕ
  pub datagram : List ℕ
  pub reading : Reading

-- This was heard of the record.
pub record IsHeard (x : Heard) (r : Record) : Type 0 where
  pub time : x.time ≡ r.time
  pub port : x.port ≡ r.port
  pub datagram : x.datagram ≡ r.datagram
  pub reading : IsReading r.datagram x.reading

-- And this of all records.
abbrev pub AreHeard : List Heard → List Record → Type 0
AreHeard heard records = AllZip IsHeard heard (reverse records)

abbrev pub reads_media : Reading → Bool
reads_media (Media seq ts ssrc) = true
reads_media (Parity base offset number) = false
reads_media Other = false

abbrev pub reads_parity : Reading → Bool
reads_parity (Media seq ts ssrc) = false
reads_parity (Parity base offset number) = true
reads_parity Other = false

abbrev pub is_media : Heard → Bool
is_media x = reads_media x.reading

abbrev pub is_parity : Heard → Bool
is_parity x = reads_parity x.reading

-- What was heard on a port.
abbrev pub on_port : ℕ → List Heard → List Heard
on_port port heard = filter (λ x. x.port == port) heard
