-- What the parts of a source of thinned encodings keep, as payloads are taken. No public contract cites it.
use Rattle.std.specs.Prelude.{◌≡◌, ℕ, false, Option, List}
use Rattle.fg_shape.specs.declared.encoding.Losses.{Losses}
use Rattle.fg_thin.specs.declared.thinned.taking.Taking.{Taking}
use Rattle.fg_thin.specs.Sending.{IsUnderWay, IsReadOut, given_of}
use Rattle.fg_thin.specs.Thinned.{is_lost}
use Rattle.fg_thin.specs.ThinnedSource.{whole_stream}

abbrev pub IsWay : Taking → Option (List ℕ) → Type 0
IsWay taking rest = IsUnderWay taking.reader taking.sender taking.history.payloads taking.told taking.fault rest

-- The bytes of the whole stream, of which its source has `rest` left.
abbrev pub way_stream : Taking → Option (List ℕ) → Option (List ℕ)
way_stream taking rest = whole_stream taking.history.payloads taking.reader.held rest

abbrev pub way_given : Taking → ℕ
way_given taking = given_of taking.sender taking.history.payloads

-- Payloads were taken of the same stream, and nothing was given.
pub record KeepsWay (old : Taking) (left : Option (List ℕ)) (new : Taking) (rest : Option (List ℕ)) : Type 0 where
  pub way : IsWay new rest
  pub read_out : IsReadOut new.told new.fault rest
  pub stream : way_stream new rest ≡ way_stream old left
  pub given : way_given new ≡ way_given old
  pub settings : new.sender.encoder.settings ≡ old.sender.encoder.settings
  pub losses : new.sender.losses ≡ old.sender.losses
  pub max : new.reader.max ≡ old.reader.max

-- Nothing was taken yet: what is to be taken is all that a source has left.
pub record IsBegun (taking : Taking) (losses : Losses) : Type 0 where
  pub way : (rest : Option (List ℕ)) → IsWay taking rest
  pub lost : (number : ℕ) → is_lost taking.sender.losses number ≡ is_lost losses number
  pub stream : (rest : Option (List ℕ)) → way_stream taking rest ≡ rest
  pub given : way_given taking ≡ 0
  pub untold : taking.told ≡ false
