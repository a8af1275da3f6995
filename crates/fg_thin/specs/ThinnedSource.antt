-- What contracts see of a source of a thinned encoding: this project's own rule.
use Rattle.std.specs.Prelude.{◌≡◌, ◌≤◌, ℕ, Bool, true, false, Option, None, Some, List, ◌++◌, drop}
use Rattle.std.specs.Option.{option_map}
use Rattle.std.specs.List.{concat}
use Rattle.std.specs.Io.KnownBytes.{prepend_known}
use Rattle.fg_shape.specs.declared.encoding.Losses.{Losses}
use Rattle.fg_shape.specs.declared.encoding.Settings.{Settings}
use Rattle.fg_trace.specs.Trace.{trace_of}
use Rattle.fg_encode.specs.Stream.{StreamEnding, IsCut}
use Rattle.fg_thin.specs.Payloads.{payloads_of}
use Rattle.fg_thin.specs.Thinned.{is_lost, thinned}

-- The bytes of what is sent of a stream of at most `max` bytes: the trace of the thinned encoding of its payloads.
abbrev pub thinned_trace : Settings → Losses → ℕ → List ℕ → List ℕ
thinned_trace settings losses max bytes = trace_of (thinned settings (is_lost losses) (payloads_of settings.packets max bytes))

-- The bytes of a stream of which these payloads were taken, and then these bytes: what the source has left comes after them.
abbrev pub whole_stream : List (List ℕ) → List ℕ → Option (List ℕ) → Option (List ℕ)
whole_stream payloads held rest = prepend_known (concat payloads ++ held) rest

-- The source of the stream; the settings; which records are lost; the most bytes that the stream may have; the bytes of the whole
-- stream, where its source tells them; how many bytes of the trace were given; whether a read has told the end; and why the
-- stream ended early, if it did.
pub record ThinnedState (Inner : Type 0) : Type 0 where
  pub inner : Inner
  pub settings : Settings
  pub losses : Losses
  pub max : ℕ
  pub stream : Option (List ℕ)
  pub given : ℕ
  pub told : Bool
  pub fault : StreamEnding

-- What no read changes of it.
pub record ThinnedFixed (Fixed : Type 0) : Type 0 where
  pub inner : Fixed
  pub settings : Settings
  pub losses : Losses
  pub max : ℕ
  pub stream : Option (List ℕ)

abbrev pub fixed_of : {Inner Fixed : Type 0} → (Inner → Fixed) → ThinnedState Inner → ThinnedFixed Fixed
fixed_of fixed source = record {
  inner = fixed source.inner;
  settings = source.settings;
  losses = source.losses;
  max = source.max;
  stream = source.stream;
}

-- The same before there is a stream.
pub record ThinningState : Type 0 where
  pub settings : Settings
  pub losses : Losses
  pub max : ℕ

-- The bytes that are left to be given.
abbrev pub trace_left : {Inner : Type 0} → ThinnedState Inner → Option (List ℕ)
trace_left source =
    option_map (λ bytes. drop source.given (thinned_trace source.settings source.losses source.max bytes)) source.stream

-- Of the same stream more may have been given, and its end may have been told.
pub record GoesOn {Inner : Type 0} (old new : ThinnedState Inner) : Type 0 where
  pub settings : new.settings ≡ old.settings
  pub losses : new.losses ≡ old.losses
  pub max : new.max ≡ old.max
  pub stream : new.stream ≡ old.stream
  pub given : old.given ≤ new.given
  pub told : old.told ≡ true → new.told ≡ true

-- The stream of these bytes ends so.
abbrev pub EndsFor : StreamEnding → ℕ → ℕ → List ℕ → Type 0
EndsFor ending packets max bytes = IsCut packets max bytes (payloads_of packets max bytes) ending

-- The ending that was told, once a read has told one.
abbrev pub ending_told : Bool → StreamEnding → Option StreamEnding
ending_told false ending = None
ending_told true ending = Some ending
