-- What a stream may be encoded with. The limits are this project's own.
use Rattle.std.specs.Prelude.{◌≤◌}
use Rattle.fg_shape.specs.declared.encoding.Settings.{Settings}
use Rattle.fg_shape.specs.declared.kind.TheConstants.{LAST_PORT}

-- 1 to 7 packets a datagram, 1 to 10,000,000,000 bits a second, and a port that leaves room for those of the parity.
-- That a layout is one that is written its type says.
pub record CanEncode (settings : Settings) : Type 0 where
  pub packets : (1 ≤ settings.packets) × (settings.packets ≤ 7)
  pub rate : (1 ≤ settings.rate) × (settings.rate ≤ 10000000000)
  pub port : settings.port ≤ LAST_PORT

-- So it may be set on a command line, where a port is at least 1.
pub record SettingsFit (settings : Settings) : Type 0 where
  pub can : CanEncode settings
  pub some_port : 1 ≤ settings.port
