-- The header of a record, as it is read. No public contract cites it.
use Rattle.std.specs.Prelude.{◌≡◌, ℕ, ◌<◌, ◌^◌, List, ◌++◌}
use Rattle.fg_pcap.specs.declared.file_header.ByteOrder.{ByteOrder}
use Rattle.fg_pcap.specs.Capture.{header_spelling}

-- The bytes begin with a record's header of these numbers.
pub record IsPacketHeader (order : ByteOrder) (bytes : List ℕ) (seconds fraction kept original : ℕ) : Type 0 where
  pub rest : List ℕ
  pub spelled : bytes ≡ header_spelling order seconds fraction kept original ++ rest
  pub seconds_fit : seconds < 2 ^ 32
  pub fraction_fits : fraction < 2 ^ 32
  pub kept_fits : kept < 2 ^ 32
  pub original_fits : original < 2 ^ 32
