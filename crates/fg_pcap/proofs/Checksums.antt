-- The checksum of an IPv4 header.
use Rattle.std.proofs.Common.{arith}
use Rattle.fg_pcap.specs.Laws.{HeadersCheck}

-- the words of a header with its checksum sum up to all ones
pub headers_check : HeadersCheck
headers_check total h = omega arith
