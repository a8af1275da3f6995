use Rattle.fg_pcap.proofs.Numbers.{four_fields}
use Rattle.fg_pcap.proofs.packet_header.PacketHeader.read.Goals as goal

pub returns : goal.returns
returns c = record {
  rest = c.split_number-original.result.1.now;
  spelled = four_fields _ _ _ _ _ _ _ _ _ c.split_number-seconds.ensures.spelled c.split_number-fraction.ensures.spelled c.split_number-kept.ensures.spelled c.split_number-original.ensures.spelled;
  seconds_fit = c.split_number-seconds.ensures.fits;
  fraction_fits = c.split_number-fraction.ensures.fits;
  kept_fits = c.split_number-kept.ensures.fits;
  original_fits = c.split_number-original.ensures.fits;
}
