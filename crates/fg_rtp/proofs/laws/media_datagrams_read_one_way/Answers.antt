use Rattle.fg_rtp.proofs.DatagramLemmas.{datagram_one_way}
use Rattle.fg_rtp.proofs.laws.media_datagrams_read_one_way.Goals as goal

pub returns : goal.returns
returns c = record {
  one_way = datagram_one_way;
  media = λ bytes seq ssrc word d. d.media;
}
