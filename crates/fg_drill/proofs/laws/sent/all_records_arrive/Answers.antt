use Rattle.fg_drill.proofs.AllSent.{all_arrivals, all_arrive, all_in_full}
use Rattle.fg_drill.proofs.laws.sent.all_records_arrive.Goals as goal

pub returns : goal.returns
returns c = λ settings payloads can are. (
  all_arrivals settings payloads can.packets.1 are,
  all_arrive settings payloads can.packets.1 are c.what_is_written_is_read.ensures c.what_is_written_is_read-2.ensures
      c.layouts_are_read.ensures,
  all_in_full settings payloads can.packets.1 are,
)
