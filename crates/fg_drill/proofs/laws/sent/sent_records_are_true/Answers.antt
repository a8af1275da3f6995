use Rattle.fg_drill.proofs.Turns.{arrive_true}
use Rattle.fg_drill.proofs.laws.sent.sent_records_are_true.Goals as goal

pub returns : goal.returns
returns c = λ settings payloads lost arrivals can are few arrive.
    arrive_true settings payloads lost can.packets.1 are c.what_is_written_is_read-2.ensures c.layouts_are_read.ensures few
    c.what_is_written_is_read.ensures arrivals arrive
