use Rattle.fg_drill.proofs.Amounts as amounts
use Rattle.fg_drill.proofs.Written.{some_packet}
use Rattle.fg_drill.proofs.laws.sent.few_arrive.Goals as goal

pub returns : goal.returns
returns c = λ settings payloads lost arrivals can are arrive. (
  amounts.few_arrive c.each_slot_has_its_number.ensures c.ends_are_the_layouts.ensures.columns c.ends_are_the_layouts.ensures.rows
      settings payloads lost arrivals arrive,
  amounts.packets_count payloads (some_packet settings payloads can.packets.1 are),
)
