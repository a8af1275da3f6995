use Rattle.std.proofs.Common.{◌≡◌, ◌≤◌, true, false, arith}
use Rattle.fg_peel.specs.Slots.{equation_of}
use Rattle.fg_peel.specs.Live.{last_slot}
use Rattle.fg_peel.proofs.SlotRange.{last_is}
use Rattle.fg_buffer.proofs.Lost.{none_lost, based_none}
use Rattle.fg_buffer.proofs.retiring.survives.Goals as goal
use Rattle.fg_buffer.proofs.retiring.survives.Goals.{After-mark}

end : (c : After-mark) → c.last.result ≡ last_slot (equation_of c.args.line.now)
end c = last_is (equation_of c.args.line.now) c.last.result c.requires.shape c.last.ensures.slot c.last.ensures.greatest

pub returns-then-last-mark : goal.returns-then-last-mark
returns-then-last-mark c = (
  λ no. (let e : false ≡ true = no in absurd (cc)),
  λ stays.
      (let last = end (goal.at.returns-then-last-mark c).After-mark in
      let reaches = stays.reaches in
      absurd (omega (arith, last, reaches, c.mark.ensures.value, c.if-last-mark.true))),
)

pub returns-then-based : goal.returns-then-based
returns-then-based c = (
  λ based.
      (let last = end (goal.at.returns-then-based c).After-mark in
      let reaches : c.args.buffer.now.mark ≤ last_slot (equation_of c.args.line.now) =
      omega (arith, last, c.mark.ensures.value, c.if-last-mark.false) in
      record { reaches = reaches; based = c.requires.based based reaches }),
  λ _. c.if-based.true,
)

pub returns-else-based : goal.returns-else-based
returns-else-based c =
    let line = c.args.line.now in
    let buffer = c.args.buffer.now in
    let last = end (goal.at.returns-else-based c).After-mark in
    let reaches : buffer.mark ≤ last_slot (equation_of line) = omega (arith, last, c.mark.ensures.value, c.if-last-mark.false) in (
      λ none. record {
        reaches = reaches;
        based = none_lost c.lost_slot.result buffer.mark buffer.kept line.base line.shape.offset line.shape.na
            c.lost_slot.ensures.some c.lost_slot.ensures.none c.is_none.result c.is_none.ensures none;
      },
      λ stays. based_none c.lost_slot.result buffer.mark buffer.kept line.base line.shape.offset line.shape.na
          c.lost_slot.ensures.some c.lost_slot.ensures.none c.is_none.result c.is_none.ensures stays.based,
    )
