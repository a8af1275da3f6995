use Rattle.std.proofs.Common.{inl, inr, ⊎_elim}
use Rattle.fg_peel.specs.declared.Line.{Line}
use Rattle.fg_core.proofs.Opening.{at_most_through}
use Rattle.fg_core.proofs.open.next_open.Goals as goal

pub least_open-best-requires-clause-within : goal.least_open-best-requires-clause-within
least_open-best-requires-clause-within c line among = record {
  live_is = (c.live_lines.ensures.live line).0 (inl among);
  shape = (c.live_lines.ensures.within line (inl among)).0;
  base = (c.live_lines.ensures.within line (inl among)).1;
}

pub least_open-requires-clause-within : goal.least_open-requires-clause-within
least_open-requires-clause-within c line among = record {
  live_is = (c.live_lines.ensures.live line).0 (inr among);
  shape = (c.live_lines.ensures.within line (inr among)).0;
  base = (c.live_lines.ensures.within line (inr among)).1;
}

pub returns-clause-least : goal.returns-clause-least
returns-clause-least c serial live is_open =
    let line : Line = record {
      base = live.equation.base;
      shape = record { offset = live.equation.offset; na = live.equation.count };
      parity = live.equation.parity;
      serial = serial;
      place = live.place;
    } in
    ⊎_elim
    (λ first.
    at_most_through c.least_open-best.result c.least_open.result serial c.least_open.ensures.best
    (c.least_open-best.ensures.least line first is_open))
    (λ second. c.least_open.ensures.least line second is_open)
    ((c.live_lines.ensures.live line).1 is_open.live_is)
