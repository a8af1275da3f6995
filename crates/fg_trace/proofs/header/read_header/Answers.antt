use Rattle.std.proofs.Common.{◌++◌, ap, ◌∙◌}
use Rattle.std.specs.Int.{to_be_bytes, w16, w64}
use Rattle.fg_trace.proofs.header.read_header.Goals as goal

pub returns-clause-found : goal.returns-clause-found
returns-clause-found c = record {
  rest = c.in_ok-size.field-0-1.now;
  spelled = c.in_ok-time.ensures.found ∙ ap (λ t. to_be_bytes w64 c.in_ok-time.time ++ t) (c.in_ok-port.ensures.found ∙ ap (λ t. to_be_bytes w16 c.in_ok-port.port ++ t) c.in_ok-size.ensures.found);
  time_fits = c.in_ok-time.ensures.fits;
  port_fits = c.in_ok-port.ensures.fits;
  size_fits = c.in_ok-size.ensures.fits;
}
