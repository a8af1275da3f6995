use Rattle.std.proofs.Common.{◌∙◌, sym}
use Rattle.fg_pick.proofs.fitting.fits.Goals as goal

pub returns : goal.returns
returns c = (
  λ e. record {
    port = (c.requires.right c.args.port c.ranges.port.fits).0 (sym c.has.ensures ∙ c.if-not-has.false);
    source = c.is_left.ensures.0 e;
    from = (c.is_in_time.ensures.0 c.if-not-is_in_time.false).0;
    until = (c.is_in_time.ensures.0 c.if-not-is_in_time.false).1;
  },
  λ h. c.is_left.ensures.1 h.source,
)
