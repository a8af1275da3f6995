-- The settings of a sample, and the losses that are drawn for it: this project's own. The draws are the words of PCG32
-- (O'Neill, "PCG").
use Rattle.std.specs.Prelude.{ℕ, ◌-◌, ◌%◌, true, false, List, nat_lt}
use Rattle.std.specs.List.{filter, range_with_len}
use Rattle.std.proofs.Common.{lit≤}
use Rattle.fg_shape.specs.declared.layouts.Layout.{Layout}
use Rattle.fg_shape.specs.declared.encoding.Settings.{Settings}
use Rattle.rand_pcg.specs.Lcg.{Lcg, advance}
use Rattle.rand_pcg.specs.Pcg.{multiplier_64, output_xsh_rr}
use Rattle.fg_thin.specs.Made.{generator_of}

-- Blocks of ten columns and ten rows, whose parity is sent for both.
abbrev pub sample_layout : Layout
sample_layout = record {
  l = 10;
  d = 10;
  rows = true;
  staggered = false;
  accepted = record {
    columns = (lit≤ tt, lit≤ tt);
    height = (lit≤ tt, lit≤ tt);
    product = lit≤ tt;
    rows_need_four = λ _. lit≤ tt;
  };
}

abbrev pub sample_settings : Settings
sample_settings = record {
  layout = sample_layout;
  packets = 7;
  rate = 10000000;
  port = 5000;
  seq = 0;
  ssrc = 0;
  stamp = 0;
}

-- The draw of this number of a generator, counted from 0.
abbrev pub draw : Lcg → ℕ → ℕ
draw generator number = output_xsh_rr (advance 64 multiplier_64 number generator).state

-- The numbers of the records that are left out, of so many in all. The first never is. Each other has one draw, in order,
-- from stream 55 of the seed, and is left out exactly where the draw modulo 100 is below the loss.
abbrev pub drawn_drops : ℕ → ℕ → ℕ → List ℕ
drawn_drops seed loss records =
    filter (λ number. nat_lt (draw (generator_of seed 55) (number - 1) % 100) loss) (range_with_len 1 (records - 1))
