-- A lane that grows piece by piece.
use Rattle.std.proofs.Common.{◌++◌, ℕ, List, [], Option, Some, None, refl, sym, ap, ◌∙◌, append_assoc}
use Rattle.std.proofs.lemmas.List.{append-nil}
use Rattle.fg_io.proofs.PrefixLemmas.{IsPrefix-append}
use Rattle.fg_io.specs.Outlet.{Lanes, lane_bytes}
use Rattle.fg_engine.specs.Steps.{LaneGrows, Grows, GrowsPart}

lane_grows_none : (lanes : Lanes) (port : ℕ) → LaneGrows lanes port [] lanes
lane_grows_none lanes port = record {
  bytes = sym (append-nil (lane_bytes lanes port));
  kept = λ some. some;
  others = λ other apart. refl;
}

pub grows_none : (lanes : Option Lanes) (port : ℕ) → Grows lanes port [] lanes
grows_none (Some lanes) port = lane_grows_none lanes port
grows_none None port = tt

lane_grows_join :
    (first second third : Lanes) (port : ℕ) (piece more : List ℕ) → LaneGrows first port piece second
    → LaneGrows second port more third → LaneGrows first port (piece ++ more) third
lane_grows_join first second third port piece more one other = record {
  bytes = other.bytes ∙ ap (λ (bytes : List ℕ). bytes ++ more) one.bytes ∙ append_assoc (lane_bytes first port) piece more;
  kept = λ some. other.kept (one.kept some);
  others = λ at apart. other.others at apart ∙ one.others at apart;
}

pub grows_join :
    (first second third : Option Lanes) (port : ℕ) (piece more : List ℕ) → Grows first port piece second
    → Grows second port more third → Grows first port (piece ++ more) third
grows_join (Some first) (Some second) (Some third) port piece more one other =
    lane_grows_join first second third port piece more one other
grows_join (Some first) (Some second) None port piece more one other = absurd other
grows_join (Some first) None third port piece more one other = absurd one
grows_join None (Some second) third port piece more one other = absurd one
grows_join None None (Some third) port piece more one other = absurd other
grows_join None None None port piece more one other = tt

pub grows_part_join :
    (first second third : Option Lanes) (port : ℕ) (piece more : List ℕ) → Grows first port piece second
    → GrowsPart second port more third → GrowsPart first port (piece ++ more) third
grows_part_join first second third port piece more one part = (
  piece ++ part.0,
  IsPrefix-append piece part.0 more part.1,
  grows_join first second third port piece part.0 one part.2,
)
