-- What shows that the definitions of this crate are right.
use Rattle.std.specs.Prelude.{◌≡◌, ◌⊎◌, ◌↔◌, ℕ, ◌+◌, ◌<◌, ◌≤◌, List, map, nat_lt, if◌then◌else◌}
use Rattle.fg_report.specs.Fits.{Fits, FlowsFit, TailFits}
use Rattle.fg_report.specs.Gaps.{with_gap, gaps_end, AreApart, IsInGap}
use Rattle.fg_report.specs.Text.{report_of}
use Rattle.fg_report.specs.declared.flow_sum.FlowSum.{FlowSum}
use Rattle.fg_report.specs.declared.tail.Tail.{Tail}

-- runs that rise and are maximal are so after one more, which is not before the end of the last
abbrev pub GapsStayApart : Type 0
GapsStayApart = (runs : List (ℕ × ℕ)) (first count : ℕ)
    → AreApart runs → 0 < count → gaps_end runs ≤ first → AreApart (with_gap runs first count)

-- two runs that touch are added as one
abbrev pub TouchingIsOne : Type 0
TouchingIsOne = (runs : List (ℕ × ℕ)) (first count more : ℕ)
    → with_gap (with_gap runs first count) (first + count) more ≡ with_gap runs first (count + more)

-- after one more run its positions are in a gap, and those that were, and no other
abbrev pub GapsHold : Type 0
GapsHold = (runs : List (ℕ × ℕ)) (first count position : ℕ)
    → (IsInGap (with_gap runs first count) position
    ↔ (IsInGap runs position ⊎ ((first ≤ position) × (position < first + count))))

-- a count that is told only where a flow has two runs or more
abbrev pub told_of_runs : FlowSum → ℕ → ℕ
told_of_runs flow count = (if nat_lt flow.runs 2 then 0 else count)

-- what the report tells of a flow: all of it, but for the replies that no datagram of a kind gets, and the runs and the foreign
-- datagrams of a flow of fewer than two runs
abbrev pub told : FlowSum → FlowSum
told flow = record flow {
  media = record flow.media {
    not_started = 0;
    before_start = 0;
    ahead = 0;
    crowded = 0;
    foreign = told_of_runs flow flow.media.foreign;
  };
  column = record flow.column { foreign = 0 };
  row = record flow.row { foreign = 0 };
  runs = told_of_runs flow flow.runs;
}

-- two reports with one text tell the same
abbrev pub TextNamesItsCounts : Type 0
TextNamesItsCounts = (flows others : List FlowSum) (other number : ℕ) (tail end : Tail)
    → FlowsFit flows → FlowsFit others → Fits other → Fits number → TailFits tail → TailFits end
    → report_of flows other tail ≡ report_of others number end
    → (map told flows ≡ map told others) × (other ≡ number) × (tail ≡ end)
