use Rattle.std.proofs.Common.{◌≡◌, ◌+◌, ◌<◌, ◌≤◌, ℕ, List, length, refl, sym, ap, subst, ◌∙◌, arith}
use Rattle.std.specs.Option.{option_copied}
use Rattle.fg_playout.specs.Play.{Shown}
use Rattle.fg_report.specs.declared.flow_sum.FlowSum.{FlowSum}
use Rattle.fg_engine.specs.Steps.{CountsWithin, played_as}
use Rattle.fg_engine.proofs.Filling.{within_so_far, counts_one_more, lane_one_more, counts_all, lane_all, lane_part}
use Rattle.fg_io.proofs.FaultLemmas.{on_err}
use Rattle.fg_engine.proofs.play.fill.Goals as goal

pub show-requires-clause-within : goal.show-requires-clause-within
show-requires-clause-within g c =
    let shown : List Shown = g.D.WindowState.shows c.args.window.now c.args.played in
    let some : c.loop-i.i ≤ length shown = omega (arith, c.requires.count) in
    subst (λ (n : ℕ). CountsWithin c.loop-i.sum (c.args.played.first + n)) (sym c.from.ensures)
    (within_so_far shown c.args.sum.now c.loop-i.sum c.args.played.first c.loop-i.i some c.requires.within c.loop-i.invariant.counts)

pub loop-i-preserved : goal.loop-i-preserved
loop-i-preserved g c =
    let shown : List Shown = g.D.WindowState.shows c.args.window.now c.args.played in
    let below : c.loop-i.i < length shown = omega (arith, c.requires.count) in
    let place : c.args.played.first + c.from.result ≡ c.args.played.first + c.loop-i.i =
    ap (λ (n : ℕ). c.args.played.first + n) c.from.ensures in
    record {
      counts = counts_one_more shown c.args.sum.now c.loop-i.sum c.show.new.sum c.args.played.first c.loop-i.i _
          (option_copied c.word-word.result) c.repaired.result below place c.word-word.ensures c.repaired.ensures
          c.loop-i.invariant.counts c.in_ok-show.ensures.counts;
      lane = lane_one_more shown (g.B.TakesPayloads.bytes c.args.piece.now) (g.B.TakesPayloads.bytes c.loop-i.piece)
          (g.B.TakesPayloads.bytes c.show.new.lane) c.loop-i.i
          (option_copied c.word-word.result) c.repaired.result below c.word-word.ensures c.repaired.ensures
          c.loop-i.invariant.lane c.in_ok-show.ensures.lane;
    }

pub returns-clause-counts : goal.returns-clause-counts
returns-clause-counts g c =
    let shown : List Shown = g.D.WindowState.shows c.args.window.now c.args.played in
    let all : length shown ≤ c.loop-i.i = omega (arith, c.requires.count) in
    counts_all shown c.args.sum.now c.loop-i.sum c.count_play.new.sum c.args.played c.loop-i.i all
    c.loop-i.invariant.counts (c.count_play.ensures (played_as c.args.played shown) refl)

pub returns-clause-lane : goal.returns-clause-lane
returns-clause-lane g c =
    let shown : List Shown = g.D.WindowState.shows c.args.window.now c.args.played in
    let all : length shown ≤ c.loop-i.i = omega (arith, c.requires.count) in
    lane_all shown (g.B.TakesPayloads.bytes c.args.piece.now) (g.B.TakesPayloads.bytes c.loop-i.piece) c.args.played c.loop-i.i all c.loop-i.invariant.lane

pub returns-clause-port : goal.returns-clause-port
returns-clause-port g c =
    ap (λ (sum : FlowSum). sum.port) (c.count_play.ensures (played_as c.args.played (g.D.WindowState.shows c.args.window.now c.args.played)) refl)
    ∙ ap (λ (sum : FlowSum). sum.port) c.loop-i.invariant.counts

pub returns-in_err-show-clause-part : goal.returns-in_err-show-clause-part
returns-in_err-show-clause-part g c =
    let shown : List Shown = g.D.WindowState.shows c.args.window.now c.args.played in
    on_err _ _ (lane_part shown (g.B.TakesPayloads.bytes c.args.piece.now) (g.B.TakesPayloads.bytes c.show.new.lane) c.args.played c.loop-i.i
    (c.in_err-show.ensures.unchanged ∙ c.loop-i.invariant.lane))
