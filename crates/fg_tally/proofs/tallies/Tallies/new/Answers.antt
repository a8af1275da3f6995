use Rattle.std.proofs.Common.{◌≡◌, ℕ, sym, ap, subst, ◌∙◌, arith}
use Rattle.std.specs.Vec.{vec_len}
use Rattle.fg_board.specs.Actors.{AdmitterState}
use Rattle.fg_tally.specs.Tally.{with_passes}
use Rattle.fg_tally.proofs.Passes.{no_passes, more_passes}
use Rattle.fg_tally.proofs.tallies.Tallies.new.Goals as goal

pub loop-tallies-init : goal.loop-tallies-init
loop-tallies-init c =
    let admitter = c.args.admitter.now in (
      subst (λ (n : ℕ). admitter ≡ with_passes admitter n) (sym c.in_ok-tallies.ensures.len) (sym (no_passes admitter)),
      omega (arith, c.in_ok-tallies.ensures.len),
      c.in_ok-tallies.ensures.capacity,
    )

pub add-requires-clause-board : goal.add-requires-clause-board
add-requires-clause-board c = ap (λ (a : AdmitterState). a.seat.turn) c.loop-tallies.invariant.0 ∙ c.requires.board

pub add-requires-clause-pass : goal.add-requires-clause-pass
add-requires-clause-pass c =
    let made = ap (λ (a : AdmitterState). a.seat.made) c.loop-tallies.invariant.0 in
    omega (arith, made, c.requires.room, c.loop-tallies-test.true, c.len.ensures)

pub add-requires-clause-room : goal.add-requires-clause-room
add-requires-clause-room c = omega (arith, c.loop-tallies.invariant.2, c.loop-tallies-test.true, c.len.ensures)

pub loop-tallies-preserved : goal.loop-tallies-preserved
loop-tallies-preserved c =
    let admitter = c.args.admitter.now in (
      c.add.ensures.admitter
          ∙ ap (λ (a : AdmitterState). with_passes a 1) c.loop-tallies.invariant.0
          ∙ more_passes admitter (vec_len c.loop-tallies.tallies)
          ∙ ap (with_passes admitter) (sym c.add.ensures.len),
      omega (arith, c.add.ensures.len, c.loop-tallies-test.true, c.len.ensures),
      omega (arith, c.add.ensures.capacity, c.loop-tallies.invariant.2),
    )
