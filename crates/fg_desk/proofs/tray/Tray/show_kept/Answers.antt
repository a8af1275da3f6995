use Rattle.std.proofs.Common.{◌+◌, ℕ, length, ap, ◌∙◌, arith}
use Rattle.std.proofs.lemmas.List.FromFn.{length-map-range_with_len}
use Rattle.std.specs.Option.{option_copied}
use Rattle.fg_playout.specs.Shown.{Holding, kept_shown}
use Rattle.fg_buffer.specs.PlayoutBuffer.{buffer_known}
use Rattle.fg_desk.proofs.ShownWords.{one_more_shown}
use Rattle.fg_desk.proofs.tray.Tray.show_kept.Goals as goal

pub overflow_add-position : goal.overflow_add-position
overflow_add-position c = omega (arith, c.from.ensures, c.loop-i-test.true, c.requires.limit)

pub show-requires-clause-room : goal.show-requires-clause-room
show-requires-clause-room c =
    let buffer = c.args.buffer.now in
    let size = length-map-range_with_len (kept_shown (buffer_known buffer) buffer.repaired) c.args.first c.loop-i.i in
    omega (
      arith,
      ap (λ (h : Holding). length h.shown) c.loop-i.invariant,
      ap (λ (h : Holding). h.window) c.loop-i.invariant,
      size,
      c.loop-i-test.true,
      c.requires.room,
    )

pub loop-i-preserved : goal.loop-i-preserved
loop-i-preserved c =
    c.show.ensures
    ∙ one_more_shown c.args.buffer.now c.args.first c.loop-i.i c.args.self.now.window (c.args.first + c.from.result) c.loop-i.self
    (option_copied c.told-kept.result.word) c.told-kept.result.repaired c.loop-i.invariant (ap (λ (k : ℕ). c.args.first + k) c.from.ensures)
    c.told-kept.ensures.word c.told-kept.ensures.repaired
