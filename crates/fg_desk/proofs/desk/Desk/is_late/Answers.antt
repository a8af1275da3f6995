use Rattle.std.proofs.Common.{◌≡◌, ◌+◌, ◌-◌, ◌*◌, ◌<◌, true, inl, inr, ap, subst, ⊎_elim, arith, lt-ltb}
use Rattle.fg_desk.specs.Contents.{Contents}
use Rattle.fg_desk.specs.Inside.{IsLateAt}
use Rattle.fg_desk.proofs.Lost.{is_lost}
use Rattle.fg_peel.proofs.SlotRange.{last_at}
use Rattle.fg_desk.proofs.desk.Desk.is_late.Goals as goal

pub returns-then-last-mark : goal.returns-then-last-mark
returns-then-last-mark c =
    let last = last_at c.args.base c.args.shape.offset c.args.shape.na c.last.result c.requires.shape c.last.ensures.slot
    c.last.ensures.greatest in
    let mark = ap (λ (s : Contents). s.state.mark) c.self.view_is in
    (λ _. inl (omega (arith, last, mark, c.mark.ensures.value, c.if-last-mark.true)), λ _. lt-ltb c.last.result c.mark.result c.if-last-mark.true)

pub returns-else-last-mark : goal.returns-else-last-mark
returns-else-last-mark c =
    let buffer = c.self.inside.buffer in
    let last = last_at c.args.base c.args.shape.offset c.args.shape.na c.last.result c.requires.shape c.last.ensures.slot
    c.last.ensures.greatest in
    let mark = ap (λ (s : Contents). s.state.mark) c.self.view_is in
    let not_past : c.args.base + (c.args.shape.na - 1) * c.args.shape.offset < c.args.self.now.state.mark → ⊥ =
    λ past. omega (arith, last, mark, c.mark.ensures.value, c.if-last-mark.false, past) in
    let told = is_lost c.lost_slot.result buffer.mark buffer.kept c.args.base c.args.shape.offset c.args.shape.na
    c.lost_slot.ensures.some c.lost_slot.ensures.none c.is_some.result c.is_some.ensures in
    subst
    (λ (s : Contents). (c.is_some.result ≡ true → IsLateAt s.state c.args.base c.args.shape.offset c.args.shape.na)
    × (IsLateAt s.state c.args.base c.args.shape.offset c.args.shape.na → c.is_some.result ≡ true))
    c.self.view_is (
      λ found. inr (told.0 found),
      λ late. ⊎_elim
          (λ past. absurd (omega (arith, last, c.mark.ensures.value, c.if-last-mark.false, past)))
          (λ lost. told.1 lost)
          late,
    )
