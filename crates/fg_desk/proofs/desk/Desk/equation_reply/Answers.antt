use Rattle.std.proofs.Common.{◌≡◌, ◌≢◌, ◌+◌, ◌-◌, ◌*◌, ◌<◌, sym, ap, ◌∙◌, arith}
use Rattle.std.proofs.lemmas.Bool.{false≢true}
use Rattle.std.specs.FinMap.{len}
use Rattle.fg_desk.specs.Contents.{Contents}
use Rattle.fg_playout.specs.Admission.{IsLate, IsTimely}
use Rattle.fg_peel.proofs.SlotRange.{last_at}
use Rattle.fg_desk.proofs.Twins.{twin_of, no_twin}
use Rattle.fg_desk.proofs.desk.Desk.equation_reply.Goals as goal
use Rattle.fg_desk.proofs.desk.Desk.equation_reply.Goals.{After-from}

module _ (c : After-from) where
  not_late : ¬ IsLate c.args.self.now.state (record { base = c.args.base; offset = c.args.shape.offset; count = c.args.shape.na; parity = c.args.parity.now })
  not_late late = false≢true (sym c.if-is_late.false ∙ c.is_late.ensures.1 late)

  last : c.last.result ≡ c.args.base + (c.args.shape.na - 1) * c.args.shape.offset
  last = last_at c.args.base c.args.shape.offset c.args.shape.na c.last.result c.requires.shape c.last.ensures.slot c.last.ensures.greatest

  limit : c.mark.result + c.from.result + 100 ≡ c.args.self.now.state.mark + c.args.self.now.state.playout.depth + 100
  limit =
      let mark = ap (λ (s : Contents). s.state.mark) c.self.view_is in
      let depth = ap (λ (s : Contents). s.state.playout.depth) c.self.view_is in
      omega (arith, mark, depth, c.mark.ensures.value, c.from.ensures)

pub returns-then-last-mark : goal.returns-then-last-mark
returns-then-last-mark c =
    let d = (goal.at.returns-then-last-mark c).After-from in
    let end = last d in
    let far = limit d in
    (not_late d, omega (arith, end, far, c.if-last-mark.true))

timely :
    (c : After-from) → c.last.result < c.mark.result + c.from.result + 100
    → IsTimely c.args.self.now.state (record { base = c.args.base; offset = c.args.shape.offset; count = c.args.shape.na; parity = c.args.parity.now })
timely c near = (
  not_late c,
  λ far. (let end = last c in let ahead = limit c in omega (arith, end, ahead, near, far)),
)

pub returns-in-Some : goal.returns-in-Some
returns-in-Some c =
    let d = (goal.at.returns-in-Some c).After-from in (
      timely d c.if-last-mark.false,
      twin_of c.args.self.now.state c.self.inside.lines (ap (λ (s : Contents). s.state.equations) c.self.view_is)
          (record { base = c.args.base; offset = c.args.shape.offset; count = c.args.shape.na; parity = c.args.parity.now })
          (λ parity. parity ≡ c.args.parity.now) c.in-Some.line.now c.in-Some.ensures.some.0 c.in-Some.ensures.some.1
          (sym c.word.ensures.word ∙ c.same.ensures.0 c.if-same.true),
    )

pub returns-in-Some-2 : goal.returns-in-Some-2
returns-in-Some-2 c =
    let d = (goal.at.returns-in-Some-2 c).After-from in (
      timely d c.if-last-mark.false,
      twin_of c.args.self.now.state c.self.inside.lines (ap (λ (s : Contents). s.state.equations) c.self.view_is)
          (record { base = c.args.base; offset = c.args.shape.offset; count = c.args.shape.na; parity = c.args.parity.now })
          (λ parity. parity ≢ c.args.parity.now) c.in-Some.line.now c.in-Some.ensures.some.0 c.in-Some.ensures.some.1
          (λ same. false≢true (sym c.if-same.false ∙ c.same.ensures.1 (c.word.ensures.word ∙ same))),
    )

pub returns-in-None : goal.returns-in-None
returns-in-None c =
    let d = (goal.at.returns-in-None c).After-from in
    let count = ap (λ (s : Contents). len s.state.equations) c.self.view_is in (
      timely d c.if-last-mark.false,
      no_twin c.args.self.now.state c.self.inside.lines (ap (λ (s : Contents). s.state.equations) c.self.view_is)
          (record { base = c.args.base; offset = c.args.shape.offset; count = c.args.shape.na; parity = c.args.parity.now })
          c.in-None.ensures.none,
      omega (arith, count, c.count.ensures.count, c.if-count-ge-LIVE_LIMIT.true),
    )

pub returns-in-None-2 : goal.returns-in-None-2
returns-in-None-2 c =
    let d = (goal.at.returns-in-None-2 c).After-from in
    let count = ap (λ (s : Contents). len s.state.equations) c.self.view_is in (
      timely d c.if-last-mark.false,
      no_twin c.args.self.now.state c.self.inside.lines (ap (λ (s : Contents). s.state.equations) c.self.view_is)
          (record { base = c.args.base; offset = c.args.shape.offset; count = c.args.shape.na; parity = c.args.parity.now })
          c.in-None-2.ensures.none,
      omega (arith, count, c.count.ensures.count, c.if-count-ge-LIVE_LIMIT.false),
    )
