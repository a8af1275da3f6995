use Rattle.std.proofs.Common.{◌<◌, ℕ, ⊎_elim, ◌∙◌, arith}
use Rattle.std.proofs.lemmas.Bool.{cases_lt}
use Rattle.fg_peel.specs.declared.Line.{Line}
use Rattle.fg_peel.specs.Slots.{equation_of}
use Rattle.fg_peel.specs.Live.{last_slot}
use Rattle.fg_peel.proofs.SlotRange.{last_is}
use Rattle.fg_buffer.proofs.LiveSearch.{search_begins, search_first, search_weaker, search_goes_on, search_ends}
use Rattle.fg_buffer.proofs.retiring.least_last.Goals as goal
use Rattle.fg_buffer.proofs.retiring.least_last.Goals.{In-Some}

pub loop-line-init : goal.loop-line-init
loop-line-init c = (
  tt,
  tt,
  omega arith,
  search_begins (λ line. last_slot (equation_of line) < c.args.most) c.args.lines.now c.into_iter-line-iterator.result
      (c.into_iter-line-iterator.ensures.into_iter_gives ∙ c.iter-line-items.ensures.rest),
)

pub last-requires-clause-shape : goal.last-requires-clause-shape
last-requires-clause-shape c =
    let entry : ℕ × Line = (c.in-Some.field-0-0, c.in-Some.line.now) in
    let h = search_first (λ line. last_slot (equation_of line) < c.loop-line.least) c.args.lines.now c.loop-line.line-iterator entry c.next.new.self
    c.in-Some.ensures.steps c.loop-line.invariant.3 in
    (c.requires h.0 c.in-Some.line.now h.1).shape

pub last-requires-clause-base : goal.last-requires-clause-base
last-requires-clause-base c =
    let entry : ℕ × Line = (c.in-Some.field-0-0, c.in-Some.line.now) in
    let h = search_first (λ line. last_slot (equation_of line) < c.loop-line.least) c.args.lines.now c.loop-line.line-iterator entry c.next.new.self
    c.in-Some.ensures.steps c.loop-line.invariant.3 in
    (c.requires h.0 c.in-Some.line.now h.1).base

pub loop-line-preserved : goal.loop-line-preserved
loop-line-preserved c =
    let entry : ℕ × Line = (c.in-Some.field-0-0, c.in-Some.line.now) in
    let line = c.in-Some.line.now in
    let h = search_first (λ l. last_slot (equation_of l) < c.loop-line.least) c.args.lines.now c.loop-line.line-iterator entry c.next.new.self
    c.in-Some.ensures.steps c.loop-line.invariant.3 in
    let end = last_is (equation_of line) c.last.result (c.requires h.0 line h.1).shape c.last.ensures.slot c.last.ensures.greatest in
    let least = c.min-least.ensures in
    let few = c.loop-line.invariant.2 in (
      tt,
      tt,
      omega (arith, few, least),
      search_goes_on (λ l. last_slot (equation_of l) < c.min-least.result) c.args.lines.now c.loop-line.line-iterator entry c.next.new.self
          c.in-Some.ensures.steps (λ sought. omega (arith, sought, end, least))
          (search_weaker (λ l. last_slot (equation_of l) < c.loop-line.least) c.args.lines.now (λ l. last_slot (equation_of l) < c.min-least.result)
          (λ l sought. omega (arith, sought, least)) c.loop-line.line-iterator c.loop-line.invariant.3),
    )

pub returns-clause-least : goal.returns-clause-least
returns-clause-least c line h = ⊎_elim
    (λ sought.
    absurd (search_ends (λ l. last_slot (equation_of l) < c.loop-line.least) c.args.lines.now c.loop-line.line-iterator c.in-None.ensures.steps.0
    c.loop-line.invariant.3 line h sought))
    (λ reaches. reaches)
    (cases_lt (last_slot (equation_of line)) c.loop-line.least)
