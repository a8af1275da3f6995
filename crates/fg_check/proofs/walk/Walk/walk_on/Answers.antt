use Rattle.std.proofs.Common.{ℕ, List, Option, subst}
use Rattle.fg_io.specs.declared.input_buffer.Ahead.{Ahead}
use Rattle.fg_io.proofs.FaultLemmas.{on_err}
use Rattle.fg_check.specs.declared.walk.Next.{Next}
use Rattle.fg_check.specs.declared.walk.Next.TheVariants as next
use Rattle.fg_check.specs.Split.{ended}
use Rattle.fg_check.specs.Steps.{Breaks, HasWalked, IsNext, IsUnderway}
use Rattle.fg_check.proofs.Walks.{breaks_before, err_more, inside_here, ok_none, ok_some, past_here, refilled}
use Rattle.fg_check.proofs.walk.Walk.walk_on.Goals as goal
use Rattle.fg_check.proofs.walk.Walk.walk_on.Goals.{After-find_line}

-- The walk is underway with what was read.
underway :
    (g : _) (c : After-find_line g) (first before : Option (List ℕ))
    → IsUnderway first (g.S.Source.left c.args.input.now) c.args.self.now before (g.K.Sink.written c.args.out.now)
    → IsUnderway first (g.S.Source.left c.find_line.new.from) (record c.args.self.now { input = c.find_line.new.input }) before
    (g.K.Sink.written c.args.out.now)
underway g c first before h =
    refilled c.args.self.now c.find_line.new.input first (g.S.Source.left c.args.input.now) (g.S.Source.left c.find_line.new.from) before
    (g.K.Sink.written c.args.out.now) h (c.find_line.ensures.behind first (ended h.lines) h.behind) c.find_line.ensures.buffer
    c.find_line.ensures.max

-- What is so from wherever it is underway there is so from where it was.
taken :
    (g : _) (c : After-find_line g) (IsSo : Option (List ℕ) → Option (List ℕ) → Option (List ℕ) → Type 0)
    → ((first there before : Option (List ℕ)) → IsUnderway first there (record c.args.self.now { input = c.find_line.new.input }) before (g.K.Sink.written c.args.out.now)
    → IsSo first there before)
    → (first before : Option (List ℕ)) → IsUnderway first (g.S.Source.left c.args.input.now) c.args.self.now before (g.K.Sink.written c.args.out.now)
    → IsSo first (g.S.Source.left c.find_line.new.from) before
taken g c IsSo more first before h = more first _ before (underway g c first before h)

pub returns-in_err-count-clause-part : goal.returns-in_err-count-clause-part
returns-in_err-count-clause-part g c =
    let here = (goal.at.returns-in_err-count-clause-part g c).After-find_line in
    let written = g.K.Sink.written c.args.out.now in
    on_err _ _ (taken g here (λ first there before. Breaks c.args.self.now.max first there before written) (λ first there before h. breaks_before _ first there before written h))

pub pass_over-requires-clause-underway : goal.pass_over-requires-clause-underway
pass_over-requires-clause-underway g c = (
  c.requires.0,
  c.requires.1,
  g.K.Sink.written c.args.out.now,
  underway g (goal.at.pass_over-requires-clause-underway g c).After-find_line c.requires.0 c.requires.1 c.requires.2,
)

pub returns-in_err-pass_over-in-Other-Whole-clause-part : goal.returns-in_err-pass_over-in-Other-Whole-clause-part
returns-in_err-pass_over-in-Other-Whole-clause-part g c =
    let here = (goal.at.returns-in_err-pass_over-in-Other-Whole-clause-part g c).After-find_line in
    let walk = c.args.self.now in
    let left = g.S.Source.left c.args.input.now in
    let rest = g.S.Source.left c.pass_over.new.input in
    let written = g.K.Sink.written c.args.out.now in
    let P : Type 0 = (first : Option (List ℕ)) (before : Option (List ℕ)) → IsUnderway first left walk before written → Breaks walk.max first rest before written in
    let part : P = λ first before h. c.in_err-pass_over-in-Other-Whole.ensures.part first before written (underway g here first before h) in
    on_err _ P part

pub returns-in-Line-clause-more : goal.returns-in-Line-clause-more
returns-in-Line-clause-more g c =
    let here = (goal.at.returns-in-Line-clause-more g c).After-find_line in
    let after = g.K.Sink.written c.take_text.new.out in
    ok_none _ _ _ (taken g here (λ first there before. IsUnderway first there c.take_text.new.self before after)) c.take_text.ensures.more

pub returns-in-Line-clause-ends : goal.returns-in-Line-clause-ends
returns-in-Line-clause-ends g c =
    let here = (goal.at.returns-in-Line-clause-ends g c).After-find_line in
    let after = g.K.Sink.written c.take_text.new.out in
    ok_some _ _ _ (λ checked. taken g here (λ first there before. HasWalked first there checked c.take_text.new.self before after)) c.take_text.ensures.ends

pub returns-in-Line-clause-part : goal.returns-in-Line-clause-part
returns-in-Line-clause-part g c =
    let here = (goal.at.returns-in-Line-clause-part g c).After-find_line in
    let after = g.K.Sink.written c.take_text.new.out in
    err_more _ _ _ (taken g here (λ first there before. Breaks c.args.self.now.max first there before after)) c.take_text.ensures.part

pub returns-in_ok-pass_over-in-Other-Whole-clause-ends : goal.returns-in_ok-pass_over-in-Other-Whole-clause-ends
returns-in_ok-pass_over-in-Other-Whole-clause-ends g c = λ first before h.
    c.in_ok-pass_over-in-Other-Whole.ensures.ends first before (g.K.Sink.written c.args.out.now)
    (underway g (goal.at.returns-in_ok-pass_over-in-Other-Whole-clause-ends g c).After-find_line first before h)

pub returns-in-Other-EndsHere-clause-ends : goal.returns-in-Other-EndsHere-clause-ends
returns-in-Other-EndsHere-clause-ends g c = λ first before h.
    c.told_at_end.ensures first (g.S.Source.left c.find_line.new.from) before (g.K.Sink.written c.args.out.now)
    (underway g (goal.at.returns-in-Other-EndsHere-clause-ends g c).After-find_line first before h)

pub returns-in-Other-EndsInside-clause-ends : goal.returns-in-Other-EndsInside-clause-ends
returns-in-Other-EndsInside-clause-ends g c = λ first before h.
    let input = c.find_line.new.input in
    let is = subst (λ (a : Ahead). IsNext (next.Other a) input) c.in-Other-EndsInside.field-0-is (subst (λ (n : Next). IsNext n input) c.in-Other-EndsInside.is c.in_ok-count.ensures.next) in
    inside_here c.args.self.now input first (g.S.Source.left c.args.input.now) (g.S.Source.left c.find_line.new.from) before (g.K.Sink.written c.args.out.now) h
    (c.find_line.ensures.behind first (ended h.lines) h.behind) c.find_line.ensures.buffer c.find_line.ensures.max is

pub returns-in-Other-PastLimit-clause-ends : goal.returns-in-Other-PastLimit-clause-ends
returns-in-Other-PastLimit-clause-ends g c = λ first before h.
    let input = c.find_line.new.input in
    let is = subst (λ (a : Ahead). IsNext (next.Other a) input) c.in-Other-PastLimit.field-0-is (subst (λ (n : Next). IsNext n input) c.in-Other-PastLimit.is c.in_ok-count.ensures.next) in
    past_here c.place.result c.args.self.now input first (g.S.Source.left c.args.input.now) (g.S.Source.left c.find_line.new.from) before (g.K.Sink.written c.args.out.now) h
    (c.find_line.ensures.behind first (ended h.lines) h.behind) c.find_line.ensures.buffer c.find_line.ensures.max c.place.ensures.value is
