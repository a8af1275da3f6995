use Rattle.std.proofs.Common.{refl}
use Rattle.fg_io.proofs.FaultLemmas.{on_err}
use Rattle.fg_check.specs.Steps.{HasWalked}
use Rattle.fg_check.proofs.Walks.{any_answer, checks, checks_part, exactly, part_of, read_for_fault, walked_to}
use Rattle.fg_check.proofs.walk.Walk.check.Goals as goal
use Rattle.fg_check.proofs.walk.Walk.check.Goals.{After-flush}

-- The walk over all that is to be read.
walked :
    (g : _) (c : After-flush g)
    → HasWalked (g.S.Source.left c.args.input.now) (g.S.Source.left c.walk_all.new.input) c.in_ok-checked.checked c.walk_all.new.self
    (g.K.Sink.written c.args.out.now) (g.K.Sink.written c.walk_all.new.out)
walked g c =
    let left = g.S.Source.left c.args.input.now in
    let written = g.K.Sink.written c.args.out.now in
    c.in_ok-checked.ensures.whole left written (c.requires left written)

pub walk_all-requires : goal.walk_all-requires
walk_all-requires g c = (_, _, c.requires (g.S.Source.left c.args.input.now) (g.K.Sink.written c.args.out.now))

pub returns-in_err-checked-clause-reads : goal.returns-in_err-checked-clause-reads
returns-in_err-checked-clause-reads g c =
    let left = g.S.Source.left c.args.input.now in
    let now = g.S.Source.left c.walk_all.new.input in
    let written = g.K.Sink.written c.args.out.now in
    let broken = part_of c.args.self.now.max c.args.self.now.max left now written _ refl (c.in_err-checked.ensures.part left written (c.requires left written)) in
    read_for_fault c.args.self.now.max left now c.from_residual.result c.from_residual.ensures.0 broken.1

pub returns-in_err-flush-clause-reads : goal.returns-in_err-flush-clause-reads
returns-in_err-flush-clause-reads g c =
    let here = (goal.at.returns-in_err-flush-clause-reads g c).After-flush in
    read_for_fault c.args.self.now.max _ _ c.from_residual-in_err-flush.result c.from_residual-in_err-flush.ensures.0
    (any_answer c.args.self.now.max _ _ _ (walked_to c.args.self.now.max _ _ _ _ _ _ here.walk_all.ensures.max (walked g here)))

pub returns-in_err-flush-clause-part : goal.returns-in_err-flush-clause-part
returns-in_err-flush-clause-part g c =
    let here = (goal.at.returns-in_err-flush-clause-part g c).After-flush in
    on_err _ _
    (checks_part c.one_check.ensures c.one_text.ensures.text c.args.self.now.max _ _ _ _ _ _ _ here.walk_all.ensures.max (walked g here) c.in_err-flush.ensures.part)

pub returns-clause-whole : goal.returns-clause-whole
returns-clause-whole g c =
    let here = (goal.at.returns-clause-whole g c).After-flush in
    checks c.args.self.now.max _ _ _ _ _ _ _ here.walk_all.ensures.max (walked g here) c.in_ok-flush.ensures.whole

pub returns-clause-exactly : goal.returns-clause-exactly
returns-clause-exactly g c =
    let here = (goal.at.returns-clause-exactly g c).After-flush in
    exactly c.one_check.ensures c.one_text.ensures.answers c.args.self.now.max _ _ _ _
    (checks c.args.self.now.max _ _ _ _ _ _ _ here.walk_all.ensures.max (walked g here) c.in_ok-flush.ensures.whole)

pub returns-clause-all_read : goal.returns-clause-all_read
returns-clause-all_read g c = (walked g (goal.at.returns-clause-all_read g c).After-flush).at_end

pub returns-clause-reads : goal.returns-clause-reads
returns-clause-reads g c =
    let here = (goal.at.returns-clause-reads g c).After-flush in
    walked_to c.args.self.now.max _ _ _ _ _ _ here.walk_all.ensures.max (walked g here)
