use Rattle.std.proofs.Common.{◌≡◌, ◌∙◌, Option, List, [], ◌∷◌, ◌++◌, ℕ, length, Result, ap, refl, subst, sym}
use Rattle.std.specs.Borrow.{Bor}
use Rattle.fg_io.specs.declared.fault.Fault.{Fault}
use Rattle.fg_trace.specs.Trace.{Record}
use Rattle.fg_flows.specs.declared.Plan.{Plan}
use Rattle.fg_flows.specs.Sheaf.{SheafState, no_items}
use Rattle.fg_report.specs.declared.tail.Tail.{Tail}
use Rattle.fg_batches.specs.declared.gathering.Gathering.{Gathering}
use Rattle.fg_batches.specs.Gathering.{HasGathered}
use Rattle.fg_batches.specs.Stages.{CountsEnd, GivesBatches, MayFollow}
use Rattle.fg_batches.proofs.Given.{GivesOne, counts_read, gives_more, going_on, not_over, one_given}
use Rattle.fg_batches.proofs.reading.BatchReaderGiverBatch.give.Goals as goal

pub fill-requires-clause-underway : goal.fill-requires-clause-underway
fill-requires-clause-underway g c =
    let now = c.args.self.now in
    let had = c.requires.underway in
    let come =
    going_on had.0.plan.now (g.S.Source.left had.1) (g.S.Source.left c.args.from.now) (g.S.Source.faults had.1, g.S.Source.faults c.args.from.now)
    had.0.reader now.reader had.0.gathering now.gathering now.end had.2 (not_over now.end c.requires.going) had.3.2
    in (
      come.0,
      come.1,
      subst (λ (plan : Bor Plan). HasGathered plan.now come.0 (g.S.Source.left c.args.from.now) now.reader come.1 [] now.gathering) (sym had.3.1) come.2,
    )

pub fill-requires-clause-open : goal.fill-requires-clause-open
fill-requires-clause-open g c =
    let now = c.args.self.now in
    let had = c.requires.underway in
    (going_on had.0.plan.now (g.S.Source.left had.1) (g.S.Source.left c.args.from.now) (g.S.Source.faults had.1, g.S.Source.faults c.args.from.now)
    had.0.reader now.reader had.0.gathering now.gathering now.end had.2 (not_over now.end c.requires.going) had.3.2).3

pub returns : goal.returns
returns g c = λ first source items gave.
    let now = c.args.self.now in
    let plan = now.plan.now in
    let left = g.S.Source.left in
    let faults = g.S.Source.faults in
    let old = c.args.from.now in
    let new = c.fill.new.input in
    let after : Gathering = record { sheaf = c.swap.new.x; next = c.fill.new.self.next; other = c.fill.new.self.other } in
    let table : plan.table ≡ g.P.Tabled.table = ap (λ (p : Bor Plan). p.now.table) gave.1 ∙ gave.0 in
    let free : c.swap.new.x ≡ no_items (length plan.table) =
    c.swap.ensures.x_after ∙ c.into.view_is ∙ c.requires.blank ∙ ap (λ (ports : List ℕ). no_items (length ports)) (sym table) in
    let had : GivesBatches plan (left source) (left old) (faults source, faults old) first.reader now.reader first.gathering now.gathering now.end items =
    subst (λ (p : Bor Plan). GivesBatches p.now (left source) (left old) (faults source, faults old) first.reader now.reader first.gathering now.gathering now.end items)
    (sym gave.1) gave.2
    in
    let one : (begin : Option (List ℕ)) (records : List Record) → HasGathered plan begin (left old) now.reader records [] now.gathering
    → GivesOne plan begin (left new) c.fill.new.reader after c.transpose-self.result records c.swap.new.y =
    λ begin records h.
    subst (λ (sheaf : SheafState). GivesOne plan begin (left new) c.fill.new.reader after c.transpose-self.result records sheaf) (sym c.swap.ensures.y_after)
    (subst (λ (end : Option (Result Tail Fault)). GivesOne plan begin (left new) c.fill.new.reader after end records c.fill.new.self.sheaf) (sym c.transpose-self.ensures)
    (one_given plan had.fits (left old) (left new) now.reader c.fill.new.reader now.gathering c.fill.new.self after c.fill.result (c.fill.ensures.max ∙ had.max)
    free refl refl c.fill.ensures.more c.fill.ensures.open c.fill.ensures.ends c.fill.ensures.reaches c.fill.ensures.fault c.fill.ensures.after c.fill.ensures.short
    begin records h))
    in
    let counts : CountsEnd c.transpose-self.result (faults old, faults new) =
    subst (λ (end : Option (Result Tail Fault)). CountsEnd end (faults old, faults new)) (sym c.transpose-self.ensures)
    (counts_read c.fill.result (faults old) (faults new) c.fill.ensures.faults)
    in
    let all =
    gives_more plan (left source) (left old) (left new) (faults source) (faults old) (faults new) first.reader now.reader c.fill.new.reader
    first.gathering now.gathering after now.end c.transpose-self.result items c.swap.new.y (not_over now.end c.requires.going) free c.fill.ensures.max
    c.fill.ensures.far counts one had
    in (
      (
        gave.0,
        gave.1,
        subst (λ (p : Bor Plan). GivesBatches p.now (left source) (left new) (faults source, faults new) first.reader c.fill.new.reader first.gathering after
            c.transpose-self.result (items ++ c.swap.new.y ∷ []))
            gave.1 all.0,
        c.fill.ensures.fixed ∙ gave.3,
      ),
      subst (λ (ports : List ℕ). MayFollow (length ports) items c.swap.new.y) table all.1,
    )
