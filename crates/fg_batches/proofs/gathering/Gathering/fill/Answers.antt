use Rattle.std.proofs.Common.{◌≡◌, ◌<◌, ◌∙◌, ◌++◌, refl, sym, subst, Option, None, List, [], ℕ, arith, rules}
use Rattle.fg_trace.specs.Reader.{StandsAfter}
use Rattle.fg_trace.specs.Trace.{Record}
use Rattle.fg_io.proofs.FaultLemmas.{on_err}
use Rattle.fg_report.specs.declared.tail.Tail.{Tail}
use Rattle.fg_batches.specs.declared.gathering.Gathering.{Gathering}
use Rattle.fg_batches.specs.Batches.{HoldsBatch}
use Rattle.fg_batches.specs.Gathering.{GathersLast, HasGathered}
use Rattle.fg_batches.proofs.Gathered.{left_added, none_after, none_at, some_at}
use Rattle.fg_batches.proofs.gathering.Gathering.fill.Goals as goal

pub loop-reader-init : goal.loop-reader-init
loop-reader-init g c = record {
  came = λ first records h.
      left_added c.one_flow_has_a_port.ensures c.args.plan.now c.requires.fits.table first (g.S.Source.left c.args.input.now) c.args.reader.now records
      c.payload.result.now c.args.self.now c.add_left.new.self c.payload.ensures c.add_left.ensures.added c.add_left.ensures.none h;
  none = none_after c.args.self.now c.add_left.new.self c.payload.result.now c.add_left.ensures.added c.add_left.ensures.none;
  far = search rules;
  unkept = c.requires.open;
  max = c.requires.max;
  on = search rules;
  reads = refl;
  fixed = refl;
}

pub take_next-requires-clause-underway : goal.take_next-requires-clause-underway
take_next-requires-clause-underway g c =
    let begun = c.requires.underway in
    let come = c.loop-reader.invariant.came begun.0 begun.1 begun.2 in
    (begun.0, begun.1, come.0, come.1)

pub returns-in_err-tail-clause-after : goal.returns-in_err-tail-clause-after
returns-in_err-tail-clause-after g c =
    let after : (first : Option (List ℕ)) (records : List Record) → HasGathered c.args.plan.now first (g.S.Source.left c.args.input.now) c.args.reader.now records [] c.args.self.now
    → (batch : List Record) × HoldsBatch c.args.plan.now batch c.take_next.new.self.sheaf
    × StandsAfter c.take_next.new.reader first (g.S.Source.left c.take_next.new.input) (records ++ batch) =
    λ first records h.
    let come = c.loop-reader.invariant.came first records h in (
      come.0,
      subst (λ (gathering : Gathering). HoldsBatch c.args.plan.now come.0 gathering.sheaf) (sym c.in_err-tail.ensures.unchanged) come.1.kept.holds,
      c.in_err-tail.ensures.after first records come.0 come.1,
    )
    in
    on_err _ _ after

pub returns-then-not-is_next_held-clause-within : goal.returns-then-not-is_next_held-clause-within
returns-then-not-is_next_held-clause-within g c =
    let begun = c.requires.underway in
    let come = c.loop-reader.invariant.came begun.0 begun.1 begun.2 in
    come.1.stands.within

pub returns-in-Some-clause-ends : goal.returns-in-Some-clause-ends
returns-in-Some-clause-ends g c = λ first records h.
    let come = c.loop-reader.invariant.came first records h in
    let ends = some_at (λ (tail : Tail). (first : Option (List ℕ)) (records batch : List Record) → HasGathered c.args.plan.now first (g.S.Source.left c.loop-reader.input) c.loop-reader.reader records batch c.loop-reader.self
    → GathersLast c.args.plan.now first records batch c.take_next.new.self tail)
    c.in_ok-tail.field-0 c.in-Some.tail c.in-Some.is c.in_ok-tail.ensures.ends in
    (come.0, ends first records come.0 come.1)

pub returns-then-is_some-clause-more : goal.returns-then-is_some-clause-more
returns-then-is_some-clause-more g c = λ first records h.
    let come = c.loop-reader.invariant.came first records h in
    none_at
    ((first : Option (List ℕ)) (records batch : List Record) → HasGathered c.args.plan.now first (g.S.Source.left c.loop-reader.input) c.loop-reader.reader records batch c.loop-reader.self
    → (longer : List Record) × HasGathered c.args.plan.now first (g.S.Source.left c.take_next.new.input) c.take_next.new.reader records longer c.take_next.new.self)
    c.in_ok-tail.field-0 c.in_default.is c.in_ok-tail.ensures.more first records come.0 come.1

pub loop-reader-preserved : goal.loop-reader-preserved
loop-reader-preserved g c = record {
  came = λ first records h.
      let come = c.loop-reader.invariant.came first records h in
      none_at
      ((first : Option (List ℕ)) (records batch : List Record) → HasGathered c.args.plan.now first (g.S.Source.left c.loop-reader.input) c.loop-reader.reader records batch c.loop-reader.self
      → (longer : List Record) × HasGathered c.args.plan.now first (g.S.Source.left c.take_next.new.input) c.take_next.new.reader records longer c.take_next.new.self)
      c.in_ok-tail.field-0 c.in_default.is c.in_ok-tail.ensures.more first records come.0 come.1;
  none = search rules;
  far = λ first h. c.in_ok-tail.ensures.far first (c.loop-reader.invariant.far first h);
  unkept = none_at (c.take_next.new.reader.kept ≡ None) c.in_ok-tail.field-0 c.in_default.is c.in_ok-tail.ensures.open;
  max = c.in_ok-tail.ensures.max ∙ c.loop-reader.invariant.max;
  on =
      let further = none_at (c.loop-reader.reader.place < c.take_next.new.reader.place) c.in_ok-tail.field-0 c.in_default.is c.in_ok-tail.ensures.place in
      omega (arith, further, c.loop-reader.invariant.on);
  reads = c.in_ok-tail.ensures.faults.no_read (λ e. e) ∙ c.loop-reader.invariant.reads;
  fixed = c.in_ok-tail.ensures.fixed ∙ c.loop-reader.invariant.fixed;
}
