use Rattle.std.proofs.Common.{Bool, sym, ap, subst, ◌∙◌, ⊎_elim}
use Rattle.std.specs.FinMap.{FinMap, get}
use Rattle.std.specs.Ordering.{nat_cmp}
use Rattle.fg_playout.specs.State.{Live}
use Rattle.fg_buffer.specs.PlayoutBuffer.{BufferState}
use Rattle.fg_desk.specs.Storage.{IsInBuffer}
use Rattle.fg_desk.specs.Watched.{Finds}
use Rattle.fg_desk.proofs.Findings.{finds_first, finds_passed, finds_visited}
use Rattle.fg_desk.proofs.LookCounts.{fewer_left}
use Rattle.fg_desk.proofs.finding.look_at_all.Goals as goal

pub loop-place-init : goal.loop-place-init
loop-place-init c = finds_first c.args.buffer.now c.args.lines.now c.args.watches.now c.requires.settled c.requires.watched

pub visit-requires-clause-within : goal.visit-requires-clause-within
visit-requires-clause-within c serial live is =
    let finds = c.loop-place.invariant in
    let i = c.requires.within serial live (sym (ap (λ (m : FinMap nat_cmp Live). get m serial) finds.live) ∙ is) in
    subst (λ (b : BufferState). IsInBuffer b live.equation) (sym finds.rest)
    (record { shape = i.shape; near = i.near; based = i.based })

pub loop-place-smaller : goal.loop-place-smaller
loop-place-smaller c =
    fewer_left c.loop-place.buffer c.visit.new.buffer c.loop-place.lines c.visit.new.lines c.loop-place.watches c.next.new.self
    c.visit.new.watches c.in-Some.place c.visit.result c.in-Some.ensures.some c.visit.ensures

pub loop-place-preserved : goal.loop-place-preserved
loop-place-preserved c =
    let old = c.args.buffer.now in
    let lines = c.args.lines.now in
    let take = c.in-Some.ensures.some in
    subst (λ (b : Bool). Finds old lines c.visit.new.buffer c.visit.new.lines c.visit.new.watches b) (sym c.both-sound.ensures)
    (⊎_elim
    (λ passed.
    finds_passed old lines c.requires.rooms c.loop-place.buffer c.loop-place.lines c.loop-place.watches c.next.new.self
    c.loop-place.sound c.loop-place.invariant c.in-Some.place take c.visit.new.buffer c.visit.new.lines c.visit.new.watches
    c.visit.result passed)
    (λ visit.
    finds_visited old lines c.requires.rooms c.loop-place.buffer c.loop-place.lines c.loop-place.watches c.next.new.self
    c.loop-place.sound c.loop-place.invariant c.in-Some.place take c.visit.new.buffer c.visit.new.lines c.visit.new.watches
    c.visit.result visit c.peelings_fill_the_closure.ensures.appended c.peelings_fill_the_closure.ensures.keeps
    (record {
      commutes = c.xor_is_a_group.ensures.commutes;
      associates = c.xor_is_a_group.ensures.associates;
      has_zero = c.xor_is_a_group.ensures.has_zero;
      undoes = c.xor_is_a_group.ensures.undoes_itself;
    }))
    c.visit.ensures)
