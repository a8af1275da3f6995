use Rattle.std.proofs.Common.{ℕ, sym, ap, subst, ◌∙◌}
use Rattle.std.specs.FinMap.{FinMap}
use Rattle.std.specs.Ordering.{nat_cmp}
use Rattle.fg_peel.specs.Equation.{IsSettled}
use Rattle.fg_playout.specs.State.{Live}
use Rattle.fg_desk.specs.Contents.{Contents, IsLiveAt, known_in}
use Rattle.fg_desk.specs.Inside.{state_of, contents_of}
use Rattle.fg_buffer.specs.LiveEquations.{SettlesAt}
use Rattle.fg_desk.specs.Parts.{parts_of}
use Rattle.fg_desk.proofs.DeskFills.{vouched_sound}
use Rattle.fg_buffer.specs.PlayoutBuffer.{buffer_words}
use Rattle.fg_desk.proofs.WatchedLines.{settled_watched}
use Rattle.fg_desk.proofs.desk.Desk.vouch.Goals as goal

pub invariant_of-self : goal.invariant_of-self
invariant_of-self c =
    let parts = parts_of c.self.inside in
    let at : IsLiveAt (state_of parts) c.args.place (IsSettled (known_in (contents_of parts))) =
    subst (λ (s : Contents). IsLiveAt s.state c.args.place (IsSettled (known_in s))) (sym c.self.view_is) c.requires in
    record {
      sound = vouched_sound parts c.self.invariant.sound at.0 at.1 at.2 at.4 c.settle_at.new.self
          (subst (λ (place : ℕ). SettlesAt place c.self.inside.lines c.settle_at.new.self) (sym at.3) c.settle_at.ensures);
      timed = c.self.invariant.timed;
      watched = settled_watched c.args.place c.self.inside.lines c.settle_at.new.self c.settle_at.ensures c.self.inside.watches
          (buffer_words c.self.inside.buffer) c.self.invariant.watched;
    }

pub returns : goal.returns
returns c =
    ap (λ (m : FinMap nat_cmp Live). contents_of (record (parts_of c.self.inside) { lines = record c.settle_at.new.self { live = m } }))
    c.settle_at.ensures.live
    ∙ c.self.view_is
