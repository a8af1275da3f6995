use Rattle.fg_desk.proofs.DeskSkips.{opened_by, sound_after_skip, timed_after_skip, watched_after_skip, some_after_skip}
use Rattle.fg_desk.proofs.desk.Desk.skip_to.Goals as goal

pub invariant_of-self : goal.invariant_of-self
invariant_of-self c = record {
  sound = sound_after_skip c.self.inside c.self.invariant c.args.self.now c.self.view_is c.args.until c.skip_windows-count.result
      c.skip_windows-count.new.buffer c.skip_windows-count.new.waiting c.skip_windows-count.ensures.none c.skip_windows-count.ensures.some
      (opened_by c.self.inside.top c.is_none.result c.is_none.ensures c.if-is_none.false);
  timed = timed_after_skip c.self.inside c.self.invariant c.args.self.now c.self.view_is c.args.until c.skip_windows-count.result
      c.skip_windows-count.new.buffer c.skip_windows-count.new.waiting c.skip_windows-count.ensures.none c.skip_windows-count.ensures.some
      (opened_by c.self.inside.top c.is_none.result c.is_none.ensures c.if-is_none.false);
  watched = watched_after_skip c.self.inside c.self.invariant c.args.self.now c.self.view_is c.args.until c.skip_windows-count.result
      c.skip_windows-count.new.buffer c.skip_windows-count.new.waiting c.skip_windows-count.ensures.none c.skip_windows-count.ensures.some
      (opened_by c.self.inside.top c.is_none.result c.is_none.ensures c.if-is_none.false);
}

pub returns-clause-some : goal.returns-clause-some
returns-clause-some c =
    some_after_skip c.self.inside c.self.invariant c.args.self.now c.self.view_is c.args.until c.skip_windows-count.result
    c.skip_windows-count.new.buffer c.skip_windows-count.new.waiting c.skip_windows-count.ensures.none c.skip_windows-count.ensures.some
    (opened_by c.self.inside.top c.is_none.result c.is_none.ensures c.if-is_none.false)
