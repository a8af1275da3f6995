use Rattle.fg_commands.proofs.Lawful.{any_counts, untouched_counts}
use Rattle.fg_run.proofs.Asked.{words_answered, words_not_begun}
use Rattle.fg_run.proofs.Behaviours.{lawful}
use Rattle.fg_run.proofs.run.Goals as goal
use Rattle.fg_run.proofs.run.Goals.{in-Ok, in-Err}

pub returns-clause-answered : goal.returns-clause-answered
returns-clause-answered g c = elim c.match-read_request.branch [
  | in-Ok w ↦ rw (c.tell_end.ensures.why, w.why-is, w.input-is, w.out-is, w.lanes-is)
      (words_answered c.one_request.ensures _ w.in-Ok.request w.answer-why.result w.in-Ok.ensures.asked w.answer-why.ensures.answered w.answer-why.ensures.words)
  | in-Err w ↦ rw (c.tell_end.ensures.why, w.why-is, w.input-is, w.out-is, w.lanes-is) (words_not_begun c.parts_of_writes.ensures.none _)
]

pub returns-clause-faults : goal.returns-clause-faults
returns-clause-faults g c = elim c.match-read_request.branch [
  | in-Ok w ↦ rw (c.tell_end.ensures.why, w.why-is, w.input-is, w.out-is, w.lanes-is)
      (any_counts _ (lawful c.parts_of_writes.ensures.none w.in-Ok.request) w.answer-why.result w.answer-why.ensures.answered.counts)
  | in-Err w ↦ rw (c.tell_end.ensures.why, w.why-is, w.input-is, w.out-is, w.lanes-is) (untouched_counts (λ e. let a = e in cc) (λ e. let a = e in cc))
]
