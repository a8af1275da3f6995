use Rattle.fg_commands.proofs.Filters.{filter_answered}
use Rattle.fg_run.proofs.answer.answer_without_lanes.Goals as goal

pub returns-in-Encode-clause-answered : goal.returns-in-Encode-clause-answered
returns-in-Encode-clause-answered g c = rw c.in-Encode.is (filter_answered _ _ c.run_encode.ensures.answered)

pub returns-in-Inspect-clause-answered : goal.returns-in-Inspect-clause-answered
returns-in-Inspect-clause-answered g c = rw c.in-Inspect.is (filter_answered _ _ c.run_inspect.ensures.answered)

pub returns-in-FromCapture-clause-answered : goal.returns-in-FromCapture-clause-answered
returns-in-FromCapture-clause-answered g c = rw c.in-FromCapture.is (filter_answered _ _ c.run_fromcap.ensures.answered)

pub returns-in-ToCapture-clause-answered : goal.returns-in-ToCapture-clause-answered
returns-in-ToCapture-clause-answered g c = rw c.in-ToCapture.is (filter_answered _ _ c.run_tocap.ensures.answered)

pub returns-in-Monitor-clause-answered : goal.returns-in-Monitor-clause-answered
returns-in-Monitor-clause-answered g c = rw c.in-Monitor.is (filter_answered _ _ c.run_monitor.ensures.answered)

pub returns-in-Prove-clause-answered : goal.returns-in-Prove-clause-answered
returns-in-Prove-clause-answered g c = rw c.in-Prove.is (filter_answered _ _ c.run_prove.ensures.answered)

pub returns-in-Check-clause-answered : goal.returns-in-Check-clause-answered
returns-in-Check-clause-answered g c = rw c.in-Check.is (filter_answered _ _ c.run_check.ensures.answered)

pub returns-in-Survey-clause-answered : goal.returns-in-Survey-clause-answered
returns-in-Survey-clause-answered g c = rw c.in-Survey.is (filter_answered _ _ c.run_survey.ensures.answered)

pub returns-in-Pick-clause-answered : goal.returns-in-Pick-clause-answered
returns-in-Pick-clause-answered g c = rw c.in-Pick.is (filter_answered _ _ c.run_pick.ensures.answered)
