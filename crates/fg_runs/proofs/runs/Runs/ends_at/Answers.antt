use Rattle.std.proofs.Common.{◌∙◌}
use Rattle.fg_report.proofs.GapLemmas.{got_end, ends_test}
use Rattle.fg_runs.proofs.runs.Runs.ends_at.Goals as goal

pub returns-in-Some : goal.returns-in-Some
returns-in-Some c =
    let told = ends_test c.args.self.now c.deref.result.now c.in-Some.last.now c.args.position (c.deref.ensures.value ∙ c.self.view_is)
    (got_end c.deref.result.now c.in-Some.last.now c.in-Some.ensures.value) in
    rw (c.end_of.ensures, c.from.ensures) told
