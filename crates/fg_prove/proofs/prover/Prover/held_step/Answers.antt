use Rattle.std.proofs.Common.{◌≡◌, ◌≤◌, length, Some, subst, arith}
use Rattle.std.specs.Prelude.{IsFalse}
use Rattle.fg_io.proofs.FaultLemmas.{on_err}
use Rattle.fg_closure.specs.Holes.{HasMissing}
use Rattle.fg_playout.specs.Play.{Play}
use Rattle.fg_playout.specs.Held.{IsHeldStep}
use Rattle.fg_desk.specs.Contents.{kept_from}
use Rattle.fg_prove.proofs.Missing.{same_gaps_then, kept_long, missing_more, held_looked, tells_one, breaks_one}
use Rattle.fg_prove.proofs.prover.Prover.held_step.Goals as goal
use Rattle.fg_prove.proofs.prover.Prover.held_step.Goals.{In-Some}

module _ (g : _) (c : In-Some g) where
  abbrev made : Play
  made =
      let played = c.in-Some.played in
      record { first = played.first; shown = kept_from c.held_step_in_place.new.self played.first played.count; outcome = played.verdict }

  long : length made.shown ≡ c.in-Some.played.count
  long = kept_long c.held_step_in_place.new.self c.in-Some.played.first c.in-Some.played.count

  few : c.in-Some.played.count ≤ 100
  few = let limit = c.look-looked.ensures.facts.window.1 in let within = c.in-Some.ensures.some.1 in omega (arith, within, limit)

  -- No fewer positions were looked at than it closes.
  most : c.in-Some.played.count ≤ c.held_count-count.result
  most =
      subst (λ n. n ≤ c.held_count-count.result) long
      (held_looked c.args.self.now.desk.state c.held_step_in_place.new.self.state c.args.time c.held_count-count.result made
      c.held_count-count.ensures.none c.held_count-count.ensures.some c.in-Some.ensures.held)

  none_missing : IsFalse c.look-looked.result → ¬ HasMissing c.args.self.now.desk.state c.in-Some.played.count
  none_missing isnt missing =
      c.look-looked.ensures.none isnt (missing_more c.args.self.now.desk.state c.in-Some.played.count c.held_count-count.result most missing)

pub returns-clause-some : goal.returns-clause-some
returns-clause-some g c =
    let here = (goal.at.returns-clause-some g c).In-Some in
    let old = c.args.self.now.desk.state in
    tells_one c.true_cases_are_proved.ensures.proved c.look-looked.ensures.same (made g here)
    (λ play now. IsHeldStep old c.args.time (Some play) now) c.in-Some.ensures.held (same_gaps_then old c.args.time)
    c.in-Some.ensures.held.plays (long g here) c.look-looked.ensures.facts c.requires.room c.look-looked.ensures.depth (few g here)
    (c.in_ok-tell.ensures.tells old c.look-looked.ensures.found (none_missing g here))

pub returns-in_err-tell-clause-breaks : goal.returns-in_err-tell-clause-breaks
returns-in_err-tell-clause-breaks g c =
    let here = (goal.at.returns-in_err-tell-clause-breaks g c).In-Some in
    let old = c.args.self.now.desk.state in
    on_err _ _
    (breaks_one c.true_cases_are_proved.ensures.proved c.look-looked.ensures.same (made g here)
    (λ play now. IsHeldStep old c.args.time (Some play) now) c.in-Some.ensures.held (same_gaps_then old c.args.time)
    c.in-Some.ensures.held.plays (long g here)
    (c.in_err-tell.ensures.breaks old c.look-looked.ensures.found (none_missing g here)))

pub tell-requires-clause-found : goal.tell-requires-clause-found
tell-requires-clause-found g c looked = (c.args.self.now.desk.state, c.look-looked.ensures.found looked)

pub tell-requires-clause-count : goal.tell-requires-clause-count
tell-requires-clause-count g c = few g (goal.at.tell-requires-clause-count g c).In-Some
