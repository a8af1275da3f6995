use Rattle.std.proofs.Common.{◌≡◌, ◌≤◌, length, subst, sym, ◌∙◌}
use Rattle.std.specs.Prelude.{IsFalse}
use Rattle.std.proofs.lemmas.Result.{on_ok_weaker, on_err_weaker}
use Rattle.fg_closure.specs.Holes.{HasMissing}
use Rattle.fg_playout.specs.Play.{Play, IsPlay}
use Rattle.fg_desk.specs.Contents.{kept_from}
use Rattle.fg_prove.proofs.Missing.{same_gaps, kept_long, tells_one, breaks_one}
use Rattle.fg_prove.proofs.prover.Prover.play.Goals as goal
use Rattle.fg_prove.proofs.prover.Prover.play.Goals.{After-play_in_place-played}

module _ (g : _) (c : After-play_in_place-played g) where
  abbrev made : Play
  made =
      let played = c.play_in_place-played.result in
      record { first = played.first; shown = kept_from c.play_in_place-played.new.self played.first played.count; outcome = played.verdict }

  long : length made.shown ≡ c.play_in_place-played.result.count
  long =
      kept_long c.play_in_place-played.new.self c.play_in_place-played.result.first c.play_in_place-played.result.count

  -- As many positions were looked at as it closes.
  count_is : c.play_in_place-played.result.count ≡ c.window-count.result
  count_is = c.play_in_place-played.ensures.count ∙ sym c.window-count.ensures.value

  few : c.play_in_place-played.result.count ≤ 100
  few = subst (λ n. n ≤ 100) (sym count_is) c.window-count.ensures.limit

  none_missing : IsFalse c.look-looked.result → ¬ HasMissing c.args.self.now.desk.state c.play_in_place-played.result.count
  none_missing isnt missing = c.look-looked.ensures.none isnt (subst (λ n. HasMissing c.args.self.now.desk.state n) count_is missing)

pub returns-clause-plays : goal.returns-clause-plays
returns-clause-plays g c =
    let here = (goal.at.returns-clause-plays g c).After-play_in_place-played in
    let old = c.args.self.now.desk.state in
    on_ok_weaker c.tell.result
    (λ tells. tells_one c.true_cases_are_proved.ensures.proved c.look-looked.ensures.same (made g here)
    (IsPlay old.playout.window old) c.play_in_place-played.ensures.play (same_gaps old) c.play_in_place-played.ensures.play
    (long g here) c.look-looked.ensures.facts c.requires.room c.look-looked.ensures.depth (few g here)
    (tells old c.look-looked.ensures.found (none_missing g here)))
    c.tell.ensures.tells

pub returns-clause-breaks : goal.returns-clause-breaks
returns-clause-breaks g c =
    let here = (goal.at.returns-clause-breaks g c).After-play_in_place-played in
    let old = c.args.self.now.desk.state in
    on_err_weaker c.tell.result
    (λ breaks. breaks_one c.true_cases_are_proved.ensures.proved c.look-looked.ensures.same (made g here)
    (IsPlay old.playout.window old) c.play_in_place-played.ensures.play (same_gaps old) c.play_in_place-played.ensures.play
    (long g here) (breaks old c.look-looked.ensures.found (none_missing g here)))
    c.tell.ensures.breaks

pub tell-requires-clause-found : goal.tell-requires-clause-found
tell-requires-clause-found g c looked = (c.args.self.now.desk.state, c.look-looked.ensures.found looked)

pub tell-requires-clause-count : goal.tell-requires-clause-count
tell-requires-clause-count g c = few g (goal.at.tell-requires-clause-count g c).After-play_in_place-played
