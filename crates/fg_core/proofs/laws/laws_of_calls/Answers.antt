use Rattle.fg_core.proofs.laws.laws_of_calls.Goals as goal

pub returns : goal.returns
returns c = record {
  facts = c.facts_are_kept.ensures;
  one = c.one_outcome.ensures;
  fresh_is_decided = c.runs_begin.ensures.fresh;
  nothing_is_peeled = c.nothing_is_left.ensures.peeled;
  media_adds = c.admissions_add.ensures.media;
  parity_adds = c.admissions_add.ensures.parity;
  take_words = c.peelings_stay.ensures.words;
  take_equations = c.peelings_stay.ensures.equations;
  plays = record {
    kept = c.confluence.ensures.kept;
    solutions = c.mark_makes_no_difference.ensures.solutions;
    steps_are_ahead = c.mark_makes_no_difference.ensures.steps;
    live_stand = c.live_equations.ensures;
    stays = c.solved_stays_peeled.ensures;
  };
}
