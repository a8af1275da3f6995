-- What of the laws of the crates below those of calls rest on. No public contract cites it.
use Rattle.fg_peel.specs.Laws.{PeelingsTakeWords, PeelingsTakeEquations, SolutionsKeepPeelings}
use Rattle.fg_playout.specs.Laws.{FactsAreKept, OneOutcome, MediaAdds, ParityAdds, SolutionsArePeelings, StepsAreAhead, LiveStandUnderSerials, SolvedStaysPeeled, FreshIsDecided, NothingIsPeeled}

-- Of a play.
pub record PlayLaws : Type 0 where
  pub kept : SolutionsKeepPeelings
  pub solutions : SolutionsArePeelings
  pub steps_are_ahead : StepsAreAhead
  pub live_stand : LiveStandUnderSerials
  pub stays : SolvedStaysPeeled

-- Of all calls.
pub record CallLaws : Type 0 where
  pub facts : FactsAreKept
  pub one : OneOutcome
  pub fresh_is_decided : FreshIsDecided
  pub nothing_is_peeled : NothingIsPeeled
  pub media_adds : MediaAdds
  pub parity_adds : ParityAdds
  pub take_words : PeelingsTakeWords
  pub take_equations : PeelingsTakeEquations
  pub plays : PlayLaws
