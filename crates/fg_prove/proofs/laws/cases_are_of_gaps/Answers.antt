use Rattle.fg_playout.specs.PlayedOn.{played_on}
use Rattle.fg_prove.proofs.OfGaps.{of_gaps}
use Rattle.fg_prove.proofs.laws.cases_are_of_gaps.Goals as goal

pub returns : goal.returns
returns c playout records flow cases proved =
    of_gaps flow (played_on playout proved.arrivals proved.plays proved.replies proved.run) cases
    (c.one_list_of_desks.ensures.desks playout proved.arrivals proved.plays proved.replies proved.run) proved.cases_are
