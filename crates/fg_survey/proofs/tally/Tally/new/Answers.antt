use Rattle.std.proofs.Common.{refl}
use Rattle.fg_survey.proofs.TallyLemmas.{no_tally}
use Rattle.fg_survey.proofs.tally.Tally.new.Goals as goal

pub returns : goal.returns
returns c = no_tally _ (c.in_ok-vec.ensures.items_if_clones_equal (λ y h. h)) (c.in_ok-vec-2.ensures.items_if_clones_equal (λ y h. h)) (c.in_ok-vec-3.ensures.items_if_clones_equal (λ y h. h)) refl refl refl
