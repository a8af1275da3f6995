use Rattle.fg_peel.proofs.Verdicts.{sound_from_tests, sums_from_sound}
use Rattle.fg_peel.proofs.laws.maximal_peelings_are_tested.Goals as goal

pub returns : goal.returns
returns c known equations steps maximal = (
  λ sound. (sound.media, sums_from_sound known equations steps maximal sound),
  λ tests. sound_from_tests known equations steps maximal tests.0 tests.1,
)
