use Rattle.fg_peel_tests.proofs.peeling.+play_all.Given as goal

abbrev pub decreases-play_all : goal.decreases-play_all
decreases-play_all l = l.depth
