use Rattle.fg_io.proofs.lane_name.LaneName.+push_decimal.Given as goal

abbrev pub decreases-push_decimal : goal.decreases-push_decimal
decreases-push_decimal l = l.number
