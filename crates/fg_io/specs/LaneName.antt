-- The files of lanes: this project's own rule.
use Rattle.std.specs.Prelude.{ℕ, List, ◌++◌, codes}
use Rattle.std.specs.Fmt.{decimal}

-- the name of the file that holds the lane of a port: the port in decimal, and the ending of a transport stream
abbrev pub lane_name : ℕ → List ℕ
lane_name port = decimal port ++ codes ".ts"
