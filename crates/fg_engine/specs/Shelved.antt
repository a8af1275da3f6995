-- What waits for a lane, seen as lanes: this project's own.
use Rattle.std.specs.Prelude.{Some, None, cond, nat_eq}
use Rattle.fg_io.specs.Outlet.{Lanes}
use Rattle.fg_engine.specs.declared.shelved.Shelved.{Shelved}

-- One lane, of the port that it waits for, with the bytes that wait.
abbrev pub lanes_waiting : Shelved → Lanes
lanes_waiting shelved port = cond (nat_eq port shelved.port) (Some shelved.shelf) None
