-- How far the writing of a text has come: what is written of it, and what is held to be written next. This project's own.
use Rattle.std.specs.Prelude.{◌≡◌, ℕ, Option, List, ◌++◌}
use Rattle.fg_io.specs.Sink.{Gains}

-- Since then the sink has gained the front of the text, and the rest of it is held.
pub record Sent (before : Option (List ℕ)) (text held : List ℕ) (after : Option (List ℕ)) : Type 0 where
  pub front : List ℕ
  pub gained : Gains before front after
  pub rest : text ≡ front ++ held
