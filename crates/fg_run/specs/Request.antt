-- What words ask for.
use Rattle.std.specs.Prelude.{ℕ, List}
use Rattle.fg_cli.specs.declared.help.Question.{Question}
use Rattle.fg_cli.specs.Help.{IsQuestion}
use Rattle.fg_cli.specs.Orders.{FirstFault, IsReading, OrderFits}
use Rattle.fg_run.specs.declared.request.Request.{Request}
use Rattle.fg_run.specs.declared.request.Request.TheVariants.{Asked, Ordered, Refused}

-- The words ask for the request: they are a question beside the grammar; they read as an order; or they are refused, for
-- the first rule that they break.
abbrev pub Asks : List (List ℕ) → Request → Type 0
Asks words (Asked question) = IsQuestion words question
Asks words (Ordered order) = IsReading words order
Asks words (Refused fault) = FirstFault words fault × ((question : Question) → ¬ IsQuestion words question)

-- An order has all its numbers within the ranges of the grammar.
abbrev pub RequestFits : Request → Type 0
RequestFits (Asked question) = Unit {0}
RequestFits (Ordered order) = OrderFits order
RequestFits (Refused fault) = Unit {0}
