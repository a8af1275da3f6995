-- Words ask for one request.
use Rattle.std.proofs.Common.{◌≡◌, ℕ, List, ap}
use Rattle.fg_cli.specs.Laws.{OneFault, OneQuestion, OneReading, QuestionsHaveNoReading, ReadingsHaveNoFault}
use Rattle.fg_run.specs.declared.request.Request.{Request}
use Rattle.fg_run.specs.declared.request.Request.TheVariants.{Asked, Ordered, Refused}
use Rattle.fg_run.specs.Request.{Asks}

pub one_request : OneQuestion → QuestionsHaveNoReading → OneReading → ReadingsHaveNoFault → OneFault
    → (words : List (List ℕ)) (one other : Request) → Asks words one → Asks words other → one ≡ other
one_request q u r n f words (Asked x) (Asked y) h k = ap Asked (q words x y h k)
one_request q u r n f words (Asked x) (Ordered o) h k = absurd (u words o x h k)
one_request q u r n f words (Asked x) (Refused y) h k = absurd (k.1 x h)
one_request q u r n f words (Ordered o) (Asked x) h k = absurd (u words o x k h)
one_request q u r n f words (Ordered o) (Ordered p) h k = ap Ordered (r words o p h k)
one_request q u r n f words (Ordered o) (Refused x) h k = absurd (n words o x h k.0)
one_request q u r n f words (Refused x) (Asked y) h k = absurd (h.1 y k)
one_request q u r n f words (Refused x) (Ordered o) h k = absurd (n words o x k h.0)
one_request q u r n f words (Refused x) (Refused y) h k = ap Refused (f words x y h.0 k.0)
