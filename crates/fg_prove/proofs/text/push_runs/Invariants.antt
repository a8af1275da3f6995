use Rattle.std.proofs.Common.{◌≡◌, ◌++◌, [], ◌∷◌, take}
use Rattle.std.specs.List.{flat_map}
use Rattle.fg_proof.specs.Text.{spelled}
use Rattle.fg_prove.proofs.text.push_runs.Given as goal

abbrev pub invariant-loop-i : goal.invariant-loop-i
invariant-loop-i l = l.text.items ≡ l.fn.text.items ++ flat_map (λ run. spelled l.fn.word (run.0 ∷ run.1 ∷ []) ++ 10 ∷ []) (take l.i l.runs)
