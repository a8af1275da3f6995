-- Where nothing more follows, nothing is known ahead and nothing is peeled.
use Rattle.std.proofs.Common.{◌≤◌, [], ◌∷◌, refl, ⊎_elim}
use Rattle.std.proofs.lemmas.List.Elements.{All-head}
use Rattle.fg_peel.proofs.Options.{none_or_some, has_value}
use Rattle.fg_playout.specs.State.{known}
use Rattle.fg_playout.specs.Solution.{given, derived}
use Rattle.fg_playout.specs.Laws.{NothingAheadIsKnown, NothingIsPeeled}
use Rattle.fg_playout.proofs.Peeled.{steps_are_ahead}

pub nothing_ahead_is_known : NothingAheadIsKnown
nothing_ahead_is_known desk none position ahead = ⊎_elim
    (λ is. is)
    (λ some. absurd (none (position, given (has_value (known desk position) some.0 some.1), ahead)))
    (none_or_some (known desk position))

pub nothing_is_peeled : NothingIsPeeled
nothing_is_peeled desk [] holds none peeling = refl
nothing_is_peeled desk (step ∷ steps) holds none peeling =
    let ahead : desk.mark ≤ step.position =
    All-head (λ s. desk.mark ≤ s.position) step steps (steps_are_ahead desk (step ∷ steps) holds peeling) in
    absurd (none (
      step.position,
      derived step.equation peeling.0.listed peeling.0.slot ahead (λ q c n. given (peeling.0.others_known q c n)),
      ahead,
    ))
