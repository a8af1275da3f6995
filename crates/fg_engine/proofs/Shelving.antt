-- What waits on a shelf, as the one lane that it is.
use Rattle.std.proofs.Common.{◌≡◌, ◌++◌, ℕ, List, [], Option, Some, None, IsSome, refl, sym, ap, subst, ◌∙◌, unwrap_or, arith}
use Rattle.std.proofs.lemmas.Bool.Decides.{nat_tests}
use Rattle.fg_engine.specs.declared.shelved.Shelved.{Shelved}
use Rattle.fg_engine.specs.Shelved.{lanes_waiting}
use Rattle.fg_engine.specs.Steps.{Grows}

waits_here : (shelved : Shelved) (port : ℕ) → shelved.port ≡ port → lanes_waiting shelved port ≡ Some shelved.shelf
waits_here shelved port at = grind (arith, nat_tests)

waits_nowhere_else : (shelved : Shelved) (port : ℕ) → (port ≡ shelved.port → ⊥) → lanes_waiting shelved port ≡ None
waits_nowhere_else shelved port apart = grind (arith, nat_tests)

-- A shelf of the port that has gained a piece is a lane that has.
pub waits_more :
    (old new : Shelved) (port : ℕ) (piece : List ℕ) → old.port ≡ port → new.port ≡ port → new.shelf ≡ old.shelf ++ piece
    → Grows (Some (lanes_waiting old)) port piece (Some (lanes_waiting new))
waits_more old new port piece before after more =
    let bytes = λ (lane : Option (List ℕ)). unwrap_or lane [] in
    record {
      bytes =
          ap bytes (waits_here new port after)
          ∙ more
          ∙ ap (λ (lane : Option (List ℕ)). bytes lane ++ piece) (sym (waits_here old port before));
      kept = λ _. subst IsSome (sym (waits_here new port after)) refl;
      others = λ other apart.
          waits_nowhere_else new other (λ same. apart (same ∙ after))
          ∙ sym (waits_nowhere_else old other (λ same. apart (same ∙ before)));
    }

-- And the other way round.
pub shelf_gains :
    (old new : Shelved) (port : ℕ) (piece : List ℕ) → old.port ≡ port → new.port ≡ port
    → Grows (Some (lanes_waiting old)) port piece (Some (lanes_waiting new)) → new.shelf ≡ old.shelf ++ piece
shelf_gains old new port piece before after grows =
    let bytes = λ (lane : Option (List ℕ)). unwrap_or lane [] in
    sym (ap bytes (waits_here new port after))
    ∙ grows.bytes
    ∙ ap (λ (lane : Option (List ℕ)). bytes lane ++ piece) (waits_here old port before)
