-- What three stages have come to, from what each has.
use Rattle.std.proofs.Common.{◌≡◌, ◌⊎◌, ◌∷◌, List, All}
use Rattle.std.proofs.lemmas.List.Elements.{All-rest}
use Rattle.fg_pipe.specs.Pipe.{IsFront, HavePiped}

pub have_piped : {T U : Type 0} {Gave : List T → Type 0} {Turned : List T → List U → Type 0} {Stored : List U → Type 0}
    {Over Stopped Broken : Type 0} (given took : List T) (made stored : List U)
    → Gave given → Turned took made → Stored stored → IsFront took given → IsFront stored made
    → Broken ⊎ ((stored ≡ made) × (Stopped ⊎ ((took ≡ given) × Over)))
    → HavePiped Gave Turned Stored Over Stopped Broken
have_piped given took made stored is_given is_turned is_stored took_front stored_front whole = record {
  given = given;
  took = took;
  made = made;
  stored = stored;
  is_given = is_given;
  is_turned = is_turned;
  is_stored = is_stored;
  took_front = took_front;
  stored_front = stored_front;
  whole = whole;
}

-- What holds of each of a list holds of each of its rest.
pub all_rest : {A : Type 0} (P : A → Type 0) (x : A) (xs all : List A) → all ≡ x ∷ xs → All P all → All P xs
all_rest P x xs all is each = All-rest P x xs all is each
