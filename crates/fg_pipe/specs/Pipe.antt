-- What three stages in a row come to.
use Rattle.std.specs.Prelude.{◌≡◌, ◌⊎◌, ◌++◌, List}

-- The second list begins with the first.
abbrev pub IsFront : {A : Type 0} → List A → List A → Type 0
IsFront {A} front all = (rest : List A) × (all ≡ front ++ rest)

-- The first has given some things, the second has taken the first of these and has made some of them, and the third was given the
-- first of those. Unless the third broke off it was given all that was made, and then the second has stopped, or it has taken all
-- that was given, and no more is.
pub record HavePiped {T U : Type 0}
    (Gave : List T → Type 0) (Turned : List T → List U → Type 0) (Stored : List U → Type 0) (Over Stopped Broken : Type 0) : Type 0 where
  pub given : List T
  pub took : List T
  pub made : List U
  pub stored : List U
  pub is_given : Gave given
  pub is_turned : Turned took made
  pub is_stored : Stored stored
  pub took_front : IsFront took given
  pub stored_front : IsFront stored made
  pub whole : Broken ⊎ ((stored ≡ made) × (Stopped ⊎ ((took ≡ given) × Over)))
