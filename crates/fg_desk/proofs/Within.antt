-- Where desks have room for what comes before a datagram.
use Rattle.std.proofs.Common.{ℕ, List, [], ◌++◌, refl, inl, inr, ⊎_elim}
use Rattle.fg_words.specs.declared.Word.{Word}
use Rattle.fg_shape.specs.declared.kind.Kind.TheVariants.{Media}
use Rattle.fg_playout.specs.State.{State}
use Rattle.fg_playout.specs.Play.{Play}
use Rattle.fg_playout.specs.Room.{HasRoom}
use Rattle.fg_playout.specs.Run.{carries, refused, ArePlaysHeld}
use Rattle.fg_playout.specs.Laws.{HavePlayedBefore, FreshIsDecided, still_held, then_played}
use Rattle.fg_desk.specs.Arrivals.{StaysWithin, HeldWithin, ThenStaysWithin}

-- A word of no bytes.
no_word : Word
no_word = record { pt = 0; ts = 0; len = 0; bytes = [] }

-- The desk has room for what comes before a datagram of this time, and so where its held plays are made.
pub held_within : (old : State) (time : ℕ) → StaysWithin old → HeldWithin old time
held_within old time within some plays new steps = within (refused time Media) plays new (still_held some steps)

pub then_within :
    (old ready : State) (time : ℕ) (held : List Play) → StaysWithin old → ArePlaysHeld old time held ready → ThenStaysWithin ready
then_within old ready time held within holds seq ssrc plays new played =
    within (carries time seq ssrc no_word) (held ++ plays) new (then_played held plays ready holds refl played)

-- Nothing was played yet.
pub nothing_before : FreshIsDecided → (old : State) (seq ssrc : ℕ) → HavePlayedBefore old seq ssrc [] old
nothing_before decided old seq ssrc = ⊎_elim (λ fresh. inl (fresh, refl)) (λ stale. inr (stale, refl)) (decided old ssrc)

-- Where nothing comes before, the desk has room.
pub room_before : FreshIsDecided → (old : State) → ThenStaysWithin old → HasRoom old
room_before decided old within = (within 0 0 [] old (nothing_before decided old 0 0)).1
