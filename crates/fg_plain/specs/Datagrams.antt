-- What the datagrams and the plays of a plain run mean.
use Rattle.std.specs.Prelude.{◌≡◌, ⊤, List, map, Option}
use Rattle.std.specs.List.{All}
use Rattle.fg_words.specs.Word.{IsMedia}
use Rattle.fg_shape.specs.Shape.{IsShape}
use Rattle.fg_shape.specs.Playout.{Playout}
use Rattle.fg_plain.specs.declared.run.Datagram.{Datagram}
use Rattle.fg_plain.specs.declared.run.Datagram.TheVariants as datagram
use Rattle.fg_plain.specs.declared.run.ShownWord.{ShownWord}
use Rattle.fg_plain.specs.declared.run.ShownPlay.{ShownPlay}
use Rattle.fg_playout.specs.declared.reply.Reply.{Reply}
use Rattle.fg_playout.specs.State.{State, opening}
use Rattle.fg_playout.specs.Play.{Play, Shown}
use Rattle.fg_playout.specs.Run.{Arrival, carries, protects, refused, TakesAll}
use Rattle.fg_playout.specs.Laws.{IsRead}

-- The datagram that arrives.
abbrev pub arrival_of : Datagram → Arrival
arrival_of (datagram.Media time seq ssrc word) = carries time seq ssrc word
arrival_of (datagram.Parity time stream base shape word) =
    protects time stream (record { base = base; offset = shape.offset; count = shape.na; word = word })
arrival_of (datagram.Refused time stream) = refused time stream

-- It is as readers give it: a media word, or a shape that is read.
abbrev pub IsGiven : Datagram → Type 0
IsGiven (datagram.Media time seq ssrc word) = IsMedia word
IsGiven (datagram.Parity time stream base shape word) = IsShape shape.offset shape.na
IsGiven (datagram.Refused time stream) = ⊤

-- The play that a copy tells.
abbrev pub shown_word : ShownWord → Shown
shown_word shown = record { word = shown.word; repaired = shown.repaired }

abbrev pub play_of : ShownPlay → Play
play_of play = record { first = play.first; shown = map shown_word play.shown.items; outcome = play.outcome }

-- What the opening desk comes to where it has taken these datagrams, and the plays and the replies by then.
pub record AreTaken (playout : Playout) (datagrams : List Datagram) (new : State) (plays : List ShownPlay) (replies : List (Option Reply)) : Type 0 where
  pub takes : TakesAll (opening playout) (map arrival_of datagrams) (map play_of plays) replies new
  pub read : All IsRead (map arrival_of datagrams)
  pub same : new.playout ≡ playout
