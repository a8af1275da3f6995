-- What the places of a tray show.
use Rattle.std.proofs.Common.{◌≡◌, ◌<◌, ◌≤◌, ℕ, false, List, None, length, map, take, get_or, sym, ap, ◌∙◌, arith}
use Rattle.std.proofs.lemmas.List.{get_or_default, get_or-take, length-map, length-take}
use Rattle.std.proofs.Math.ListN.{get_or-map}
use Rattle.fg_words.specs.Word.{zero_word}
use Rattle.fg_desk.specs.declared.tray.Place.{Place}
use Rattle.fg_playout.specs.Shown.{nothing_shown}
use Rattle.fg_desk.specs.TrayPlaces.{shown_of}

abbrev no_place : Place
no_place = record { share = None; copied = false; repaired = false; word = zero_word }

pub shown_at_place :
    (places : List Place) (count i : ℕ) (place : Place) → i < count → count ≤ length places
    → place ≡ get_or places i place → get_or (map shown_of (take count places)) i nothing_shown ≡ shown_of place
shown_at_place places count i place less within is =
    let inside : i < length places = omega arith in
    get_or-map shown_of (take count places) i no_place
    ∙ ap shown_of (get_or-take count places i no_place less ∙ get_or_default places i no_place place inside ∙ sym is)

pub place_is_shown :
    (places : List Place) (count i : ℕ) → i < count → count ≤ length places → i < length (map shown_of (take count places))
place_is_shown places count i less within = omega (arith, length-map (take count places) shown_of, length-take count places)
