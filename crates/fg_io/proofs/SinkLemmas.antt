-- Lemmas on what a sink gains.
use Rattle.std.proofs.Common.{ℕ, Option, None, Some, List, [], ◌++◌, refl, sym, ap, ◌∙◌, append_assoc, append-nil}
use Rattle.std.specs.Io.KnownBytes.{append_known}
use Rattle.fg_io.specs.Prefix.{IsPrefix}
use Rattle.fg_io.specs.Sink.{Gains, GainsPart}
use Rattle.fg_io.proofs.PrefixLemmas.{IsPrefix-nil, IsPrefix-refl, IsPrefix-append, IsPrefix-longer, IsPrefix-trans}

-- a sink to which nothing was written
pub Gains-nil : (written : Option (List ℕ)) → Gains written [] written
Gains-nil None = refl
Gains-nil (Some bytes) = ap (λ all. Some all) (sym (append-nil bytes))

-- two writes in a row
pub Gains-trans : (first second third : Option (List ℕ)) (piece more : List ℕ) → Gains first piece second → Gains second more third → Gains first (piece ++ more) third
Gains-trans None second third piece more once again = again ∙ ap (λ known. append_known known more) once
Gains-trans (Some bytes) second third piece more once again =
    again ∙ ap (λ known. append_known known more) once ∙ ap (λ all. Some all) (append_assoc bytes piece more)

-- nothing is a prefix of what is to be written
pub GainsPart-nil : (written : Option (List ℕ)) (piece : List ℕ) → GainsPart written piece written
GainsPart-nil written piece = (([]), IsPrefix-nil piece, Gains-nil written)

-- all of a piece is a prefix of it
pub GainsPart-whole : (before after : Option (List ℕ)) (piece : List ℕ) → Gains before piece after → GainsPart before piece after
GainsPart-whole before after piece gains = (piece, IsPrefix-refl piece, gains)

-- a prefix of the list's front is a prefix of the list
pub GainsPart-front : (before after : Option (List ℕ)) (piece whole : List ℕ) → IsPrefix piece whole → GainsPart before piece after → GainsPart before whole after
GainsPart-front before after piece whole front gained = (gained.0, IsPrefix-trans gained.0 piece whole gained.1 front, gained.2)

-- a prefix of the first of two pieces
pub GainsPart-longer : (before after : Option (List ℕ)) (piece more : List ℕ) → GainsPart before piece after → GainsPart before (piece ++ more) after
GainsPart-longer before after piece more gained = (gained.0, IsPrefix-longer gained.0 piece more gained.1, gained.2)

-- the first of two pieces, and a prefix of the second
pub GainsPart-trans : (first second third : Option (List ℕ)) (piece more : List ℕ) → Gains first piece second → GainsPart second more third → GainsPart first (piece ++ more) third
GainsPart-trans first second third piece more once again =
    (piece ++ again.0, IsPrefix-append piece again.0 more again.1, Gains-trans first second third piece again.0 once again.2)
