-- Which losses are few: this project's own. And how many records an encoding has.
use Rattle.std.specs.Prelude.{◌≡◌, ℕ, List, length}
use Rattle.fg_shape.specs.declared.layouts.Layout.{Layout}
use Rattle.fg_shape.specs.declared.encoding.Losses.{Losses}
use Rattle.fg_shape.specs.Losses.{MayLose}
use Rattle.fg_shape.specs.declared.encoding.Settings.{Settings}
use Rattle.fg_encode.specs.Encoding.{encoding}
use Rattle.fg_thin.specs.Thinned.{AreFew, is_lost, media_number}

-- Losses that may be asked for are few, in each layout.
abbrev pub LossesAreFew : Type 0
LossesAreFew =
    (layout : Layout) (losses : Losses) (count : ℕ) → MayLose losses → AreFew layout count (is_lost losses)

-- An encoding of so many payloads has as many records as come before the media record of the next slot.
abbrev pub RecordsAreCounted : Type 0
RecordsAreCounted =
    (settings : Settings) (payloads : List (List ℕ))
    → length (encoding settings payloads) ≡ media_number settings.layout (length payloads)
