-- Desks at first, and what a desk shows of the play that it made last.
use Rattle.std.proofs.Common.{◌≡◌, ◌+◌, ◌<◌, ◌++◌, ℕ, Option, Some, None, IfSome, List, [], ◌∷◌, length, ap, sym, subst}
use Rattle.std.specs.List.{All, slice_index_or}
use Rattle.std.proofs.lemmas.List.Elements.{All-push}
use Rattle.std.proofs.lemmas.List.FromFn.{get_or-map-range_with_len, length-map-range_with_len}
use Rattle.fg_desk.specs.declared.desk.Played.{Played}
use Rattle.fg_desk.specs.Contents.{Contents, opened, kept_shown, kept_from}
use Rattle.fg_playout.specs.Play.{nothing_shown}
use Rattle.fg_playout.specs.State.{known, opening}
use Rattle.fg_shape.specs.Playout.{Playout}

-- Desks that are empty, and one more.
pub empty_more :
    (playout : Playout) (desks new : List Contents) (desk : Contents) → new ≡ desks ++ desk ∷ [] → desk ≡ opened playout
    → All (λ (desk : Contents). desk.state ≡ opening playout) desks → All (λ (desk : Contents). desk.state ≡ opening playout) new
empty_more playout desks new desk items is each =
    subst (λ (all : List Contents). All (λ (desk : Contents). desk.state ≡ opening playout) all) (sym items)
    (All-push (λ (desk : Contents). desk.state ≡ opening playout) desks desk each (ap (λ (desk : Contents). desk.state) is))

pub kept_count : (desk : Contents) (first count : ℕ) → count ≡ length (kept_from desk first count)
kept_count desk first count = sym (length-map-range_with_len (kept_shown (known desk.state) desk.repaired) first count)

pub counts_kept : (desk : Contents) (result : Option Played) → IfSome result (λ played. played.count ≡ length (kept_from desk played.first played.count))
counts_kept desk None = tt
counts_kept desk (Some played) = kept_count desk played.first played.count

pub kept_at :
    (desk : Contents) (first count i position : ℕ) → i < length (kept_from desk first count) → first + i ≡ position
    → slice_index_or (kept_from desk first count) i nothing_shown ≡ kept_shown (known desk.state) desk.repaired position
kept_at desk first count i position below at =
    get_or-map-range_with_len (kept_shown (known desk.state) desk.repaired) first count i position nothing_shown
    (subst (λ n. i < n) (sym (kept_count desk first count)) below) at
