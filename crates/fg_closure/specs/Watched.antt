-- Which lines have to be looked at in a search of what follows. No public contract cites it.
use Rattle.std.specs.Prelude.{◌≡◌, ◌≢◌, ◌⊎◌, ◌+◌, ◌*◌, ◌<◌, ℕ, Bool, List, Option, Some, None, not, slice_index_or, count_by}
use Rattle.fg_buffer.specs.Watches.{WatchState, IsQueued, WatchesAt, Wakes, first_of, second_of, nowhere}
use Rattle.fg_closure.specs.declared.search.LineSlots.{LineSlots}
use Rattle.fg_closure.specs.declared.search.Lacking.{Lacking}
use Rattle.fg_closure.specs.declared.search.Lacking.TheVariants.{Nothing, One, Several}
use Rattle.fg_closure.specs.Flags.{IsFlagged, slots_at, AreWithout}

-- The line at each place has to be looked at.
abbrev pub EachIsQueued : List (Option LineSlots) → WatchState → Type 0
EachIsQueued lines watches =
    (place : ℕ) (line : LineSlots) → slice_index_or lines place None ≡ Some line → IsQueued watches place

-- A line has to be looked at, is complete, or watches two of its slots that have no flags.
abbrev pub IsWatched : ℕ → WatchState → List Bool → ℕ → LineSlots → Type 0
IsWatched first watches flags place line =
    IsQueued watches place
    ⊎ (AreWithout (IsFlagged first flags) (slots_at line) Nothing
    ⊎ AreWithout (IsFlagged first flags) (slots_at line) (Several (first_of watches place) (second_of watches place)))

-- That is so of the line at each place,
abbrev pub EachIsWatched : ℕ → List (Option LineSlots) → WatchState → List Bool → Type 0
EachIsWatched first lines watches flags =
    (place : ℕ) (line : LineSlots) → slice_index_or lines place None ≡ Some line → IsWatched first watches flags place line

-- or of each but that of one.
abbrev pub EachIsWatchedBut : ℕ → ℕ → List (Option LineSlots) → WatchState → List Bool → Type 0
EachIsWatchedBut but first lines watches flags =
    (place : ℕ) (line : LineSlots) → place ≢ but → slice_index_or lines place None ≡ Some line
    → IsWatched first watches flags place line

-- What falls with each look: how many flags aren't set, and how many lines are queued.
abbrev pub left_to_look : List Bool → WatchState → ℕ
left_to_look flags watches = count_by not flags * 513 + count_by (λ (queued : Bool). queued) watches.queued

-- The one position that lacks a flag can be watched.
abbrev pub IsNear : Lacking → Type 0
IsNear Nothing = Unit {0}
IsNear (One position) = position < nowhere
IsNear (Several one other) = Unit {0}

-- What is watched at a place after its line was looked at: nothing, or two slots that lack flags. Lines that watch the one that
-- lacked a flag have to be looked at.
abbrev pub Follows : Lacking → ℕ → WatchState → WatchState → Type 0
Follows Nothing place watches then = WatchesAt place nowhere nowhere watches then
Follows (One position) place watches then =
    (between : WatchState) × WatchesAt place nowhere nowhere watches between × Wakes position between then
Follows (Several one other) place watches then = WatchesAt place one other watches then
