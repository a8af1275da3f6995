-- Which lines have to be looked at, and which two slots each of the others watches.
use Rattle.std.specs.Prelude.{◌≡◌, ◌≢◌, ◌⊎◌, ◌-◌, ◌/◌, ◌^◌, ◌<◌, ◌≤◌, ℕ, Bool, true, false, List, length, slice_index, slice_index_or, slice_set, refl}
use Rattle.std.specs.Coded.{Coded, code_by, coded×, coded_ℕ, coded_bool, coded_list}

-- The two watched positions by place, and whether the line there has to be looked at.
pub record WatchState : Type 0 where
  pub first : List ℕ
  pub second : List ℕ
  pub queued : List Bool

-- The line at this place has to be looked at.
abbrev pub IsQueued : WatchState → ℕ → Type 0
IsQueued watches place = slice_index_or watches.queued place false ≡ true

-- The two positions that it watches.
abbrev pub first_of : WatchState → ℕ → ℕ
first_of watches place = slice_index watches.first place

abbrev pub second_of : WatchState → ℕ → ℕ
second_of watches place = slice_index watches.second place

-- It watches this position.
abbrev pub IsWatching : WatchState → ℕ → ℕ → Type 0
IsWatching watches position place = (first_of watches place ≡ position) ⊎ (second_of watches place ≡ position)

-- The line at this place has to be looked at from then on.
pub record Adds (place : ℕ) (old new : WatchState) : Type 0 where
  pub first : new.first ≡ old.first
  pub second : new.second ≡ old.second
  pub count : length new.queued ≡ 512
  pub still : (other : ℕ) → IsQueued old other → IsQueued new other
  pub added : IsQueued new place

-- It has been taken for that.
pub record TakesOut (place : ℕ) (old new : WatchState) : Type 0 where
  pub within : place < 512
  pub was : IsQueued old place
  pub first : new.first ≡ old.first
  pub second : new.second ≡ old.second
  pub count : length old.queued ≡ 512
  pub taken : new.queued ≡ slice_set old.queued place false

-- It watches these two positions.
pub record WatchesAt (place first second : ℕ) (old new : WatchState) : Type 0 where
  pub queued : new.queued ≡ old.queued
  pub first_is : first_of new place ≡ first
  pub second_is : second_of new place ≡ second
  pub other_first : (other : ℕ) → other ≢ place → first_of new other ≡ first_of old other
  pub other_second : (other : ℕ) → other ≢ place → second_of new other ≡ second_of old other

-- Each line that watches the position has to be looked at from then on.
pub record Wakes (position : ℕ) (old new : WatchState) : Type 0 where
  pub first : new.first ≡ old.first
  pub second : new.second ≡ old.second
  pub count : length old.queued ≡ 512 → length new.queued ≡ 512
  pub still : (place : ℕ) → IsQueued old place → IsQueued new place
  pub woken : (place : ℕ) → place < 512 → IsWatching old position place → IsQueued new place

-- The lines whose first watched position lies at the mark or past it watch what they watched.
pub record Closes (mark : ℕ) (old new : WatchState) : Type 0 where
  pub queued : new.queued ≡ old.queued
  pub first : (place : ℕ) → mark ≤ first_of old place → first_of new place ≡ first_of old place
  pub second : (place : ℕ) → mark ≤ first_of old place → second_of new place ≡ second_of old place

-- No line watches this position.
abbrev pub nowhere : ℕ
nowhere = 2 ^ 64 - 1

-- Of each 32 places in a row none has a first position before their bound.
abbrev pub AreBounds : List ℕ → List ℕ → Type 0
AreBounds leasts first = (place : ℕ) → place < 512 → slice_index leasts (place / 32) ≤ slice_index first place

-- What is true of the fields: there is one of each for 512 places, all queued places lie from one on and below another, no
-- place from an end on watches anything, all watched positions lie between two, and the first ones keep to their bounds.
pub record AreWatches (first second : List ℕ) (queued : List Bool) (leasts : List ℕ) (low high end least latest : ℕ) : Type 0 where
  pub first_count : length first ≡ 512
  pub second_count : length second ≡ 512
  pub queued_count : length queued ≡ 512
  pub few : high ≤ 512
  pub among : (place : ℕ) → slice_index_or queued place false ≡ true → (low ≤ place) × (place < high)
  pub within : end ≤ 512
  pub first_past : (place : ℕ) → end ≤ place → place < 512 → slice_index first place ≡ nowhere
  pub second_past : (place : ℕ) → end ≤ place → place < 512 → slice_index second place ≡ nowhere
  pub leasts_count : length leasts ≡ 16
  pub leasts_most : (block : ℕ) → slice_index leasts block ≤ nowhere
  pub bounds : AreBounds leasts first
  pub not_before : (place : ℕ) → place < 512 → least ≤ slice_index first place
  pub first_before : (place : ℕ) → place < 512 → (slice_index first place ≤ latest) ⊎ (slice_index first place ≡ nowhere)
  pub second_before : (place : ℕ) → place < 512 → (slice_index second place ≤ latest) ⊎ (slice_index second place ≡ nowhere)

-- How these values are told apart.
abbrev pub watches_code : Coded WatchState
watches_code =
    code_by (List ℕ × (List ℕ × List Bool)) (coded× (coded_list coded_ℕ) (coded× (coded_list coded_ℕ) (coded_list coded_bool)))
    (λ w. (w.first, (w.second, w.queued))) (λ p. record { first = p.0; second = p.1.0; queued = p.1.1 }) (λ _. refl)
