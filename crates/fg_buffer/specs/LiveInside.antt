-- How the live equations stand in two slabs, and what the functions on these do.
use Rattle.std.specs.Prelude.{◌≡◌, ◌≢◌, ◌⊎◌, ◌+◌, ◌<◌, ◌≤◌, ◌↔◌, ◌++◌, ℕ, Bool, true, false, List, [], ◌∷◌, length, slice_index_or, Option, Some, IsSome, MatchBool, refl}
use Rattle.std.specs.Coded.{Coded, code_by, coded×, coded_ℕ}
use Rattle.std.specs.List.{Contains}
use Rattle.std.specs.Ordering.{nat_cmp}
use Rattle.std.specs.FinMap as map
use Rattle.std.specs.FinSet as set
use Rattle.slab.specs.Slab.{Slab, get, slab_len}
use Rattle.fg_words.specs.declared.Word.{Word}
use Rattle.fg_shape.specs.Shape.{IsShape, position_limit}
use Rattle.fg_peel.specs.declared.Line.{Line}
use Rattle.fg_peel.specs.Equation.{Equation, slots, IsComplete}
use Rattle.fg_peel.specs.Slots.{equation_of, lines_of}
use Rattle.fg_peel.specs.Live.{Live, last_slot, live_limit}
use Rattle.fg_peel.specs.Words.{Words}
use Rattle.fg_buffer.specs.BufferEntries.{word_code}
use Rattle.fg_buffer.specs.LiveEquations.{LiveState, live_of}

-- The lines by serial number, and the serial numbers alone.
unfoldable pub live_in : List Line → map.FinMap nat_cmp Live
live_in [] = map.empty
live_in (line ∷ rest) = map.insert (live_in rest) line.serial (live_of line)

unfoldable pub serials_in : List Line → set.FinSet nat_cmp
serials_in [] = set.empty
serials_in (line ∷ rest) = set.insert (serials_in rest) line.serial

-- What the two slabs are as contracts see them.
abbrev pub state_of : Slab Line → Slab Line → LiveState
state_of open_lines settled_lines = record {
  live = live_in (lines_of open_lines ++ lines_of settled_lines);
  settled = serials_in (lines_of settled_lines);
}

-- A slab holds the line, and one of two does.
abbrev pub Holds : Slab Line → Line → Type 0
Holds lines line = (key : ℕ) × (get lines key ≡ Some line)

abbrev pub Stands : Slab Line → Slab Line → Line → Type 0
Stands open_lines settled_lines line = Holds open_lines line ⊎ Holds settled_lines line

-- No two of the lines of two slabs have the same of these numbers.
pub record IsOneEach (number : Line → ℕ) (first second : Slab Line) : Type 0 where
  pub in_first :
      (key key' : ℕ) (one other : Line) → get first key ≡ Some one → get first key' ≡ Some other
      → number one ≡ number other → key ≡ key'
  pub in_second :
      (key key' : ℕ) (one other : Line) → get second key ≡ Some one → get second key' ≡ Some other
      → number one ≡ number other → key ≡ key'
  pub apart :
      (key key' : ℕ) (one other : Line) → get first key ≡ Some one → get second key' ≡ Some other
      → number one ≢ number other

-- What is true of each line.
pub record IsWithin (line : Line) : Type 0 where
  pub shape : IsShape line.shape.offset line.shape.na
  pub base : line.base ≤ position_limit
  pub place : line.place < live_limit

abbrev pub AreWithin : Slab Line → Type 0
AreWithin lines = (key : ℕ) (line : Line) → get lines key ≡ Some line → IsWithin line

-- The place is taken.
abbrev pub IsTaken : List Bool → ℕ → Type 0
IsTaken places place = slice_index_or places place false ≡ true

-- What is true of the two slabs and the places: serial numbers and places differ, the places of the lines are taken and
-- no others, and there is room.
pub record AreSound (open_lines settled_lines : Slab Line) (places : List Bool) : Type 0 where
  pub serials : IsOneEach (λ line. line.serial) open_lines settled_lines
  pub numbers : IsOneEach (λ line. line.place) open_lines settled_lines
  pub open_within : AreWithin open_lines
  pub settled_within : AreWithin settled_lines
  pub count : length places ≡ live_limit
  pub taken : (line : Line) → Stands open_lines settled_lines line → IsTaken places line.place
  pub by_line :
      (place : ℕ) → IsTaken places place
      → (line : Line) × Stands open_lines settled_lines line × (line.place ≡ place)
  pub few : slab_len open_lines + slab_len settled_lines ≤ live_limit
  pub open_room : live_limit ≤ open_lines.capacity
  pub settled_room : live_limit ≤ settled_lines.capacity

-- The key that is told for a line's place is the one that it has in its slab.
abbrev pub IsKeyed : List ℕ → Slab Line → Type 0
IsKeyed keys lines = (key : ℕ) (line : Line) → get lines key ≡ Some line → slice_index_or keys line.place 0 ≡ key

-- That is so in both slabs, and there is a key for each place.
pub record AreKeyed (keys : List ℕ) (first second : Slab Line) : Type 0 where
  pub count : length keys ≡ live_limit
  pub in_first : IsKeyed keys first
  pub in_second : IsKeyed keys second

-- The last slots of all lines lie between these positions.
abbrev pub AreBetween : ℕ → ℕ → Slab Line → Slab Line → Type 0
AreBetween earliest latest open_lines settled_lines =
    (line : Line) → Stands open_lines settled_lines line
    → (earliest ≤ last_slot (equation_of line)) × (last_slot (equation_of line) ≤ latest)

-- All that is true of the fields.
pub record AreKept (open_lines settled_lines : Slab Line) (places : List Bool) (keys : List ℕ) (earliest latest : ℕ) : Type 0 where
  pub sound : AreSound open_lines settled_lines places
  pub keyed : AreKeyed keys open_lines settled_lines
  pub between : AreBetween earliest latest open_lines settled_lines

-- LiveEquations move from one slab to another: none but these.
pub record MovesOver (IsGone : Line → Type 0) (source target source' target' : Slab Line) : Type 0 where
  pub gone : (line : Line) → Holds target' line → Holds target line ⊎ (Holds source line × IsGone line)
  pub every : (line : Line) → Stands source target line → Stands source' target' line
  pub kept : (line : Line) → Holds target line → Holds target' line
  pub each : (number : Line → ℕ) → IsOneEach number source target → IsOneEach number source' target'
  pub count : slab_len source' + slab_len target' ≡ slab_len source + slab_len target
  pub source_capacity : source'.capacity ≡ source.capacity
  pub target_capacity : target'.capacity ≡ target.capacity

-- A pass moves those lines that go. The others stay.
pub record Moves (IsLeft IsGone : Line → Type 0) (source target source' target' : Slab Line) : Type 0 where
  pub left : (line : Line) → Holds source' line → Holds source line × IsLeft line
  pub over : MovesOver IsGone source target source' target'

-- The line is complete in these words, or it isn't.
abbrev pub IsCompleteAs : Bool → (ℕ → Option Word) → Line → Type 0
IsCompleteAs complete words line =
    MatchBool complete (IsComplete words (equation_of line)) (¬ IsComplete words (equation_of line))

-- Where an equation reaches to the mark, the words below it are kept at its slots.
abbrev pub IsBased : ℕ → Words → Equation → Type 0
IsBased mark kept equation =
    mark ≤ last_slot equation
    → (slot : ℕ) → Contains (slots equation) slot → slot < mark → IsSome (map.get kept slot)

-- A pass keeps those lines that stay, each under its key, and frees the places of the others.
pub record Drops (Stays : Line → Type 0) (old new : Slab Line) (places places' : List Bool) : Type 0 where
  pub left :
      (key : ℕ) (line : Line) → (get new key ≡ Some line) ↔ ((get old key ≡ Some line) × Stays line)
  pub freed :
      (place : ℕ) → IsTaken places' place
      ↔ (IsTaken places place × ((line : Line) → Holds old line → line.place ≡ place → Stays line))
  pub count : length places' ≡ length places
  pub fewer : slab_len new ≤ slab_len old
  pub capacity : new.capacity ≡ old.capacity

-- How these values are told apart.
abbrev pub live_code : Coded Live
live_code =
    code_by (ℕ × (ℕ × (ℕ × (ℕ × Word)))) (coded× coded_ℕ (coded× coded_ℕ (coded× coded_ℕ (coded× coded_ℕ word_code))))
    (λ l. (l.place, (l.equation.base, (l.equation.offset, (l.equation.count, l.equation.parity)))))
    (λ p. record {
      place = p.0;
      equation = record { base = p.1.0; offset = p.1.1.0; count = p.1.1.1.0; parity = p.1.1.1.1 };
    })
    (λ _. refl)

abbrev pub lines_code : Coded LiveState
lines_code =
    code_by (map.FinMap nat_cmp Live × set.FinSet nat_cmp) (coded× (map.code coded_ℕ live_code) (set.code coded_ℕ))
    (λ l. (l.live, l.settled)) (λ p. record { live = p.0; settled = p.1 }) (λ _. refl)
