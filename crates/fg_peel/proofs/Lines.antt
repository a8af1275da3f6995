-- A walk through the live lines.
use Rattle.std.proofs.Common.{◌≡◌, ◌⊎◌, ℕ, List, [], ◌∷◌, length, map, inl, inr, sym, ⊎_elim}
use Rattle.std.specs.List.{Contains}
use Rattle.slab.specs.Slab.{Slab, entries}
use Rattle.fg_peel.specs.declared.Line.{Line}
use Rattle.fg_peel.specs.declared.Slot.{Slot}
use Rattle.fg_peel.specs.Equation.{Equation}
use Rattle.fg_peel.specs.Slots.{lines_of, equations_of, equation_of, FitsFrom, AllFitFrom}
use Rattle.fg_peel.proofs.Lists.{Contains-here, Contains-there, Contains-cases, Contains-nil, Contains-map, Contains-from_map}

-- The lines of these entries.
abbrev pub lines_in : List (ℕ × Line) → List Line
lines_in rest = map (λ entry. entry.1) rest

-- What is left of a walk is live.
abbrev pub AreLive : Slab Line → List (ℕ × Line) → Type 0
AreLive lines rest = (line : Line) → Contains (lines_in rest) line → Contains (lines_of lines) line

pub all_live : (lines : Slab Line) (rest : List (ℕ × Line)) → rest ≡ entries lines → AreLive lines rest
all_live lines rest whole line c = rw whole at c

pub live_first : (lines : Slab Line) (all : List (ℕ × Line)) (entry : ℕ × Line) (rest : List (ℕ × Line)) → all ≡ entry ∷ rest → AreLive lines all → Contains (lines_of lines) entry.1
live_first lines all entry rest cut live = live entry.1 (rw cut (Contains-here entry.1 (lines_in rest)))

pub live_rest : (lines : Slab Line) (all : List (ℕ × Line)) (entry : ℕ × Line) (rest : List (ℕ × Line)) → all ≡ entry ∷ rest → AreLive lines all → AreLive lines rest
live_rest lines all entry rest cut live line c = live line (rw cut (Contains-there entry.1 (lines_in rest) line c))

-- a live line's equation is one of the equations
pub live_equation : (lines : Slab Line) (line : Line) → Contains (lines_of lines) line → Contains (equations_of lines) (equation_of line)
live_equation lines line c = Contains-map equation_of (lines_of lines) line c

-- an equation is that of a live line
pub line_of_equation : (lines : Slab Line) (equation : Equation) → Contains (equations_of lines) equation → (line : Line) × Contains (lines_of lines) line × (equation ≡ equation_of line)
line_of_equation lines equation c =
    let r = Contains-from_map equation_of (lines_of lines) equation c in (r.0, r.1, sym r.2)

-- Each live line is left, or fits.
abbrev pub FitsBut : ℕ → List Slot → Slab Line → List (ℕ × Line) → Type 0
FitsBut start slots lines rest =
    (line : Line) → Contains (lines_of lines) line → Contains (lines_in rest) line ⊎ FitsFrom start (length slots) line

pub fits_none : (start : ℕ) (slots : List Slot) (lines : Slab Line) (rest : List (ℕ × Line)) → rest ≡ entries lines → FitsBut start slots lines rest
fits_none start slots lines rest whole line c = inl (rw whole c)

pub fits_more :
    (start : ℕ) (slots : List Slot) (lines : Slab Line) (all : List (ℕ × Line)) (entry : ℕ × Line) (rest : List (ℕ × Line))
    → all ≡ entry ∷ rest → FitsFrom start (length slots) entry.1 → FitsBut start slots lines all → FitsBut start slots lines rest
fits_more start slots lines all entry rest cut fits but line c = ⊎_elim
    (λ left. ⊎_elim (λ here. inr (rw here fits)) (λ there. inl there) (Contains-cases entry.1 (lines_in rest) line (rw cut at left)))
    (λ done. inr done)
    (but line c)

pub fits_all : (start : ℕ) (slots : List Slot) (lines : Slab Line) (rest : List (ℕ × Line)) → rest ≡ [] → FitsBut start slots lines rest → AllFitFrom start slots lines
fits_all start slots lines rest none but line c = ⊎_elim (λ left. absurd (Contains-nil line (rw none at left))) (λ done. done) (but line c)
