-- The least place of a line that is broken.
use Rattle.std.proofs.Common.{◌≡◌, ◌⊎◌, ◌≤◌, ℕ, List, [], ◌∷◌, Option, Some, None, IfSome, IfNone, IsSomeAnd, ◌<◌, sym, ap, inl, inr, ⊎_elim, subst, arith}
use Rattle.std.specs.List.{Contains}
use Rattle.slab.specs.Slab.{Slab, entries}
use Rattle.fg_words.specs.declared.Word.{Word}
use Rattle.fg_peel.specs.declared.Line.{Line}
use Rattle.fg_peel.specs.Equation.{Equation, AllComeOut, IsComplete, ComesOut}
use Rattle.fg_peel.specs.Slots.{equation_of, equations_of, lines_of}
use Rattle.fg_peel.specs.Verdict.{IsLeast, BreaksAt}
use Rattle.fg_peel.proofs.Lists.{Contains-cases, Contains-nil}
use Rattle.fg_peel.proofs.Lines.{lines_in, line_of_equation}

-- There is a number, and it isn't above this one.
abbrev pub IsAtMost : Option ℕ → ℕ → Type 0
IsAtMost None n = ⊥
IsAtMost (Some m) n = m ≤ n

at_most : (least : Option ℕ) (n : ℕ) → IsSomeAnd least (λ m. m ≤ n) → IsAtMost least n
at_most None n above = absurd above
at_most (Some m) n above = above

lesser : (least : Option ℕ) (place n : ℕ) → IfSome least (λ m. place < m) → IsAtMost least n → place ≤ n
lesser None place n below above = absurd above
lesser (Some m) place n below above = omega (arith, below, above)

module _ (words : ℕ → Option Word) (lines : Slab Line) where
  -- Each live line is left, or it comes out if it is complete, or its place isn't below the least so far.
  abbrev pub BrokenBut : Option ℕ → List (ℕ × Line) → Type 0
  BrokenBut least rest =
      (line : Line) → Contains (lines_of lines) line
      → Contains (lines_in rest) line ⊎ ((IsComplete words (equation_of line) → ComesOut words (equation_of line)) ⊎ IsAtMost least line.place)

  pub broken_none : (rest : List (ℕ × Line)) → rest ≡ entries lines → BrokenBut None rest
  broken_none rest whole line c = inl (rw whole c)

  module _ (all rest : List (ℕ × Line)) (entry : ℕ × Line) (cut : all ≡ entry ∷ rest) where
    -- the next line isn't broken
    pub broken_same : (least : Option ℕ) → (IsComplete words (equation_of entry.1) → ComesOut words (equation_of entry.1)) → BrokenBut least all → BrokenBut least rest
    broken_same least fine but line c = ⊎_elim
        (λ left. ⊎_elim
        (λ here. inr (rw here (inl fine)))
        (λ there. inl there)
        (Contains-cases entry.1 (lines_in rest) line (rw cut at left)))
        (λ done. inr done)
        (but line c)

    -- the next line's place isn't below the least so far
    pub broken_passed : (least : Option ℕ) → IsSomeAnd least (λ m. m ≤ entry.1.place) → BrokenBut least all → BrokenBut least rest
    broken_passed least above but line c = ⊎_elim
        (λ left. ⊎_elim
        (λ here. inr (rw here (inr (at_most least entry.1.place above))))
        (λ there. inl there)
        (Contains-cases entry.1 (lines_in rest) line (rw cut at left)))
        (λ done. inr done)
        (but line c)

    -- the next line is broken, and its place is below the least so far
    pub broken_more : (least : Option ℕ) → IfSome least (λ m. entry.1.place < m) → BrokenBut least all → BrokenBut (Some entry.1.place) rest
    broken_more least below but line c = ⊎_elim
        (λ left. ⊎_elim
        (λ here. (let same : entry.1.place ≤ line.place = omega (arith, ap (λ (l : Line). l.place) here) in inr (inr same)))
        (λ there. inl there)
        (Contains-cases entry.1 (lines_in rest) line (rw cut at left)))
        (λ done. inr (⊎_elim (λ fine. inl fine) (λ above. inr (lesser least entry.1.place line.place below above)) done))
        (but line c)

  -- all lines were looked at
  pub broken_least :
      (place : ℕ) (rest : List (ℕ × Line)) → rest ≡ [] → BrokenBut (Some place) rest → BreaksAt words lines place → IsLeast (BreaksAt words lines) place
  broken_least place rest none but breaks = (
    breaks,
    λ m other. ⊎_elim
        (λ left. absurd (Contains-nil other.0 (rw none at left)))
        (λ done. ⊎_elim (λ fine. absurd (other.4 (fine other.3))) (λ below. omega (arith, below, other.2)) done)
        (but other.0 other.1),
  )

  pub broken_nowhere : (rest : List (ℕ × Line)) → rest ≡ [] → BrokenBut None rest → AllComeOut words (equations_of lines)
  broken_nowhere rest none but equation listed =
      let line = line_of_equation lines equation listed in
      let P : Equation → Type 0 = λ e. IsComplete words e → ComesOut words e in
      let fine : P (equation_of line.0) = ⊎_elim
      (λ left. absurd (Contains-nil line.0 (rw none at left)))
      (λ done. ⊎_elim (λ fine. fine) (λ below. absurd below) done)
      (but line.0 line.1) in
      subst P (sym line.2) fine

  pub broken_done : (least : Option ℕ) (rest : List (ℕ × Line)) → rest ≡ [] → BrokenBut least rest → IfNone least (AllComeOut words (equations_of lines))
  broken_done None rest none but = broken_nowhere rest none but
  broken_done (Some place) rest none but = tt
