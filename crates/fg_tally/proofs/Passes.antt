-- Passes that are made one after another.
use Rattle.std.proofs.Common.{◌≡◌, ◌+◌, ℕ, ap, ◌∙◌, arith}
use Rattle.fg_board.specs.Actors.{AdmitterState}
use Rattle.fg_tally.specs.Tally.{with_passes}

module _ (admitter : AdmitterState) where
  abbrev counted : ℕ → ℕ → AdmitterState
  counted made seated = record admitter { seat = record admitter.seat { made = made; seated = seated } }

  pub no_passes : with_passes admitter 0 ≡ admitter
  no_passes =
      let made : admitter.seat.made + 0 ≡ admitter.seat.made = omega arith in
      let seated : admitter.seat.seated + 0 ≡ admitter.seat.seated = omega arith in
      ap (λ (n : ℕ). counted n (admitter.seat.seated + 0)) made ∙ ap (counted admitter.seat.made) seated

  pub more_passes : (n : ℕ) → with_passes (with_passes admitter n) 1 ≡ with_passes admitter (n + 1)
  more_passes n =
      let made : admitter.seat.made + n + 1 ≡ admitter.seat.made + (n + 1) = omega arith in
      let seated : admitter.seat.seated + n + 1 ≡ admitter.seat.seated + (n + 1) = omega arith in
      ap (λ (m : ℕ). counted m (admitter.seat.seated + n + 1)) made ∙ ap (counted (admitter.seat.made + (n + 1))) seated
