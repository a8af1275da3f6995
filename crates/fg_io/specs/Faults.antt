-- Counts of faults of the outside: this project's own rule.
use Rattle.std.specs.Prelude.{◌≡◌, ◌⊎◌, ℕ, ◌+◌, ◌-◌, ◌^◌, ◌≤◌, min, ⊤, Result, Ok, Err, List, [], ◌∷◌}
use Rattle.fg_io.specs.declared.fault.Fault.{Fault}
use Rattle.fg_io.specs.declared.fault.Fault.TheVariants.{Read, Write}

-- the last value of a count of 64 bits, at which it stands still
abbrev pub last_count : ℕ
last_count = 2 ^ 64 - 1

-- one fault was counted between these two counts, and no more: it rose by one, or it stands at its last value
abbrev pub CountsFault : ℕ → ℕ → Type 0
CountsFault before after = after ≡ min (before + 1) last_count

-- Of counts, each before a call and after it: one of them has counted a fault.
abbrev pub AnyCounts : List (ℕ × ℕ) → Type 0
AnyCounts [] = ⊥
AnyCounts (count ∷ []) = CountsFault count.0 count.1
AnyCounts (count ∷ more) = CountsFault count.0 count.1 ⊎ AnyCounts more

-- Each of them stands still.
abbrev pub AllStand : List (ℕ × ℕ) → Type 0
AllStand [] = ⊤
AllStand (count ∷ []) = count.1 ≡ count.0
AllStand (count ∷ more) = (count.1 ≡ count.0) × AllStand more

-- None of them falls.
abbrev pub NoneFalls : List (ℕ × ℕ) → Type 0
NoneFalls [] = ⊤
NoneFalls (count ∷ []) = count.0 ≤ count.1
NoneFalls (count ∷ more) = (count.0 ≤ count.1) × NoneFalls more

-- What a call has counted of what it reads from and of what it writes to. `Reads` and `Writes` say that it answers a fault of
-- reading, of writing. Where it does, a fault was counted there, and with every other answer none was.
pub record CountsFaults (Reads Writes : Type 0) (sources sinks : List (ℕ × ℕ)) : Type 0 where
  pub read : Reads → AnyCounts sources
  pub write : Writes → AnyCounts sinks
  pub no_read : (¬ Reads) → AllStand sources
  pub no_write : (¬ Writes) → AllStand sinks
  pub rise : NoneFalls sources
  pub sinks_rise : NoneFalls sinks

-- A result is this fault.
abbrev pub Answers : {A F : Type 0} → Result A F → F → Type 0
Answers (Ok _) fault = ⊥
Answers (Err answer) fault = answer ≡ fault

-- The same of a call that answers a `Fault` where it isn't Ok.
abbrev pub Counts : {A : Type 0} → Result A Fault → List (ℕ × ℕ) → List (ℕ × ℕ) → Type 0
Counts result sources sinks = CountsFaults (Answers result Read) (Answers result Write) sources sinks
