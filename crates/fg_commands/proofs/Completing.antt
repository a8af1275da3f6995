-- An answer that is no fault's, or was not counted, is the one that is due.
use Rattle.std.proofs.Common.{◌≡◌, ◌⊎◌, inl, inr, ℕ, List, Option, None, Some, IfSome, refl}
use Rattle.fg_commands.specs.declared.ended.Why.{Why}
use Rattle.fg_commands.specs.declared.ended.Why.TheVariants.{Done, Words, ReadFault, WriteFault, NotTrace, Cut, TooLong, Memory, NotTransport, NotCapture, Unfit, Unproved, NotCase}
use Rattle.fg_commands.specs.Ended.{IsFault}

complete_of : (R W L : Type 0) (answer due : Why) → IsFault answer ⊎ (answer ≡ due) → (answer ≡ ReadFault → R) → (answer ≡ WriteFault → W ⊎ L)
    → (R → ⊥) → (W → ⊥) → (L → ⊥) → (answer ≡ due) ⊎ (answer ≡ Memory)
complete_of R W L answer due (inr same) read write no_read no_write no_lane = inl same
complete_of R W L Done due (inl fault) read write no_read no_write no_lane = absurd fault
complete_of R W L (Words f) due (inl fault) read write no_read no_write no_lane = absurd fault
complete_of R W L ReadFault due (inl fault) read write no_read no_write no_lane = absurd (no_read (read refl))
complete_of R W L WriteFault due (inl fault) read write no_read no_write no_lane =
    absurd (elim (write refl) as (λ _. ⊥) [ inl w ↦ no_write w | inr l ↦ no_lane l ])
complete_of R W L (NotTrace n) due (inl fault) read write no_read no_write no_lane = absurd fault
complete_of R W L (Cut n) due (inl fault) read write no_read no_write no_lane = absurd fault
complete_of R W L (TooLong n) due (inl fault) read write no_read no_write no_lane = absurd fault
complete_of R W L Memory due (inl fault) read write no_read no_write no_lane = inr refl
complete_of R W L (NotTransport f) due (inl fault) read write no_read no_write no_lane = absurd fault
complete_of R W L (NotCapture n) due (inl fault) read write no_read no_write no_lane = absurd fault
complete_of R W L (Unfit k) due (inl fault) read write no_read no_write no_lane = absurd fault
complete_of R W L (Unproved i) due (inl fault) read write no_read no_write no_lane = absurd fault
complete_of R W L (NotCase n) due (inl fault) read write no_read no_write no_lane = absurd fault

pub complete_told : (R W L : Type 0) (answer : Why) (input : Option (List ℕ)) (P : List ℕ → Why → Type 0)
    → IfSome input (λ bytes. (due : Why) → P bytes due → IsFault answer ⊎ (answer ≡ due))
    → (answer ≡ ReadFault → R) → (answer ≡ WriteFault → W ⊎ L)
    → IfSome input (λ bytes. (due : Why) → P bytes due → (R → ⊥) → (W → ⊥) → (L → ⊥) → (answer ≡ due) ⊎ (answer ≡ Memory))
complete_told R W L answer None P x read write = tt
complete_told R W L answer (Some bytes) P x read write = λ due h. complete_of R W L answer due (x due h) read write
