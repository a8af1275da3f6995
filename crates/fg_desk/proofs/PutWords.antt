-- The words of a buffer in which one more stands.
use Rattle.std.proofs.Common.{◌≡◌, ◌≢◌, ◌≤◌, ℕ, cond, nat_lt, Option, Some, None, IsSome, refl, ◌∙◌}
use Rattle.std.specs.FinMap.{get, insert}
use Rattle.std.specs.Option.{option_or}
use Rattle.fg_words.specs.declared.Word.{Word}
use Rattle.fg_peel.proofs.Maps.{inserted, beside_inserted, beside_removed}
use Rattle.fg_peel.proofs.Options.{has_value, or_first}
use Rattle.fg_buffer.specs.PlayoutBuffer.{BufferState, buffer_received, buffer_known, buffer_words, receives, publishes}
use Rattle.fg_desk.proofs.DeskWords.{received_ahead}

module _ (buffer : BufferState) (position : ℕ) (word : Word) where
  pub received_some : buffer.mark ≤ position → IsSome (buffer_words (receives buffer position word) position)
  received_some ahead =
      let there : buffer_received (receives buffer position word) position ≡ Some word =
      received_ahead (receives buffer position word) position ahead ∙ inserted buffer.media position word position refl in
      has_value (buffer_words (receives buffer position word) position) word
      (or_first (buffer_known (receives buffer position word) position) (get (receives buffer position word).cached position) word
      (or_first (buffer_received (receives buffer position word) position) (get (receives buffer position word).solved position) word there))

  pub received_beside : (q : ℕ) → q ≢ position → buffer_words (receives buffer position word) q ≡ buffer_words buffer q
  received_beside q beside =
      let a = beside_inserted buffer.media position word q beside in
      let b = beside_removed buffer.solved position q beside in
      let d = beside_removed buffer.cached position q beside in
      λ i. option_or (option_or (cond (nat_lt q buffer.mark) (get buffer.kept q) (a i)) (b i)) (d i)

  either_some : (one other : Option Word) (found : Word) → other ≡ Some found → IsSome (option_or one other)
  either_some one other found is = has_some one
    where
      has_some : (o : Option Word) → IsSome (option_or o other)
      has_some (Some w) = refl
      has_some None = has_value other found is

  first_some : (one other : Option Word) → IsSome one → IsSome (option_or one other)
  first_some (Some w) other some = refl
  first_some None other some = absurd (cc)

  pub published_some : IsSome (buffer_words (publishes buffer position word) position)
  published_some =
      first_some (buffer_known (publishes buffer position word) position) (get (publishes buffer position word).cached position)
      (either_some (buffer_received buffer position) (get (insert buffer.solved position word) position) word
      (inserted buffer.solved position word position refl))

  pub published_beside : (q : ℕ) → q ≢ position → buffer_words (publishes buffer position word) q ≡ buffer_words buffer q
  published_beside q beside =
      let b = beside_inserted buffer.solved position word q beside in
      let d = beside_removed buffer.cached position q beside in
      λ i. option_or (option_or (buffer_received buffer q) (b i)) (d i)
