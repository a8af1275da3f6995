-- The buffer of a desk: the words at the 100 positions before the mark, and at those from the mark on.
use Rattle.std.specs.Prelude.{◌≡◌, ◌+◌, ◌<◌, ◌≤◌, ℕ, true, ◌&&◌, not, is_some, nat_lt, nat_le, Option, None, IsSome, if◌then◌else◌}
use Rattle.std.specs.List.{Contains}
use Rattle.std.specs.Option.{option_or}
use Rattle.std.specs.Ordering.{nat_cmp}
use Rattle.std.specs.FinMap.{get, empty, insert, remove}
use Rattle.std.specs.FinSet as set
use Rattle.fg_words.specs.declared.Word.{Word}
use Rattle.fg_shape.specs.Shape.{IsShape, position_limit}
use Rattle.fg_peel.specs.declared.Line.{Line}
use Rattle.fg_peel.specs.Equation.{slots}
use Rattle.fg_peel.specs.Slots.{equation_of}
use Rattle.fg_peel.specs.Words.{Words, words_around, kept_count, IsGreatest}

pub record BufferState : Type 0 where
  -- The first position that isn't played yet.
  pub mark : ℕ
  -- How many positions from the mark on the buffer has entries for.
  pub reach : ℕ
  -- The shown words at the 100 positions before the mark.
  pub kept : Words
  -- The received words at the mark and past it.
  pub media : Words
  -- Words that equations gave there and that were published.
  pub solved : Words
  -- Words found there before their play. A desk doesn't tell them.
  pub cached : Words
  -- The kept positions whose words stand alone, so that no share of them is there.
  pub bare : set.FinSet nat_cmp
  -- The kept positions whose words were not received.
  pub repaired : set.FinSet nat_cmp

-- The buffer at first.
abbrev pub opened_buffer : ℕ → BufferState
opened_buffer reach = record {
  mark = 0;
  reach = reach;
  kept = empty;
  media = empty;
  solved = empty;
  cached = empty;
  bare = set.empty;
  repaired = set.empty;
}

-- The words of the buffer that are kept or were received.
abbrev pub buffer_received : BufferState → ℕ → Option Word
buffer_received buffer = words_around buffer.mark buffer.kept buffer.media

-- Those that a desk tells: with those that were solved.
abbrev pub buffer_known : BufferState → ℕ → Option Word
buffer_known buffer position = option_or (buffer_received buffer position) (get buffer.solved position)

-- All words of the buffer: with those found before their play.
abbrev pub buffer_words : BufferState → ℕ → Option Word
buffer_words buffer position = option_or (buffer_known buffer position) (get buffer.cached position)

-- Those of them that a desk tells and that have shares.
abbrev pub buffer_shared : BufferState → ℕ → Option Word
buffer_shared buffer position = (if set.contains buffer.bare position then None else buffer_known buffer position)

-- What is true of every buffer: where its words lie, that none is found twice, and that bare and repaired positions are
-- kept. Its positions are below 2^62.
pub record IsBuffer (buffer : BufferState) : Type 0 where
  pub limit : buffer.mark + buffer.reach + kept_count ≤ position_limit
  pub kept : (position : ℕ) → IsSome (get buffer.kept position) → (position < buffer.mark) × (buffer.mark ≤ position + kept_count)
  pub media : (position : ℕ) → IsSome (get buffer.media position) → (buffer.mark ≤ position) × (position < buffer.mark + buffer.reach)
  pub solved : (position : ℕ) → IsSome (get buffer.solved position) → (buffer.mark ≤ position) × (position < buffer.mark + buffer.reach)
  pub cached : (position : ℕ) → IsSome (get buffer.cached position) → (buffer.mark ≤ position) × (position < buffer.mark + buffer.reach)
  pub solved_once : (position : ℕ) → IsSome (get buffer.solved position) → get buffer.media position ≡ None
  pub once : (position : ℕ) → IsSome (get buffer.cached position) → buffer_known buffer position ≡ None
  pub bare : (position : ℕ) → set.contains buffer.bare position ≡ true → IsSome (get buffer.kept position)
  pub repaired : (position : ℕ) → set.contains buffer.repaired position ≡ true → IsSome (get buffer.kept position)

-- The buffer after a word was received.
abbrev pub receives : BufferState → ℕ → Word → BufferState
receives buffer position word = record buffer {
  media = insert buffer.media position word;
  solved = remove buffer.solved position;
  cached = remove buffer.cached position;
}

-- The buffer after a word was published.
abbrev pub publishes : BufferState → ℕ → Word → BufferState
publishes buffer position word =
    record buffer { solved = insert buffer.solved position word; cached = remove buffer.cached position }

-- A line can be asked of the buffer: its slots lie below the buffer's end, and those below the mark have words.
pub record LiesIn (buffer : BufferState) (line : Line) : Type 0 where
  pub shape : IsShape line.shape.offset line.shape.na
  pub near :
      (position : ℕ) → Contains (slots (equation_of line)) position → position < buffer.mark + buffer.reach
  pub based :
      (position : ℕ) → Contains (slots (equation_of line)) position → position < buffer.mark
      → IsSome (get buffer.kept position)

-- The greatest position with a word, at the mark or past it.
abbrev pub IsHighestWord : BufferState → ℕ → Type 0
IsHighestWord buffer position = (buffer.mark ≤ position) × IsGreatest (λ other. IsSome (buffer_words buffer other)) position

-- The mark has moved on by `count` positions: the words of the buffer at the 100 positions before it are kept, and what was
-- received and found is left at the mark and past it.
pub record Advances (count : ℕ) (old new : BufferState) : Type 0 where
  pub mark : new.mark ≡ old.mark + count
  pub reach : new.reach ≡ old.reach
  pub kept :
      (position : ℕ) → get new.kept position
      ≡ (if nat_lt position new.mark && nat_le new.mark (position + kept_count) then buffer_words old position else None)
  pub media :
      (position : ℕ) → get new.media position ≡ (if nat_lt position new.mark then None else get old.media position)
  pub solved :
      (position : ℕ) → get new.solved position ≡ (if nat_lt position new.mark then None else get old.solved position)
  pub cached :
      (position : ℕ) → get new.cached position ≡ (if nat_lt position new.mark then None else get old.cached position)
  -- Kept positions are bare where they were before, and those that were played now where no word was received or solved.
  pub bare :
      (position : ℕ) → set.contains new.bare position
      ≡ (is_some (get new.kept position)
      && (if nat_lt position old.mark then set.contains old.bare position
      else (not (is_some (get old.media position)) && not (is_some (get old.solved position)))))
  -- They are repaired where they were before, and those that were played now where no word was received.
  pub repaired :
      (position : ℕ) → set.contains new.repaired position
      ≡ (is_some (get new.kept position)
      && (if nat_lt position old.mark then set.contains old.repaired position
      else not (is_some (get old.media position))))
