-- Way is made for a word in a desk's buffer.
use Rattle.std.proofs.Common.{[], ◌≡◌, ◌≢◌, ℕ, Bool, true, false, Option, Some, None, sym, ap, subst, ◌∙◌}
use Rattle.std.proofs.lemmas.Option.{none-some, same_Some}
use Rattle.std.specs.FinMap.{get, empty, get-empty}
use Rattle.std.specs.Ordering.{nat_cmp}
use Rattle.fg_words.specs.declared.Word.{Word}
use Rattle.fg_peel.specs.Equation.{AreMedia, Keeps, IsComplete}
use Rattle.fg_peel.proofs.Options.{or_second, some_and, none_has_no_value}
use Rattle.fg_playout.specs.State.{Live, Words}
use Rattle.fg_desk.specs.Inside.{Parts, AreSound, SettledComeOut}
use Rattle.fg_buffer.specs.PlayoutBuffer.{BufferState, buffer_received, buffer_known, buffer_words}
use Rattle.fg_buffer.specs.LiveEquations.{LiveState, Reopens}
use Rattle.fg_desk.specs.Storage.{MakesWay, without_cached, without_found}
use Rattle.fg_desk.proofs.DeskPlays.{ComeByPeeling, StandBeside, sound_from}
use Rattle.fg_desk.proofs.DeskWords.{known_unsolved, words_uncached, words_unfound, words_keep, words_keep_received}
use Rattle.fg_desk.proofs.SettledWords.{settled_back}

-- Where nothing is solved, nothing is withdrawn.
pub nothing_withdrawn :
    (answer : Bool) (position : ℕ) (word : Word) (buffer new : BufferState) (lines left : LiveState)
    → MakesWay answer position word buffer new lines left → get buffer.solved position ≡ None
    → MakesWay false position word buffer new lines left
nothing_withdrawn true position word buffer new lines left way none =
    let s = some_and (get buffer.solved position) (λ other. other ≢ word) way.contradicts in
    absurd (none-some s.0 (sym none ∙ s.1))
nothing_withdrawn false position word buffer new lines left way none = way

-- The desk with another buffer and other lines.
abbrev pub with_buffer : Parts → BufferState → LiveState → Parts
with_buffer parts buffer lines = record parts { buffer = buffer; lines = lines }

-- The same buffer with other solved and found words.
abbrev pub with_others : Parts → Words → Words → BufferState
with_others parts solved cached = record parts.buffer { solved = solved; cached = cached }

-- A desk with fewer solved and found words is sound, where those equations are opened that are no more complete.
module _
    (parts : Parts) (sound : AreSound parts) (solved cached : Words) (left : LiveState)
    (reopens : Reopens (buffer_words (with_others parts solved cached)) parts.lines left)
    (fewer : Keeps (buffer_words (with_others parts solved cached)) (buffer_words parts.buffer)) where
  -- The equations are the same.
  abbrev lines_then : LiveState
  lines_then = record { live = parts.lines.live; settled = left.settled }

  lines_are : lines_then ≡ left
  lines_are = let e = reopens.live in λ i. record { live = sym e i; settled = left.settled }

  still_settled : SettledComeOut (with_buffer parts (with_others parts solved cached) lines_then)
  still_settled serial live is settled =
      let r = (reopens.settled serial).0 settled in
      let same : r.1.0 ≡ live = same_Some r.1.0 live (sym r.1.1 ∙ is) in
      let complete : IsComplete (buffer_words (with_others parts solved cached)) live.equation =
      subst (λ (l : Live). IsComplete (buffer_words (with_others parts solved cached)) l.equation) same r.1.2 in
      settled_back (buffer_words (with_others parts solved cached)) (buffer_words parts.buffer) live.equation fewer complete
      (sound.settled serial live is r.0)

  pub sound_reopened :
      AreMedia (get cached) → ComeByPeeling parts (buffer_known (with_others parts solved cached))
      → ComeByPeeling parts (buffer_words (with_others parts solved cached))
      → StandBeside (with_buffer parts (with_others parts solved cached) parts.lines)
      → AreSound (with_buffer parts (with_others parts solved cached) left)
  sound_reopened media known words beside =
      subst (λ (l : LiveState). AreSound (with_buffer parts (with_others parts solved cached) l)) lines_are
      (sound_from (with_buffer parts (with_others parts solved cached) lines_then) sound.limits sound.facts media known words
      still_settled sound.rooms beside)

module _ (parts : Parts) (sound : AreSound parts) where
  no_media : AreMedia (get (empty {X = Word} {R = nat_cmp}))
  no_media q word is = absurd (none-some word (sym (get-empty {X = Word} nat_cmp q) ∙ is))

  -- Without the words that were found and not told.
  pub sound_without_cached :
      (left : LiveState) → Reopens (buffer_words (without_cached parts.buffer)) parts.lines left
      → AreSound (with_buffer parts (without_cached parts.buffer) left)
  sound_without_cached left reopens =
      let same : buffer_words (without_cached parts.buffer) ≡ buffer_known parts.buffer =
      words_uncached (without_cached parts.buffer) (get-empty nat_cmp) in
      sound_reopened parts sound parts.buffer.solved empty left reopens
      (λ q word is. words_keep parts.buffer q word (sym (ap (λ (f : ℕ → Option Word). f q) same) ∙ is))
      no_media sound.solved (subst (ComeByPeeling parts) (sym same) sound.solved) sound.beside

  -- And without those that were solved.
  pub sound_without_all :
      (left : LiveState) → Reopens (buffer_words (without_found parts.buffer)) parts.lines left
      → AreSound (with_buffer parts (without_found parts.buffer) left)
  sound_without_all left reopens =
      let known : buffer_known (without_found parts.buffer) ≡ buffer_received parts.buffer =
      known_unsolved (without_found parts.buffer) (get-empty nat_cmp) in
      let same : buffer_words (without_found parts.buffer) ≡ buffer_received parts.buffer =
      words_unfound (without_found parts.buffer) (get-empty nat_cmp) (get-empty nat_cmp) in
      sound_reopened parts sound empty empty left reopens
      (λ q word is. words_keep_received parts.buffer q word (sym (ap (λ (f : ℕ → Option Word). f q) same) ∙ is))
      no_media ([], tt, known) ([], tt, same)
      (λ q some. absurd (none_has_no_value (get (empty {X = Word} {R = nat_cmp}) q) (get-empty nat_cmp q) some))

-- No other word is at the position.
abbrev pub Agrees : ℕ → Word → (ℕ → Option Word) → Type 0
Agrees position word words = (found : Word) → words position ≡ Some found → found ≡ word

pub agrees_uncached :
    (buffer : BufferState) (position : ℕ) (word : Word) → buffer_known buffer position ≡ None
    → Agrees position word (buffer_words (without_cached buffer))
agrees_uncached buffer position word unknown found is =
    absurd (none-some found (sym (or_second (buffer_known buffer position) (get (empty {X = Word} {R = nat_cmp}) position) unknown
    ∙ get-empty nat_cmp position) ∙ is))

pub agrees_unfound :
    (buffer : BufferState) (position : ℕ) (word : Word) → buffer_received buffer position ≡ None
    → Agrees position word (buffer_words (without_found buffer))
agrees_unfound buffer position word unknown found is =
    absurd (none-some found (sym (ap (λ (f : ℕ → Option Word). f position)
    (words_unfound (without_found buffer) (get-empty nat_cmp) (get-empty nat_cmp)) ∙ unknown) ∙ is))
