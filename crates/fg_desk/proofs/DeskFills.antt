-- A desk that takes a solved word, or takes it that an equation comes out, is sound.
use Rattle.std.proofs.Common.{◌≡◌, ◌+◌, ◌<◌, ◌≤◌, ℕ, false, Option, Some, None, IsSome, sym, ap, subst, ◌∙◌, ⊎_elim}
use Rattle.std.proofs.lemmas.Bool.{cases_lt, cases_eq}
use Rattle.std.proofs.lemmas.Option.{none-some, same_Some}
use Rattle.std.specs.FinMap.{FinMap, get, insert, remove}
use Rattle.std.specs.Option.{option_or}
use Rattle.std.specs.Ordering.{nat_cmp}
use Rattle.fg_words.specs.declared.Word.{Word}
use Rattle.fg_words.specs.Word.{HasRoom, word_xor}
use Rattle.fg_words.specs.Laws.{XorAssociates, XorCommutes, XorHasZero, XorUndoesItself}
use Rattle.fg_peel.specs.declared.span.Missing.TheVariants.{One}
use Rattle.fg_peel.specs.Equation.{AreMedia, IsSettled, slots, others}
use Rattle.fg_peel.specs.Peeling.{Step, given_word}
use Rattle.fg_peel.specs.Slots.{IsMissing}
use Rattle.fg_peel.specs.Laws.{PeelingsAppend}
use Rattle.fg_peel.proofs.Lists.{others-element}
use Rattle.fg_peel.proofs.Sums.{sum_at-agree}
use Rattle.fg_peel.proofs.Options.{or_second, none_or_some, none_has_no_value, value_of, has_value}
use Rattle.fg_peel.proofs.Maps.{inserted, beside_inserted, removed, beside_removed}
use Rattle.fg_playout.specs.State.{State, Live, known, live_equations}
use Rattle.fg_desk.specs.Contents.{Contents, IsLiveAt, CanFill, filled}
use Rattle.fg_playout.specs.Facts.{Holds}
use Rattle.fg_desk.specs.Inside.{Parts, AreSound, SettledComeOut, state_of, contents_of}
use Rattle.fg_buffer.specs.PlayoutBuffer.{BufferState, buffer_received, buffer_known, buffer_words, publishes}
use Rattle.fg_buffer.specs.LiveEquations.{LiveState, SettlesAt, Reopens}
use Rattle.fg_desk.specs.Storage.{MakesWay, without_cached}
use Rattle.fg_desk.proofs.DeskOneWord.{IsWith, with_removed, words_stay, same_words, peeled_with_step, settled_by_word}
use Rattle.fg_desk.proofs.DeskPlays.{ComeByPeeling, StandBeside, sound_from}
use Rattle.fg_desk.proofs.DeskRecovers.{are_in_buffer}
use Rattle.fg_desk.proofs.DeskWays.{Agrees, with_buffer, sound_without_cached, agrees_uncached}
use Rattle.fg_desk.proofs.DeskWords.{or_neither, words_keep, received_ahead}
use Rattle.fg_playout.proofs.Equations.{live_at}
use Rattle.fg_playout.proofs.Orderly.{orderly_from_holds, known_base}
use Rattle.fg_desk.proofs.SettledWords.{settled_keeps}

-- What is asked of a desk, of what it is seen as.
pub fills_here :
    (seen now : Contents) (place slot : ℕ) (word : Word) → seen ≡ now
    → IsLiveAt now.state place (λ equation. CanFill now equation slot word)
    → IsLiveAt seen.state place (λ equation. CanFill seen equation slot word)
fills_here seen now place slot word is at =
    subst (λ (s : Contents). IsLiveAt s.state place (λ equation. CanFill s equation slot word)) (sym is) at

-- The laws of the XOR of words.
pub record XorIsGroup : Type 0 where
  pub commutes : XorCommutes
  pub associates : XorAssociates
  pub has_zero : XorHasZero
  pub undoes : XorUndoesItself

-- A place has one live equation.
one_at_place :
    (desk : State) → Holds desk → (serial serial' : ℕ) (one other : Live) → get desk.equations serial ≡ Some one
    → get desk.equations serial' ≡ Some other → one.place ≡ other.place → other ≡ one
one_at_place desk holds serial serial' one other is is' same = ⊎_elim
    (λ here. same_Some other one (sym is' ∙ ap (get desk.equations) (sym here) ∙ is))
    (λ apart. absurd ((holds.apart serial serial' one other is is' apart).places same))
    (cases_eq serial serial')

-- A desk is sound where the equation at a place is settled, if it comes out in the buffer's words.
module _
    (parts : Parts) (buffer : BufferState) (sound : AreSound (with_buffer parts buffer parts.lines)) (serial : ℕ) (live : Live)
    (is : get parts.lines.live serial ≡ Some live) (comes_out : IsSettled (buffer_words buffer) live.equation)
    (left : LiveState) (settles : SettlesAt live.place parts.lines left) where
  abbrev lines_then : LiveState
  lines_then = record { live = parts.lines.live; settled = left.settled }

  lines_are : lines_then ≡ left
  lines_are = let e = settles.live in λ i. record { live = sym e i; settled = left.settled }

  all_settled : SettledComeOut (with_buffer parts buffer lines_then)
  all_settled serial' other is' settled = ⊎_elim
      (λ before. sound.settled serial' other is' before)
      (λ now.
      let same : now.0 ≡ other = same_Some now.0 other (sym now.1 ∙ is') in
      let place : live.place ≡ other.place = sym now.2 ∙ ap (λ (l : Live). l.place) same in
      subst (λ (l : Live). IsSettled (buffer_words buffer) l.equation)
      (sym (one_at_place (state_of (with_buffer parts buffer parts.lines)) sound.facts serial serial' live other is is' place)) comes_out)
      ((settles.settled serial').0 settled)

  pub sound_settled : AreSound (with_buffer parts buffer left)
  sound_settled =
      subst (λ (l : LiveState). AreSound (with_buffer parts buffer l)) lines_are
      (sound_from (with_buffer parts buffer lines_then) sound.limits sound.facts sound.cached sound.solved sound.peeled
      all_settled sound.rooms sound.beside)

-- What is vouched for in the known words comes out in the buffer's.
pub vouched_sound :
    (parts : Parts) → AreSound parts → (serial : ℕ) (live : Live) → get parts.lines.live serial ≡ Some live
    → IsSettled (buffer_known parts.buffer) live.equation → (left : LiveState) → SettlesAt live.place parts.lines left
    → AreSound (with_buffer parts parts.buffer left)
vouched_sound parts sound serial live is comes_out left settles =
    sound_settled parts parts.buffer sound serial live is
    (settled_keeps (buffer_known parts.buffer) (buffer_words parts.buffer) live.equation (words_keep parts.buffer) comes_out) left settles

-- A word that a live equation gives is put at its one slot without a known one, where no other word was found.
module _
    (parts : Parts) (sound : AreSound parts) (serial : ℕ) (live : Live) (is : get parts.lines.live serial ≡ Some live)
    (slot : ℕ) (missing : IsMissing (buffer_known parts.buffer) live.equation (One slot)) where
  received_none : buffer_received parts.buffer slot ≡ None
  received_none = (or_neither (buffer_received parts.buffer slot) (get parts.buffer.solved slot) missing.1).0

  pub slot_unsolved : get parts.buffer.solved slot ≡ None
  slot_unsolved = (or_neither (buffer_received parts.buffer slot) (get parts.buffer.solved slot) missing.1).1

  pub slot_ahead : parts.buffer.mark ≤ slot
  slot_ahead = ⊎_elim
      (λ below.
      absurd (none_has_no_value (known (state_of parts) slot) received_none
      (known_base (state_of parts) (orderly_from_holds (state_of parts) sound.facts) live.equation
      (live_at (state_of parts) serial live is) slot missing.0 below)))
      (λ ahead. ahead)
      (cases_lt slot parts.buffer.mark)

  pub slot_near : slot < parts.buffer.mark + parts.buffer.reach
  slot_near = (are_in_buffer parts sound serial live is).near slot missing.0

  pub slot_no_media : get parts.buffer.media slot ≡ None
  slot_no_media = sym (received_ahead parts.buffer slot slot_ahead) ∙ received_none

  module _
      (word : Word) (word_is : word ≡ given_word (buffer_known parts.buffer) (record { equation = live.equation; position = slot }))
      (room : HasRoom word) (agrees : Agrees slot word (buffer_words parts.buffer)) (append : PeelingsAppend) where
    abbrev step : Step
    step = record { equation = live.equation; position = slot }

    abbrev buffer_then : BufferState
    buffer_then = publishes parts.buffer slot word

    known_is : IsWith slot word (buffer_known parts.buffer) (buffer_known buffer_then)
    known_is = record {
      here = λ q here.
          (or_second (buffer_received parts.buffer q) (get (insert parts.buffer.solved slot word) q)
          (ap (buffer_received parts.buffer) here ∙ received_none)
          ∙ inserted parts.buffer.solved slot word q here);
      beside = λ q beside. ap (option_or (buffer_received parts.buffer q)) (beside_inserted parts.buffer.solved slot word q beside);
    }

    words_are : IsWith slot word (buffer_words parts.buffer) (buffer_words buffer_then)
    words_are = with_removed slot word (buffer_known parts.buffer) (buffer_known buffer_then) parts.buffer.cached known_is

    solved_then : ComeByPeeling parts (buffer_known buffer_then)
    solved_then =
        peeled_with_step append (live_equations (state_of parts)) (known (state_of parts)) (buffer_known parts.buffer) (buffer_known buffer_then)
        step
        (record {
          listed = live_at (state_of parts) serial live is;
          slot = missing.0;
          unknown = missing.1;
          others_known = missing.2;
        })
        (subst (λ (w : Word). IsWith slot w (buffer_known parts.buffer) (buffer_known buffer_then)) word_is known_is) sound.solved

    -- All words give the same word there.
    word_of_all : word ≡ given_word (buffer_words parts.buffer) step
    word_of_all =
        word_is
        ∙ ap (word_xor live.equation.parity)
        (sum_at-agree (buffer_known parts.buffer) (buffer_words parts.buffer) (others slot (slots live.equation))
        (λ q c.
        let e = others-element slot (slots live.equation) q c in
        let v = value_of (buffer_known parts.buffer q) (missing.2 q e.0 e.1) in
        v.1 ∙ sym (words_keep parts.buffer q v.0 v.1)))

    peeled_then : ComeByPeeling parts (buffer_words buffer_then)
    peeled_then = ⊎_elim
        (λ none.
        peeled_with_step append (live_equations (state_of parts)) (known (state_of parts)) (buffer_words parts.buffer)
        (buffer_words buffer_then) step
        (record {
          listed = live_at (state_of parts) serial live is;
          slot = missing.0;
          unknown = none;
          others_known = λ q c n.
              (let v = value_of (buffer_known parts.buffer q) (missing.2 q c n) in
              has_value (buffer_words parts.buffer q) v.0 (words_keep parts.buffer q v.0 v.1));
        })
        (subst (λ (w : Word). IsWith slot w (buffer_words parts.buffer) (buffer_words buffer_then)) word_of_all words_are) sound.peeled)
        (λ some.
        subst (ComeByPeeling parts)
        (sym (same_words slot word (buffer_words parts.buffer) (buffer_words buffer_then) words_are agrees
        (some.1 ∙ ap Some (agrees some.0 some.1)))) sound.peeled)
        (none_or_some (buffer_words parts.buffer slot))

    media_then : AreMedia (get (remove parts.buffer.cached slot))
    media_then q found at = ⊎_elim
        (λ here. absurd (none-some found (sym (removed parts.buffer.cached slot q here) ∙ at)))
        (λ beside. sound.cached q found (sym (beside_removed parts.buffer.cached slot q beside) ∙ at))
        (cases_eq q slot)

    beside_then : StandBeside (with_buffer parts buffer_then parts.lines)
    beside_then q some = ⊎_elim
        (λ here. (
          subst (λ (p : ℕ). parts.buffer.mark ≤ p) (sym here) slot_ahead,
          ap (get parts.buffer.media) here ∙ slot_no_media,
        ))
        (λ beside.
        sound.beside q (subst (λ (o : Option Word). IsSome o) (beside_inserted parts.buffer.solved slot word q beside) some))
        (cases_eq q slot)

    sound_then : AreSound (with_buffer parts buffer_then parts.lines)
    sound_then =
        sound_from (with_buffer parts buffer_then parts.lines) sound.limits sound.facts media_then solved_then peeled_then
        (λ serial' other is' settled.
        settled_keeps (buffer_words parts.buffer) (buffer_words buffer_then) other.equation
        (words_stay slot word (buffer_words parts.buffer) (buffer_words buffer_then) words_are agrees)
        (sound.settled serial' other is' settled))
        sound.rooms beside_then

    pub published_sound :
        XorIsGroup → (left : LiveState) → SettlesAt live.place parts.lines left → AreSound (with_buffer parts buffer_then left)
    published_sound group left settles =
        sound_settled parts buffer_then sound_then serial live is
        (settled_keeps (buffer_known buffer_then) (buffer_words buffer_then) live.equation (words_keep buffer_then)
        (settled_by_word live.equation slot word (buffer_known parts.buffer) (buffer_known buffer_then)
        (sound.facts.live serial live is).shape.some_offset missing word_is room (sound.rooms serial live is) known_is
        group.commutes group.associates group.has_zero group.undoes))
        left settles

-- What the call that puts the word there asks.
pub record CanPut (parts : Parts) (slot : ℕ) : Type 0 where
  pub ahead : parts.buffer.mark ≤ slot
  pub near : slot < parts.buffer.mark + parts.buffer.reach
  pub none : get parts.buffer.media slot ≡ None
  pub unsolved : get parts.buffer.solved slot ≡ None

pub can_put :
    (parts : Parts) → AreSound parts → (now : Contents) (place slot : ℕ) (word : Word) → contents_of parts ≡ now
    → IsLiveAt now.state place (λ equation. CanFill now equation slot word) → CanPut parts slot
can_put parts sound now place slot word is at =
    let a = fills_here (contents_of parts) now place slot word is at in
    record {
      ahead = slot_ahead parts sound a.0 a.1 a.2 slot a.4.missing;
      near = slot_near parts sound a.0 a.1 a.2 slot a.4.missing;
      none = slot_no_media parts sound a.0 a.1 a.2 slot a.4.missing;
      unsolved = slot_unsolved parts sound a.0 a.1 a.2 slot a.4.missing;
    }

-- So it is where way is made for the word.
module _
    (parts : Parts) (sound : AreSound parts) (serial : ℕ) (live : Live) (is : get parts.lines.live serial ≡ Some live)
    (slot : ℕ) (missing : IsMissing (buffer_known parts.buffer) live.equation (One slot)) (word : Word)
    (between : BufferState) (opened left : LiveState)
    (way : MakesWay false slot word parts.buffer between parts.lines opened) (settles : SettlesAt live.place opened left) where
  pub filled_sound :
      word ≡ given_word (buffer_known parts.buffer) (record { equation = live.equation; position = slot }) → HasRoom word
      → PeelingsAppend → XorIsGroup → AreSound (with_buffer parts (publishes between slot word) left)
  filled_sound word_is room append group = ⊎_elim
      (λ same.
      subst (λ (r : BufferState). AreSound (with_buffer parts (publishes r slot word) left)) (sym same.buffer_is)
      (published_sound parts sound serial live is slot missing word word_is room same.agrees append group left
      (subst (λ (l : LiveState). SettlesAt live.place l left) same.lines_are settles)))
      (λ anew.
      let reopens : Reopens (buffer_words (without_cached parts.buffer)) parts.lines opened =
      subst (λ (r : BufferState). Reopens (buffer_words r) parts.lines opened) anew.buffer_is anew.lines_are in
      subst (λ (r : BufferState). AreSound (with_buffer parts (publishes r slot word) left)) (sym anew.buffer_is)
      (published_sound (with_buffer parts (without_cached parts.buffer) opened) (sound_without_cached parts sound opened reopens)
      serial live (ap (λ (m : FinMap nat_cmp Live). get m serial) reopens.live ∙ is) slot missing word word_is room
      (agrees_uncached parts.buffer slot word anew.unknown) append group left settles))
      way

  -- And nothing else of the desk changes.
  pub filled_contents : contents_of (with_buffer parts (publishes between slot word) left) ≡ filled (contents_of parts) slot word
  filled_contents = ⊎_elim
      (λ same.
      ap (λ (r : BufferState). contents_of (with_buffer parts (publishes r slot word) left)) same.buffer_is
      ∙ ap (λ (m : FinMap nat_cmp Live). contents_of (with_buffer parts (publishes parts.buffer slot word) (record left { live = m })))
      (settles.live ∙ ap (λ (l : LiveState). l.live) same.lines_are))
      (λ anew.
      ap (λ (r : BufferState). contents_of (with_buffer parts (publishes r slot word) left)) anew.buffer_is
      ∙ ap (λ (m : FinMap nat_cmp Live). contents_of (with_buffer parts (publishes parts.buffer slot word) (record left { live = m })))
      (settles.live ∙ anew.lines_are.live))
      way
