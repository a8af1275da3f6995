-- What contracts see of a desk and of a tray.
use Rattle.std.specs.Prelude.{◌≡◌, ◌≢◌, ◌+◌, ◌&&◌, ℕ, not, is_some, List, map, nat_lt, Option, Some, None, IsSome, IsSomeAnd, MatchOption, if◌then◌else◌}
use Rattle.std.specs.List.{Contains, range_with_len}
use Rattle.std.specs.Option.{option_or}
use Rattle.std.specs.Ordering.{nat_cmp}
use Rattle.std.specs.FinMap as map
use Rattle.std.specs.FinMap.{get, insert, remove}
use Rattle.std.specs.FinSet.{FinSet, contains, empty}
use Rattle.fg_words.specs.declared.Word.{Word}
use Rattle.fg_shape.specs.Playout.{Playout}
use Rattle.fg_peel.specs.declared.span.Missing.TheVariants.{One}
use Rattle.fg_peel.specs.Equation.{Equation}
use Rattle.fg_peel.specs.Peeling.{ArePeeled, given_word}
use Rattle.fg_peel.specs.Slots.{IsMissing}
pub use Rattle.fg_playout.specs.Shown.{Holding, kept_shown}
use Rattle.fg_playout.specs.declared.reply.Reply.{Reply}
use Rattle.fg_playout.specs.declared.reply.Reply.TheVariants.{Admitted}
use Rattle.fg_playout.specs.declared.reply.Outcome.{Outcome}
use Rattle.fg_playout.specs.declared.reply.Outcome.TheVariants.{Repaired, Inconsistent}
use Rattle.fg_playout.specs.State.{State, Live, Words, known, live_equations, opening}
use Rattle.fg_playout.specs.Admission.{position_on}
use Rattle.fg_playout.specs.Play.{Shown}

-- A desk, with what was found and published between its plays.
pub record Contents : Type 0 where
  pub state : State
  -- Words that equations gave between plays, at the mark and past it.
  pub solved : Words
  -- The kept positions whose words were neither received nor solved when they were shown, so that no share of them is there.
  pub bare : FinSet nat_cmp
  -- The kept positions whose words were not received when they were shown.
  pub repaired : FinSet nat_cmp
  -- How often solved words were withdrawn.
  pub epoch : ℕ

-- A desk at first.
abbrev pub opened : Playout → Contents
opened playout =
    record { state = opening playout; solved = map.empty; bare = empty; repaired = empty; epoch = 0 }

-- The words known at positions: those kept and received, and those solved.
abbrev pub known_in : Contents → ℕ → Option Word
known_in desk position = option_or (known desk.state position) (get desk.solved position)

-- The shared word known at a position: none where no word is known, or where it stands alone.
abbrev pub shared_at : Contents → ℕ → Option Word
shared_at desk position = (if contains desk.bare position then None else known_in desk position)

-- What is solved comes from a peeling of the desk, and stands where no other word is known.
pub record AreSolved (desk : Contents) : Type 0 where
  pub peeled : ArePeeled (live_equations desk.state) (known desk.state) (known_in desk)
  pub beside : (position : ℕ) → IsSome (get desk.solved position) → known desk.state position ≡ None

-- A live equation gives the word at its one slot without a known one.
pub record CanFill (desk : Contents) (equation : Equation) (slot : ℕ) (word : Word) : Type 0 where
  pub live : Contains (live_equations desk.state) equation
  pub missing : IsMissing (known_in desk) equation (One slot)
  pub word_is : word ≡ given_word (known_in desk) (record { equation = equation; position = slot })

-- The desk with one more solved word.
abbrev pub filled : Contents → ℕ → Word → Contents
filled desk slot word = record desk { solved = insert desk.solved slot word }

-- An equation is live at this place, and this holds of it.
abbrev pub IsLiveAt : State → ℕ → (Equation → Type 0) → Type 0
IsLiveAt desk place P =
    (serial : ℕ) × (live : Live) × (get desk.equations serial ≡ Some live) × (live.place ≡ place) × P live.equation

-- Where an equation was admitted it is live under the next serial number, and this is its place. Else there is none.
abbrev pub IsPlaceAfter : State → Reply → Option ℕ → State → Type 0
IsPlaceAfter old reply place new =
    MatchOption place (reply ≢ Admitted) (λ place.
    (reply ≡ Admitted) × IsSomeAnd (get new.equations old.admitted) (λ live. live.place ≡ place))

-- A word comes for a position where another one was solved.
abbrev pub IsContradicted : Contents → ℕ → Word → Type 0
IsContradicted desk position word = IsSomeAnd (get desk.solved position) (λ other. other ≢ word)

-- What is solved after a word was received at a position. Where another one was solved there, all solved words are
-- withdrawn, and the epoch rises. Else the position is received and no more solved.
pub record GivesWay (old : Contents) (position : ℕ) (word : Word) (new : Contents) : Type 0 where
  pub withdrawn :
      IsContradicted old position word
      → new ≡ record old { state = new.state; solved = map.empty; epoch = old.epoch + 1 }
  pub agreed :
      ¬ IsContradicted old position word
      → new ≡ record old { state = new.state; solved = remove old.solved position }

-- What is solved after a media datagram that got this reply.
abbrev pub IsAfterArrival : Contents → ℕ → ℕ → Word → Reply → Contents → Type 0
IsAfterArrival old seq ssrc word Admitted new =
    IsSomeAnd (position_on old.state seq ssrc) (λ position. GivesWay old position word new)
IsAfterArrival old seq ssrc word _ new = new ≡ record old { state = new.state }

-- After a play those kept positions are repaired that were, and those played whose words were not received.
abbrev pub IsRepairedAfter : Contents → Contents → Type 0
IsRepairedAfter old new =
    (position : ℕ) → contains new.repaired position
    ≡ (is_some (get new.state.kept position)
    && (if nat_lt position old.state.mark then contains old.repaired position
    else not (is_some (get old.state.media position))))

-- And those are bare that were, and those played whose words were neither received nor solved.
abbrev pub IsBareAfter : Contents → Contents → Type 0
IsBareAfter old new =
    (position : ℕ) → contains new.bare position
    ≡ (is_some (get new.state.kept position)
    && (if nat_lt position old.state.mark then contains old.bare position
    else (not (is_some (get old.state.media position)) && not (is_some (get old.solved position)))))

-- After a repaired play the words solved at the new mark and past it stay so. An inconsistent one withdraws all.
abbrev pub IsSolvedAfter : Outcome → Contents → Contents → Type 0
IsSolvedAfter Repaired old new =
    (position : ℕ) → get new.solved position ≡ (if nat_lt position new.state.mark then None else get old.solved position)
IsSolvedAfter Inconsistent old new = new.solved ≡ map.empty

-- An inconsistent play raises the epoch.
abbrev pub epoch_after : ℕ → Outcome → ℕ
epoch_after epoch Repaired = epoch
epoch_after epoch Inconsistent = epoch + 1

-- What a play of this outcome makes of all that isn't the desk's state.
pub record ChangesInPlay (outcome : Outcome) (old new : Contents) : Type 0 where
  pub bare : IsBareAfter old new
  pub repaired : IsRepairedAfter old new
  pub solved : IsSolvedAfter outcome old new
  pub epoch : new.epoch ≡ epoch_after old.epoch outcome

-- What a desk keeps at `count` positions from a first one on. After a play it keeps what it showed.
abbrev pub kept_from : Contents → ℕ → ℕ → List Shown
kept_from desk first count = map (kept_shown (known desk.state) desk.repaired) (range_with_len first count)
