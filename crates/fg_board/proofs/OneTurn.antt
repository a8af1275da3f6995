-- What a turn of a pass carries on, and what it tells.
use Rattle.std.proofs.Common.{◌≡◌, ◌+◌, ◌++◌, ℕ, inl, true, false, List, [], ◌∷◌, map, Option, Some, None, refl, sym, ap, subst, ◌∙◌}
use Rattle.std.specs.Prelude.{IsSomeAnd}
use Rattle.std.proofs.lemmas.List.{map-append}
use Rattle.std.proofs.lemmas.List.Elements.{Contains-append_right}
use Rattle.std.specs.List.{All, Contains}
use Rattle.std.specs.FinMap.{get}
use mathlib.Core.List.{IsPrefix}
use Rattle.fg_shape.specs.Playout.{Playout}
use Rattle.fg_peel.specs.Equation.{Equation}
use Rattle.fg_peel.proofs.Lists.{Contains-here, Contains-there}
use Rattle.fg_playout.specs.State.{Live}
use Rattle.fg_turn.specs.Standing.{Standing}
use Rattle.fg_core.specs.Board.{BoardState, IsLive, IsHeld, Looks, Asks, look_of, equation_with}
use Rattle.fg_core.specs.Views.{Told, IsBorneOut, word_at, equation_is, seen_of, WasAnswered}
use Rattle.fg_core.specs.Core.{Call, Event, take, publish, vouch, give_back, look, offer, attest, IsOwned, CanDo, IsEvent, Tells, TellsOfLook}
use Rattle.fg_core.specs.Codes.{Entry, told_code, told_from, call_from, IsOwnedBy, GrowsFrom, ToldIsReadBack}
use Rattle.fg_core.specs.Laws.{EventsKeepOwned, EventsKeepTold, AnswersHold}
use Rattle.fg_core.specs.Steps.{CarriesOn, IsStep}
use Rattle.fg_board.specs.Actors.{TakesTurn, TakesNoTurn}
use Rattle.fg_board.specs.Deeds.{told_of, told_of_live, told_of_look, told_by, Follows}
use Rattle.fg_core.specs.declared.key.Key.{Key}
use Rattle.fg_core.specs.declared.fate.Look.{Look}
use Rattle.fg_core.specs.declared.fate.Look.TheVariants as looked
use Rattle.fg_core.specs.declared.fate.Asked.{Asked}
use Rattle.fg_core.specs.declared.fate.Asked.TheVariants as asked

-- What holds of an option's value.
pub some_and_weaker : {X : Type 0} (o : Option X) (P Q : X → Type 0) → ((x : X) → P x → Q x) → IsSomeAnd o P → IsSomeAnd o Q
some_and_weaker None P Q weaker is = absurd is
some_and_weaker (Some x) P Q weaker is = weaker x is

pub some_and_of : {X : Type 0} (o : Option X) (P : X → Type 0) (Q : Type 0) → ((x : X) → o ≡ Some x → P x → Q) → IsSomeAnd o P → Q
some_and_of None P Q from is = absurd is
some_and_of (Some x) P Q from is = from x refl is

-- What owned a board

-- Entries make of a board what their calls make of it.
pub record Owning (entries : List Entry) (board : BoardState) : Type 0 where
  pub playout : Playout
  pub calls : List Call
  pub owned : IsOwned playout calls board

pub owning : (entries : List Entry) (board : BoardState) → IsOwnedBy entries board → Owning entries board
owning [] board is = absurd is
owning ([] ∷ entries) board is = absurd is
owning ((window ∷ []) ∷ entries) board is = absurd is
owning ((window ∷ depth ∷ []) ∷ entries) board is = absurd is
owning ((window ∷ depth ∷ hold ∷ rest) ∷ entries) board is =
    record { playout = record { window = window; depth = depth; hold = hold }; calls = map call_from entries; owned = is }

-- The same entries make another board what they make of this one, if each list of calls does.
owned_stays :
    (old new : BoardState) → ((playout : Playout) (calls : List Call) → IsOwned playout calls old → IsOwned playout calls new)
    → (entries : List Entry) → IsOwnedBy entries old → IsOwnedBy entries new
owned_stays old new keeps [] is = absurd is
owned_stays old new keeps ([] ∷ entries) is = absurd is
owned_stays old new keeps ((window ∷ []) ∷ entries) is = absurd is
owned_stays old new keeps ((window ∷ depth ∷ []) ∷ entries) is = absurd is
owned_stays old new keeps ((window ∷ depth ∷ hold ∷ rest) ∷ entries) is =
    keeps (record { window = window; depth = depth; hold = hold }) (map call_from entries) is

-- Each event carries on both.
pub event_carries_on :
    EventsKeepOwned → EventsKeepTold → (seat : Standing BoardState) (event : Event) (entered left : BoardState)
    → Follows seat event entered left → CarriesOn None entered left
event_carries_on keep_owned keep_told seat event entered left follows = record {
  owned = owned_stays entered left (λ playout calls is.
      keep_owned playout calls event entered left (map told_from seat.told) is follows.grows follows.can follows.does);
  grows = λ entries told is grows.
      (let o = owning entries entered is in
      keep_told o.playout o.calls event entered left (map told_from seat.told) (map told_from told) o.owned
      follows.grows follows.can follows.does grows);
}

pub event_steps :
    EventsKeepOwned → EventsKeepTold → (seat : Standing BoardState) (event : Event) (left entered : BoardState)
    → Follows seat event entered left → IsStep None entered left
event_steps keep_owned keep_told seat event left entered follows =
    (inl (event, follows.does), event_carries_on keep_owned keep_told seat event entered left follows)

-- What is told

told_of_one : (serial : ℕ) (live : Live) (found : Option Live) → found ≡ Some live
    → told_of_live serial found ≡ equation_is serial live.equation ∷ []
told_of_one serial live found is = ap (told_of_live serial) is

-- The key's equation, which is live.
equation_tells :
    (key : Key) (old new : BoardState) → IsHeld old key → new ≡ old
    → (live : Live) × IsLive new key.serial live
    × (told_of_live key.serial (get new.desk.state.equations key.serial) ≡ equation_is key.serial live.equation ∷ [])
equation_tells key old new held same =
    let live = ap (λ (b : BoardState). get b.desk.state.equations key.serial) same ∙ held.1.live_is in
    (held.0, live, told_of_one key.serial held.0 (get new.desk.state.equations key.serial) live)

look_tells : (key : Key) (slot : Option ℕ) (answer : Look) (old new : BoardState) → Looks old key slot answer new
    → TellsOfLook new key slot answer (told_of_look new key slot answer)
look_tells key slot (looked.Gone mark epoch) old new is = refl
look_tells key None looked.Unknown old new is = equation_tells key old new is.0 is.1
look_tells key (Some slot) looked.Unknown old new is = equation_tells key old new is.0 is.2
look_tells key None (looked.Known word) old new is = absurd is
look_tells key (Some slot) (looked.Known word) old new is =
    let live = ap (λ (b : BoardState). get b.desk.state.equations key.serial) is.2 ∙ is.0.1.live_is in (
      is.0.0,
      live,
      ap (λ (told : List Told). told ++ word_at key.epoch slot word ∷ [])
          (told_of_one key.serial is.0.0 (get new.desk.state.equations key.serial) live),
    )

pub event_tells : (event : Event) (old new : BoardState) → IsEvent old event new → Tells new event (told_of new event)
event_tells (take None) old new is = refl
event_tells (take (Some job)) old new is = refl
event_tells (publish key slot word fate) old new is = refl
event_tells (vouch key zero fate) old new is = refl
event_tells (give_back key fate) old new is = refl
event_tells (look key slot answer) old new is = look_tells key slot answer old new is
event_tells (offer key slot word fate) old new is = refl
event_tells (attest key zero fate) old new is = refl

-- What was written is read back.
pub told_back : ToldIsReadBack → (told : List Told) → map told_from (map told_code told) ≡ told
told_back back [] = refl
told_back back (one ∷ told) =
    ap (λ (t : Told). t ∷ map told_from (map told_code told)) (back one) ∙ ap (λ (ts : List Told). one ∷ ts) (told_back back told)

-- So what was written behind other things is told.
pub told_after :
    ToldIsReadBack → (before : List Entry) (told : List Told)
    → map told_from (before ++ map told_code told) ≡ map told_from before ++ told
told_after back before told =
    map-append told_from before (map told_code told) ∙ ap (λ (ts : List Told). map told_from before ++ ts) (told_back back told)

pub is_told :
    ToldIsReadBack → (before : List Entry) (told : List Told) (one : Told) → Contains told one
    → Contains (map told_from (before ++ map told_code told)) one
is_told back before told one c =
    subst (λ (ts : List Told). Contains ts one) (sym (told_after back before told))
    (Contains-append_right (map told_from before) told one c)

-- An equation that is answered is told.
pub answer_told :
    ToldIsReadBack → (key : Key) (answer : Asked) (old new : BoardState) → Asks old key answer new → (before : List Entry)
    → WasAnswered (map told_from (before ++ told_by new (look key None (look_of answer)))) key answer
answer_told back key (asked.Gone mark epoch) old new asks before = tt
answer_told back key (asked.Live base shape parity) old new asks before =
    let live = asks.equation.0 in
    let is = ap (λ (b : BoardState). get b.desk.state.equations key.serial) asks.looks.1 ∙ asks.equation.1.live_is in
    let told = told_of_live key.serial (get new.desk.state.equations key.serial) in
    let same = told_of_one key.serial live (get new.desk.state.equations key.serial) is in
    is_told back before (seen_of new ∷ told) (equation_is key.serial (equation_with base shape parity))
    (Contains-there (seen_of new) told (equation_is key.serial (equation_with base shape parity))
    (subst (λ (ts : List Told). Contains ts (equation_is key.serial (equation_with base shape parity))) (sym same)
    (subst (λ (e : Equation). Contains (equation_is key.serial live.equation ∷ []) (equation_is key.serial e)) asks.equation.2
    (Contains-here (equation_is key.serial live.equation) []))))

-- It holds of the board that is left.
pub told_grows :
    AnswersHold → ToldIsReadBack → (seat : Standing BoardState) (event : Event) (left entered : BoardState)
    → Follows seat event entered left → GrowsFrom (told_by left event) left
told_grows holds back seat event left entered follows =
    let o = owning seat.calls entered follows.owned in
    subst (λ (told : List Told). All (IsBorneOut left) told) (sym (told_back back (seen_of left ∷ told_of left event)))
    (holds o.playout o.calls event entered left (told_of left event) o.owned follows.does
    (event_tells event entered left follows.does))

-- A whole turn

-- From the seat as it was, as it stood inside, and as it is, where the deed said this event.
pub turn_taken :
    (event said : Event) (old inner new : Standing BoardState) (entered left : BoardState) → said ≡ event
    → inner ≡ record old { calls = inner.calls; turns = old.turns + 1; inside = true; entered = Some entered }
    → new ≡ record inner { told = inner.told ++ told_by left said; inside = false; left = Some left }
    → IsPrefix old.calls inner.calls → IsOwnedBy inner.calls entered → GrowsFrom old.told entered
    → CanDo (map told_from old.told) event → IsEvent entered event left → TakesTurn event old new
turn_taken event said old inner new entered left same goes_in goes_out calls owned grows can is = record {
  turn = ap (λ (s : Standing BoardState). s.turn) goes_out ∙ ap (λ (s : Standing BoardState). s.turn) goes_in;
  number = ap (λ (s : Standing BoardState). s.number) goes_out ∙ ap (λ (s : Standing BoardState). s.number) goes_in;
  turns = ap (λ (s : Standing BoardState). s.turns) goes_out ∙ ap (λ (s : Standing BoardState). s.turns) goes_in;
  entered = entered;
  entered_is = ap (λ (s : Standing BoardState). s.entered) goes_out ∙ ap (λ (s : Standing BoardState). s.entered) goes_in;
  left = left;
  left_is = ap (λ (s : Standing BoardState). s.left) goes_out;
  can = can;
  event_is = is;
  calls = subst (λ (s : Standing BoardState). IsPrefix old.calls s.calls) (sym goes_out) calls;
  owned = subst (λ (s : Standing BoardState). IsOwnedBy s.calls entered) (sym goes_out) owned;
  grows = grows;
  told = told_of left event;
  tells = event_tells event entered left is;
  told_is =
      ap (λ (s : Standing BoardState). s.told) goes_out
      ∙ ap (λ (s : Standing BoardState). s.told ++ told_by left said) goes_in
      ∙ ap (λ (e : Event). old.told ++ told_by left e) same;
}

-- And one that found no memory.
pub no_turn_taken :
    (old inner new : Standing BoardState) (entered left : BoardState) → left ≡ entered
    → inner ≡ record old { calls = inner.calls; turns = old.turns + 1; inside = true; entered = Some entered }
    → new ≡ record inner { inside = false; left = Some left }
    → IsPrefix old.calls inner.calls → IsOwnedBy inner.calls entered → GrowsFrom old.told entered → TakesNoTurn old new
no_turn_taken old inner new entered left same goes_in goes_out calls owned grows = record {
  turn = ap (λ (s : Standing BoardState). s.turn) goes_out ∙ ap (λ (s : Standing BoardState). s.turn) goes_in;
  number = ap (λ (s : Standing BoardState). s.number) goes_out ∙ ap (λ (s : Standing BoardState). s.number) goes_in;
  turns = ap (λ (s : Standing BoardState). s.turns) goes_out ∙ ap (λ (s : Standing BoardState). s.turns) goes_in;
  entered = entered;
  entered_is = ap (λ (s : Standing BoardState). s.entered) goes_out ∙ ap (λ (s : Standing BoardState). s.entered) goes_in;
  same =
      ap (λ (s : Standing BoardState). s.left) goes_out
      ∙ ap (λ (b : BoardState). Some b) same
      ∙ sym (ap (λ (s : Standing BoardState). s.entered) goes_out ∙ ap (λ (s : Standing BoardState). s.entered) goes_in);
  calls = subst (λ (s : Standing BoardState). IsPrefix old.calls s.calls) (sym goes_out) calls;
  owned = subst (λ (s : Standing BoardState). IsOwnedBy s.calls entered) (sym goes_out) owned;
  grows = grows;
  told = ap (λ (s : Standing BoardState). s.told) goes_out ∙ ap (λ (s : Standing BoardState). s.told) goes_in;
}
