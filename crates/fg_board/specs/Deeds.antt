-- What one turn did, as its arguments and its answer say, and what it tells. No public contract cites it.
use Rattle.std.specs.Prelude.{ℕ, Bool, true, false, List, [], ◌∷◌, ◌++◌, map, Option, Some, None}
use Rattle.std.specs.FinMap.{get}
use Rattle.fg_playout.specs.State.{Live}
use Rattle.fg_turn.specs.Standing.{Standing}
use Rattle.fg_core.specs.Board.{BoardState, look_of, look_seen}
use Rattle.fg_core.specs.Skipping.{time_of}
use Rattle.fg_core.specs.Views.{Told, word_at, equation_is, seen_of, told_of_job}
use Rattle.fg_core.specs.Core.{Call, media, parity, play, flush, held, skip, Event, take, publish, vouch, give_back, look, offer, attest, CanCall, CanDo, IsCall, IsEvent, told_of_fate}
use Rattle.fg_core.specs.Codes.{Entry, call_code, told_code, told_from, IsOwnedBy, GrowsFrom}
use Rattle.fg_board.specs.declared.turns.Deed.{Deed}
use Rattle.fg_board.specs.declared.turns.Deed.TheVariants as deed
use Rattle.fg_board.specs.declared.turns.Made.{Made}
use Rattle.fg_board.specs.declared.turns.Made.TheVariants as made
use Rattle.fg_words.specs.declared.Word.{Word}
use Rattle.fg_core.specs.declared.fate.Fate.{Fate}
use Rattle.fg_core.specs.declared.fate.Look.{Look}
use Rattle.fg_core.specs.declared.fate.Look.TheVariants as looked
use Rattle.fg_core.specs.declared.key.Key.{Key}

-- Passes

-- A word or a check is brought by who holds the job, or by another one.
abbrev pub brings : Bool → Key → ℕ → Word → Fate → Event
brings true = publish
brings false = offer

abbrev pub checks : Bool → Key → Bool → Fate → Event
checks true = vouch
checks false = attest

abbrev pub event_of : Deed → Event
event_of (deed.Take job) = take job.value
event_of (deed.Bring holds_job key slot share fate) = brings holds_job key slot share.value fate
event_of (deed.Check holds_job key zero fate) = checks holds_job key zero fate
event_of (deed.GiveBack key fate) = give_back key fate
event_of (deed.Look key slot answer) = look key (Some slot) (look_seen answer.value)
event_of (deed.Ask key answer) = look key None (look_of answer.value)

-- The equation of a serial number, where one is live under it.
abbrev pub told_of_live : ℕ → Option Live → List Told
told_of_live serial None = []
told_of_live serial (Some live) = equation_is serial live.equation ∷ []

abbrev pub told_of_look : BoardState → Key → Option ℕ → Look → List Told
told_of_look board key slot (looked.Gone mark epoch) = []
told_of_look board key slot looked.Unknown = told_of_live key.serial (get board.desk.state.equations key.serial)
told_of_look board key None (looked.Known word) = []
told_of_look board key (Some slot) (looked.Known word) =
    told_of_live key.serial (get board.desk.state.equations key.serial) ++ word_at key.epoch slot word ∷ []

-- What an event's answer tells beside the three numbers.
abbrev pub told_of : BoardState → Event → List Told
told_of new (take None) = []
told_of new (take (Some job)) = told_of_job job
told_of new (publish key slot word fate) = told_of_fate key slot word fate
told_of new (vouch key zero fate) = []
told_of new (give_back key fate) = []
told_of new (look key slot answer) = told_of_look new key slot answer
told_of new (offer key slot word fate) = told_of_fate key slot word fate
told_of new (attest key zero fate) = []

-- All that a turn tells.
abbrev pub told_by : BoardState → Event → List Entry
told_by new event = map told_code (seen_of new ∷ told_of new event)

-- An event from the state entered, by a seat that stands so.
pub record Follows (seat : Standing BoardState) (event : Event) (entered left : BoardState) : Type 0 where
  pub owned : IsOwnedBy seat.calls entered
  pub grows : GrowsFrom seat.told entered
  pub can : CanDo (map told_from seat.told) event
  pub does : IsEvent entered event left

-- The admitter

abbrev pub call_of : Made → Call
call_of (made.Media seq ssrc share reply) = media seq ssrc share.value reply
call_of (made.Parity base shape share reply key) =
    parity (record { base = base; offset = shape.offset; count = shape.na; word = share.value }) reply key
call_of (made.Play played) = play played
call_of (made.Flush played) = flush played
call_of (made.Held time played) = held time played
call_of (made.Skip which count) = skip (time_of which) count

-- The entry of a call, and what its turn tells.
abbrev pub named_by : BoardState → Call → List Entry
named_by new call = call_code call ∷ told_code (seen_of new) ∷ []

-- A call on the state entered, by an owner that stands so.
pub record Makes (seat : Standing BoardState) (call : Call) (entered left : BoardState) : Type 0 where
  pub owned : IsOwnedBy seat.calls entered
  pub grows : GrowsFrom seat.told entered
  pub can : CanCall entered call
  pub does : IsCall entered call left
