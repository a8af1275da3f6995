-- The admitter's calls with their answers make one desk.
use Rattle.std.proofs.Common.{◌≡◌, List, [], ◌∷◌, Some, None, sym, subst, ◌∙◌}
use Rattle.fg_peel.proofs.Options.{none_has_no_value}
use Rattle.fg_playout.specs.State.{State, opening}
use Rattle.fg_playout.specs.Facts.{Holds}
use Rattle.fg_core.specs.Core.{Call, media, parity, play, flush, held, skip, play_of, IsCallOn, CanCallOn, AreCallsOn}
use Rattle.fg_core.specs.Below.{CallLaws}
use Rattle.fg_core.specs.Laws.{CallsMakeOneDesk}
use Rattle.fg_core.proofs.Passing.{passes_hold, passes_are_one}

module _ (laws : CallLaws) where
  -- The facts hold after a call,
  holds_after : (old new : State) (call : Call) → Holds old → CanCallOn old call → IsCallOn old call new → Holds new
  holds_after old new (media seq ssrc word reply) holds can is = laws.facts.media old new seq ssrc word reply holds can.3 can.1 is
  holds_after old new (parity given reply key) holds can is = laws.facts.parity old new given reply holds can.0 can.1 is.0
  holds_after old new (play played) holds can is =
      laws.facts.play old.playout.window old new (play_of played is.0) holds (λ none. none_has_no_value old.top none can.1) is.1
  holds_after old new (flush None) holds can is = laws.facts.flush old new None holds is
  holds_after old new (flush (Some played)) holds can is =
      laws.facts.flush old new (Some (play_of played is.0)) holds is.1
  holds_after old new (held time None) holds can is = laws.facts.held old new time None holds is
  holds_after old new (held time (Some played)) holds can is =
      laws.facts.held old new time (Some (play_of played is.0)) holds is.1
  holds_after old new (skip time count) holds can is = passes_hold laws.facts.play time count old new holds can is

  -- and it has one outcome.
  one_after :
      (old one other : State) (call : Call) → Holds old → CanCallOn old call → IsCallOn old call one → IsCallOn old call other
      → one ≡ other
  one_after old one other (media seq ssrc word reply) holds can is is' =
      (laws.one.media old one other seq ssrc word reply reply is is').1
  one_after old one other (parity given reply key) holds can is is' =
      (laws.one.parity old one other given reply reply holds is.0 is'.0).1
  one_after old one other (play played) holds can is is' =
      (laws.one.play old.playout.window old one other (play_of played is.0) (play_of played is'.0) holds is.1 is'.1).1
  one_after old one other (flush None) holds can is is' = (laws.one.flush old one other None None holds is is').1
  one_after old one other (flush (Some played)) holds can is is' =
      (laws.one.flush old one other (Some (play_of played is.0)) (Some (play_of played is'.0)) holds is.1 is'.1).1
  one_after old one other (held time None) holds can is is' = (laws.one.held old one other time None None holds is is').1
  one_after old one other (held time (Some played)) holds can is is' =
      (laws.one.held old one other time (Some (play_of played is.0)) (Some (play_of played is'.0)) holds is.1 is'.1).1
  one_after old one other (skip time count) holds can is is' =
      passes_are_one laws.facts.play laws.one.play time count old one other holds can is is'

  -- So do calls one after another.
  one_after_all :
      (old one other : State) (calls : List Call) → Holds old → AreCallsOn old calls one → AreCallsOn old calls other
      → one ≡ other
  one_after_all old one other [] holds made made' = made ∙ sym made'
  one_after_all old one other (call ∷ calls) holds made made' =
      let same = one_after old made.0 made'.0 call holds made.1.0 made.1.1 made'.1.1 in
      one_after_all made.0 one other calls (holds_after old made.0 call holds made.1.0 made.1.1) made.2
      (subst (λ (s : State). AreCallsOn s calls other) (sym same) made'.2)

  pub calls_make_one_desk : CallsMakeOneDesk
  calls_make_one_desk playout calls one other some most deep made made' =
      one_after_all (opening playout) one other calls (laws.facts.opening playout some most deep) made made'
