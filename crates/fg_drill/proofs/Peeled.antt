-- What peels is shown.
use Rattle.std.proofs.Common.{◌≡◌, ◌+◌, ◌-◌, ◌<◌, ◌++◌, ℕ, zero, suc, true, List, [], ◌∷◌, length, map, get_or, None, is_some, sym, ap, subst, ◌∙◌, arith}
use Rattle.std.proofs.lemmas.List.{map-append}
use Rattle.std.proofs.lemmas.List.Elements.{All-contains}
use Rattle.std.specs.List.{All, Contains}
use Rattle.fg_playout.specs.declared.reply.Outcome.{Outcome}
use Rattle.fg_playout.specs.declared.reply.Outcome.TheVariants.{Repaired}
use Rattle.fg_playout.specs.State.{State}
use Rattle.fg_playout.specs.Solution.{InClosure, IsSolution}
use Rattle.fg_playout.specs.Play.{Play, Shown, Decides, IsPlay, nothing_shown}
use Rattle.fg_playout.specs.Laws.{AreInSuccession, PlaysFollow}
use Rattle.fg_playout.specs.PlayedOn.{PlayOn, PlaysAreTheRuns, DesksMakeThePlays, OneListOfDesks, played_on}
use Rattle.fg_drill.specs.Repaired.{Closes, is_shown}
use Rattle.fg_drill.specs.TrueLaws.{TrueRunsAreRepaired, PeeledSlotsAreShown}
use Rattle.fg_drill.proofs.TrueRuns.{all_are_read}
use Rattle.fg_drill.proofs.TrueShown.{shows_at, of_one}

-- What is in a list has elements before it and after it.
record Stands {A : Type 0} (all : List A) (one : A) : Type 0 where
  before : List A
  after : List A
  placed : all ≡ before ++ one ∷ after

stands_at : {A : Type 0} (all : List A) (one : A) (place : ℕ) → place < length all → get_or all place one ≡ one → Stands all one
stands_at [] one place below is = absurd (omega (arith, below))
stands_at (first ∷ rest) one zero below is =
    record { before = []; after = rest; placed = ap (λ x. x ∷ rest) is }
stands_at (first ∷ rest) one (suc place) below is =
    let there = stands_at rest one place (omega (arith, below)) is in
    record { before = first ∷ there.before; after = there.after; placed = ap (λ xs. first ∷ xs) there.placed }

stands : {A : Type 0} (all : List A) (one : A) → Contains all one → Stands all one
stands all one is = stands_at all one is.0 is.1 is.2

-- So its play stands among the plays.
play_stands :
    (plays : List Play) (all : List PlayOn) (made : PlayOn) → map (λ (made : PlayOn). made.play) all ≡ plays → Contains all made
    → Stands plays made.play
play_stands plays all made are is =
    let there = stands all made is in
    record {
      before = map (λ (made : PlayOn). made.play) there.before;
      after = map (λ (made : PlayOn). made.play) there.after;
      placed = sym are
          ∙ ap (λ (all : List PlayOn). map (λ (made : PlayOn). made.play) all) there.placed
          ∙ map-append (λ (made : PlayOn). made.play) there.before (made ∷ there.after);
    }

-- A repaired play shows each slot that it closes and that is in the closure.
closed_is_shown :
    (count : ℕ) (desk : State) (play : Play) (next : State) (slot : ℕ) → IsPlay count desk play next
    → play.outcome ≡ Repaired → Closes play slot → InClosure desk slot
    → is_some (get_or play.shown (slot - play.first) nothing_shown).word ≡ true
closed_is_shown count desk play next slot is repaired closes inside =
    let solution : IsSolution desk is.words = subst (λ (o : Outcome). Decides desk o is.words) repaired is.decides in
    let first = is.first in
    let long = is.length_is in
    let at : desk.mark + (slot - play.first) ≡ slot = omega (arith, first, closes.0) in
    ap (λ (s : Shown). is_some s.word) (is.shows (slot - play.first) (omega (arith, long, closes.0, closes.1)))
    ∙ ap (λ (n : ℕ). is_some (is.words n)) at
    ∙ (solution.domain slot).1 inside

pub peeled_are_shown :
    PlaysAreTheRuns → DesksMakeThePlays → OneListOfDesks → PlaysFollow → TrueRunsAreRepaired → PeeledSlotsAreShown
peeled_are_shown are desks one follow repaired playout seq ssrc count truth arrivals plays replies sent run peel slot below =
    let p = peel.peels slot below in
    let made : PlayOn = p.0 in
    let read = all_are_read seq ssrc truth None arrivals sent.source sent.media sent.arrive in
    let of_run : Contains (played_on playout arrivals plays replies run) made =
    subst (λ (all : List PlayOn). Contains all made)
    (one playout arrivals peel.plays plays peel.replies replies peel.run run read) p.1 in
    let is = All-contains (λ (made : PlayOn). (count : ℕ) × (next : State) × IsPlay count made.desk made.play next)
    (played_on playout arrivals plays replies run) made (desks playout arrivals plays replies run) of_run in
    let there = play_stands plays (played_on playout arrivals plays replies run) made (are playout arrivals plays replies run)
    of_run in
    let follows = follow playout arrivals plays replies run in
    let at = shows_at there.before there.after made.play 0 slot
    (subst (λ (ps : List Play). AreInSuccession 0 ps) there.placed follows) p.2.0 p.2.1 in
    let from_first : slot ≡ slot - 0 = omega arith in
    ap (λ (ps : List Play). is_shown ps slot) there.placed
    ∙ ap (λ (n : ℕ). is_shown (there.before ++ made.play ∷ there.after) n) from_first
    ∙ ap (λ (s : Shown). is_some s.word) at.same
    ∙ closed_is_shown is.0 made.desk made.play is.1 slot is.2
    (of_one (λ (q : Play). q.outcome ≡ Repaired) there.before there.after made.play
    (subst (All (λ (q : Play). q.outcome ≡ Repaired)) there.placed
    (repaired playout seq ssrc truth arrivals plays replies sent run)))
    p.2 p.3
