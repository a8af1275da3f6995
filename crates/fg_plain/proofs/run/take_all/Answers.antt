use Rattle.std.proofs.Common.{◌≡◌, ◌+◌, ◌<◌, ◌≤◌, ◌^◌, ◌++◌, ℕ, List, [], map, take, length, get_or, Option, refl, ap, subst, ◌∙◌, append_assoc}
use Rattle.std.proofs.lemmas.List.{take_more, take_all}
use Rattle.std.proofs.lemmas.List.Elements.{All-nil}
use Rattle.fg_shape.specs.Playout.{Playout}
use Rattle.fg_playout.specs.declared.reply.Reply.{Reply}
use Rattle.fg_playout.specs.State.{State}
use Rattle.fg_playout.specs.Play.{Play}
use Rattle.fg_playout.specs.Run.{Arrival, ArePlaysHeld, time_of}
use Rattle.fg_playout.specs.Laws.{IsRead, AreHeldSteps, RunsStayWithin, still_held, then_played}
use Rattle.fg_desk.specs.Arrivals.{StaysWithin, HeldWithin, ThenWithin}
use Rattle.fg_plain.specs.declared.run.ShownPlay.{ShownPlay}
use Rattle.fg_plain.specs.declared.run.Datagram.{Datagram}
use Rattle.fg_plain.specs.declared.run.Datagram.TheVariants as datagram
use Rattle.fg_plain.specs.Datagrams.{arrival_of, play_of, AreTaken}
use Rattle.fg_plain.proofs.PlainRuns.{one_more_taken, few_arrivals}
use Rattle.fg_plain.proofs.run.take_all.Goals as goal

abbrev no_datagram : Datagram
no_datagram = datagram.Media 0 0 0 (record { pt = 0; ts = 0; len = 0; bytes = [] })

abbrev arrival_at : List Datagram → ℕ → Arrival
arrival_at datagrams i = arrival_of (get_or datagrams i no_datagram)

pub loop-datagram-init : goal.loop-datagram-init
loop-datagram-init c = record {
  so = record {
    takes = (ap (map play_of) c.requires.empty.0, c.requires.empty.1, c.requires.opened);
    read = All-nil IsRead;
    same = refl;
  };
  tray = refl;
}

-- All desks that plays before some datagram leave are as they are to be, where few datagrams were taken.
module _
    (playout : Playout) (datagrams : List Datagram) (i : ℕ) (desk : State) (plays : List ShownPlay) (replies : List (Option Reply))
    (stays : RunsStayWithin) (window : (1 ≤ playout.window) × (playout.window ≤ 100))
    (depth : (playout.window ≤ playout.depth) × (playout.depth ≤ 1000)) (few : length datagrams < 2 ^ 44)
    (so : AreTaken playout (take i datagrams) desk plays replies) (arrival : Arrival) (time : ℕ) (is : time ≡ time_of arrival) where
  stays_within : StaysWithin desk
  stays_within next due new played =
      stays playout next (map arrival_of (take i datagrams)) (map play_of plays) due replies desk new window.0 window.1 depth.0
      depth.1 so.read (few_arrivals (2 ^ 44) i datagrams few) so.takes played

  held_within : HeldWithin desk time
  held_within some held new steps =
      stays_within arrival held new (still_held some (subst (λ (t : ℕ). AreHeldSteps desk t held new) is steps))

  then_within : (held : List Play) (ready : State) → ArePlaysHeld desk time held ready → ThenWithin ready arrival
  then_within held ready holds plays new played =
      stays_within arrival (held ++ plays) new
      (then_played held plays ready (subst (λ (t : ℕ). ArePlaysHeld desk t held ready) is holds) refl played)

pub play_held-requires-clause-within : goal.play_held-requires-clause-within
play_held-requires-clause-within c =
    held_within c.args.desk.now.state.playout c.args.datagrams.now c.loop-datagram.datagram-index c.loop-datagram.desk.state
    c.loop-datagram.run.plays.items c.loop-datagram.run.replies.items c.runs_stay_within.ensures.taking c.requires.window
    c.requires.depth c.requires.limit c.loop-datagram.invariant.so (arrival_at c.args.datagrams.now c.loop-datagram.datagram-index)
    c.time.result c.time.ensures

pub take-requires-clause-within : goal.take-requires-clause-within
take-requires-clause-within c =
    then_within c.args.desk.now.state.playout c.args.datagrams.now c.loop-datagram.datagram-index c.loop-datagram.desk.state
    c.loop-datagram.run.plays.items c.loop-datagram.run.replies.items c.runs_stay_within.ensures.taking c.requires.window
    c.requires.depth c.requires.limit c.loop-datagram.invariant.so (arrival_at c.args.datagrams.now c.loop-datagram.datagram-index)
    c.time.result c.time.ensures c.in_ok-play_held.ensures.plays.0 c.play_held.new.desk.state c.in_ok-play_held.ensures.plays.2

pub loop-datagram-preserved : goal.loop-datagram-preserved
loop-datagram-preserved c =
    let held = c.in_ok-play_held.ensures.plays in
    let takes = c.in_ok-reply.ensures.takes in
    record {
      so = one_more_taken c.args.desk.now.state.playout (take c.loop-datagram.datagram-index c.args.datagrams.now)
          (take (c.loop-datagram.datagram-index + 1) c.args.datagrams.now)
          (get_or c.args.datagrams.now c.loop-datagram.datagram-index no_datagram)
          c.loop-datagram.desk.state c.take.new.desk.state c.loop-datagram.run.plays.items c.take.new.plays.items
          (held.0 ++ takes.0) c.loop-datagram.run.replies.items c.push.new.self.items c.in_ok-reply.reply
          c.runs_join.ensures.takings c.loop-datagram.invariant.so
          (take_more c.args.datagrams.now c.loop-datagram.datagram-index no_datagram c.loop-datagram-test.true)
          (record {
            held = held.0;
            after = takes.0;
            ready = c.play_held.new.desk.state;
            plays_are = refl;
            holds = subst (λ (t : ℕ). ArePlaysHeld c.loop-datagram.desk.state t held.0 c.play_held.new.desk.state)
                c.time.ensures held.2;
            takes = takes.2;
          })
          c.in_ok-reply.ensures.read
          (takes.1 ∙ ap (λ (plays : List Play). plays ++ takes.0) held.1
          ∙ append_assoc (map play_of c.loop-datagram.run.plays.items) held.0 takes.0)
          c.in_ok-push.ensures.items (c.in_ok-reply.ensures.playout ∙ c.in_ok-play_held.ensures.playout);
      tray = c.in_ok-reply.ensures.tray ∙ c.in_ok-play_held.ensures.tray ∙ c.loop-datagram.invariant.tray;
    }

pub returns-clause-takes : goal.returns-clause-takes
returns-clause-takes c =
    let all : take c.loop-datagram.datagram-index c.args.datagrams.now ≡ c.args.datagrams.now =
    take_all c.loop-datagram.datagram-index c.args.datagrams.now c.loop-datagram-test.false in
    subst (λ (ds : List Datagram). AreTaken c.args.desk.now.state.playout ds c.loop-datagram.desk.state c.loop-datagram.run.plays.items
    c.loop-datagram.run.replies.items)
    all c.loop-datagram.invariant.so
