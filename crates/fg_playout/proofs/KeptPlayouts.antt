-- A run keeps how its playout is set.
use Rattle.std.proofs.Common.{◌≡◌, ℕ, List, [], ◌∷◌, Option, Some, None, refl, ap, ◌∙◌, ⊎_elim}
use Rattle.fg_words.specs.declared.Word.{Word}
use Rattle.fg_peel.proofs.Options.{some_and}
use Rattle.fg_playout.specs.declared.reply.Reply.{Reply}
use Rattle.fg_playout.specs.declared.reply.Reply.TheVariants.{Admitted}
use Rattle.fg_playout.specs.State.{State}
use Rattle.fg_playout.specs.Admission.{Parity, IsAfterMedia, IsAfterParity, IsLeastFree, Sender, former, own, another, sender_of, run_by, run_on, position_on, base_on, with_media, with_equation, equation_at}
use Rattle.fg_playout.specs.Play.{Play}
use Rattle.fg_playout.specs.Run.{Arrival, carries, protects, refused, time_of, AreHeldPlays, ArePlaysHeld, unlimited, limited, ArePlaysDue, ArePlaysBefore, by_flush, by_due, TakesThen, TakesAll, IsFlush}
use Rattle.fg_playout.specs.Laws.{HavePlayed, HavePlayedBefore, HavePlayedThen, HavePlayedFor, still_held, then_played, AreFlushSteps, AreHeldSteps}

-- This desk is set as that one is.
abbrev SetAs : State → State → Type 0
SetAs new old = new.playout ≡ old.playout

after_same : (old new : State) → new ≡ old → SetAs new old
after_same old new same = ap (λ (s : State). s.playout) same

run_set : (old : State) (sender : Sender) → SetAs (run_by old sender) old
run_set old former = refl
run_set old (own top) = refl
run_set old another = refl

media_set : (old new : State) (seq ssrc : ℕ) (word : Word) (reply : Reply) → IsAfterMedia old seq ssrc word reply new → SetAs new old
media_set old new seq ssrc word Admitted after =
    let a = some_and (position_on old seq ssrc) (λ p. new ≡ with_media (run_on old ssrc) seq ssrc p word) after in
    ap (λ (s : State). s.playout) a.2 ∙ run_set old (sender_of old ssrc)
media_set old new seq ssrc word reply after = ap (λ (s : State). s.playout) after

parity_set : (old new : State) (parity : Parity) (reply : Reply) → IsAfterParity old parity reply new → SetAs new old
parity_set old new parity Admitted after =
    let a = some_and (base_on old parity.base)
    (λ position. (place : ℕ) × IsLeastFree old.equations place × (new ≡ with_equation old place (equation_at position parity))) after in
    ap (λ (s : State). s.playout) a.2.2
parity_set old new parity reply after = ap (λ (s : State). s.playout) after

pub flush_steps_set : (old : State) (plays : List Play) (new : State) → AreFlushSteps old plays new → SetAs new old
flush_steps_set old [] new steps = after_same old new steps
flush_steps_set old (play ∷ plays) new steps =
    flush_steps_set steps.0 plays new steps.2 ∙ ap (λ (s : State). s.playout) steps.1.plays.rest

flush_set : (old : State) (plays : List Play) (new : State) → IsFlush old plays new → SetAs new old
flush_set old [] new flush = after_same old new flush.1
flush_set old (play ∷ plays) new flush = flush_set flush.0 plays new flush.2 ∙ ap (λ (s : State). s.playout) flush.1.plays.rest

pub held_steps_set : (old : State) (time : ℕ) (plays : List Play) (new : State) → AreHeldSteps old time plays new → SetAs new old
held_steps_set old time [] new steps = after_same old new steps
held_steps_set old time (play ∷ plays) new steps =
    held_steps_set steps.0 time plays new steps.2 ∙ ap (λ (s : State). s.playout) steps.1.plays.rest

held_set : (old : State) (time : ℕ) (plays : List Play) (new : State) → AreHeldPlays old time plays new → SetAs new old
held_set old time [] new steps = ap (λ (s : State). s.playout) steps.1
held_set old time (play ∷ plays) new steps = held_set steps.0 time plays new steps.2 ∙ ap (λ (s : State). s.playout) steps.1.plays.rest

holds_set : (old : State) (time : ℕ) (plays : List Play) (new : State) → ArePlaysHeld old time plays new → SetAs new old
holds_set old time plays new (unlimited none no_plays same) = after_same old new same
holds_set old time plays new (limited some steps) = held_set old time plays new steps

played_set : (old : State) (seq ssrc : ℕ) (plays : List Play) (new : State) → HavePlayed old seq ssrc plays new → SetAs new old
played_set old seq ssrc [] new played = after_same old new played
played_set old seq ssrc (play ∷ plays) new played =
    played_set played.1.0 seq ssrc plays new played.1.2 ∙ ap (λ (s : State). s.playout) played.1.1.rest

due_set : (old : State) (seq ssrc : ℕ) (plays : List Play) (new : State) → ArePlaysDue old seq ssrc plays new → SetAs new old
due_set old seq ssrc [] new due = after_same old new due.1
due_set old seq ssrc (play ∷ plays) new due = due_set due.1.0 seq ssrc plays new due.1.2 ∙ ap (λ (s : State). s.playout) due.1.1.rest

before_set : (old : State) (seq ssrc : ℕ) (plays : List Play) (new : State) → ArePlaysBefore old seq ssrc plays new → SetAs new old
before_set old seq ssrc plays new (by_flush empty fresh flush counts) = ap (λ (s : State). s.playout) counts ∙ flush_set old plays empty flush
before_set old seq ssrc plays new (by_due stale due) = due_set old seq ssrc plays new due

then_set : (old : State) (arrival : Arrival) (plays : List Play) (reply : Option Reply) (new : State) → TakesThen old arrival plays reply new → SetAs new old
then_set old (carries time seq ssrc word) plays None new takes = absurd takes
then_set old (carries time seq ssrc word) plays (Some reply) new takes =
    media_set takes.0 new seq ssrc word reply takes.2.after ∙ before_set old seq ssrc plays takes.0 takes.1
then_set old (protects time stream parity) plays None new takes = absurd takes
then_set old (protects time stream parity) plays (Some reply) new takes = parity_set old new parity reply takes.1.after
then_set old (refused time stream) plays None new takes = after_same old new takes.1
then_set old (refused time stream) plays (Some reply) new takes = absurd takes

pub all_taken_set :
    (old : State) (arrivals : List Arrival) (plays : List Play) (replies : List (Option Reply)) (new : State)
    → TakesAll old arrivals plays replies new → SetAs new old
all_taken_set old [] plays replies new takes = after_same old new takes.2
all_taken_set old (arrival ∷ arrivals) plays [] new takes = absurd takes
all_taken_set old (arrival ∷ arrivals) plays (reply ∷ replies) new takes =
    all_taken_set takes.2 arrivals takes.1 replies new takes.5
    ∙ then_set takes.4.ready arrival takes.4.after reply takes.2 takes.4.takes
    ∙ holds_set old (time_of arrival) takes.4.held takes.4.ready takes.4.holds

played_before_set : (old : State) (seq ssrc : ℕ) (plays : List Play) (new : State) → HavePlayedBefore old seq ssrc plays new → SetAs new old
played_before_set old seq ssrc plays new played = ⊎_elim
    (λ flushed. flush_steps_set old plays new flushed.1)
    (λ due. played_set old seq ssrc plays new due.1)
    played

played_then_set : (old : State) (arrival : Arrival) (plays : List Play) (new : State) → HavePlayedThen old arrival plays new → SetAs new old
played_then_set old (carries time seq ssrc word) plays new played = played_before_set old seq ssrc plays new played
played_then_set old (protects time stream parity) plays new played = after_same old new played.1
played_then_set old (refused time stream) plays new played = after_same old new played.1

pub played_for_set : (old : State) (arrival : Arrival) (plays : List Play) (new : State) → HavePlayedFor old arrival plays new → SetAs new old
played_for_set old arrival plays new (still_held some steps) = held_steps_set old (time_of arrival) plays new steps
played_for_set old arrival plays new (then_played held after ready holds are played) =
    played_then_set ready arrival after new played ∙ holds_set old (time_of arrival) held ready holds
