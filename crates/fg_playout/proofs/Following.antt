-- Later datagrams change nothing of earlier ones, and plays follow one another.
use Rattle.std.proofs.Common.{◌≡◌, ◌+◌, ◌++◌, ℕ, List, [], ◌∷◌, length, Option, Some, None, refl, sym, ap, subst, ◌∙◌, append_assoc}
use Rattle.fg_words.specs.declared.Word.{Word}
use Rattle.fg_peel.proofs.Options.{some_and}
use Rattle.fg_playout.specs.declared.reply.Reply.{Reply}
use Rattle.fg_playout.specs.declared.reply.Reply.TheVariants.{Admitted}
use Rattle.fg_playout.specs.State.{State, opening}
use Rattle.fg_playout.specs.Admission.{Parity, IsAfterMedia, IsAfterParity, IsLeastFree, Sender, former, own, another, sender_of, run_by, run_on, position_on, base_on, with_media, with_equation, equation_at}
use Rattle.fg_playout.specs.Play.{Play, IsPlay}
use Rattle.fg_playout.specs.Held.{at_time}
use Rattle.fg_playout.specs.Run.{Arrival, carries, protects, refused, time_of, AreHeldPlays, ArePlaysHeld, unlimited, limited, ArePlaysDue, ArePlaysBefore, by_flush, by_due, TakesThen, Takes, TakesAll, IsFlush}
use Rattle.fg_playout.specs.Laws.{LaterChangesNothing, AreInSuccession, PlaysFollow}

pub later_changes_nothing : LaterChangesNothing
later_changes_nothing old new [] later plays replies takes =
    (old, [], plays, [], replies, (refl, refl, refl), takes, refl, refl)
later_changes_nothing old new (arrival ∷ earlier) later plays [] takes = absurd takes
later_changes_nothing old new (arrival ∷ earlier) later plays (reply ∷ replies) takes =
    let r = later_changes_nothing takes.2 new earlier later takes.1 replies takes.5 in (
      r.0,
      takes.0 ++ r.1,
      r.2,
      reply ∷ r.3,
      r.4,
      (takes.0, r.1, takes.2, refl, takes.4, r.5),
      r.6,
      takes.3 ∙ ap (λ (ps : List Play). takes.0 ++ ps) r.7 ∙ sym (append_assoc takes.0 r.1 r.2),
      ap (λ (rs : List (Option Reply)). reply ∷ rs) r.8,
    )

-- The first position after plays from this one on.
abbrev after_plays : ℕ → List Play → ℕ
after_plays first [] = first
after_plays first (play ∷ plays) = after_plays (first + length play.shown) plays

-- Plays that follow one another from a mark to another.
record Spans (first : ℕ) (plays : List Play) (last : ℕ) : Type 0 where
  follow : AreInSuccession first plays
  ends : last ≡ after_plays first plays

spans_none : (first last : ℕ) → last ≡ first → Spans first [] last
spans_none first last same = record { follow = tt; ends = same }

spans_play :
    (count : ℕ) (old : State) (play : Play) (next : State) (plays : List Play) (last : ℕ) → IsPlay count old play next
    → Spans next.mark plays last → Spans old.mark (play ∷ plays) last
spans_play count old play next plays last is spans =
    let mark : next.mark ≡ old.mark + length play.shown = is.mark ∙ ap (λ (n : ℕ). old.mark + n) (sym is.length_is) in
    let rest : Spans (old.mark + length play.shown) plays last = subst (λ (n : ℕ). Spans n plays last) mark spans in
    record { follow = (is.first, rest.follow); ends = rest.ends }

spans_append : (first middle last : ℕ) (one other : List Play) → Spans first one middle → Spans middle other last → Spans first (one ++ other) last
spans_append first middle last [] other a b = subst (λ (n : ℕ). Spans n other last) a.ends b
spans_append first middle last (play ∷ one) other a b =
    let rest = spans_append (first + length play.shown) middle last one other (record { follow = a.follow.1; ends = a.ends }) b in
    record { follow = (a.follow.0, rest.follow); ends = rest.ends }

due_spans : (old : State) (seq ssrc : ℕ) (plays : List Play) (new : State) → ArePlaysDue old seq ssrc plays new → Spans old.mark plays new.mark
due_spans old seq ssrc [] new is = spans_none old.mark new.mark (ap (λ (s : State). s.mark) is.1)
due_spans old seq ssrc (play ∷ plays) new is =
    spans_play old.playout.window old play is.1.0 plays new.mark is.1.1 (due_spans is.1.0 seq ssrc plays new is.1.2)

run_keeps_mark : (old : State) (sender : Sender) → (run_by old sender).mark ≡ old.mark
run_keeps_mark old former = refl
run_keeps_mark old (own top) = refl
run_keeps_mark old another = refl

pub media_keeps_mark : (old new : State) (seq ssrc : ℕ) (word : Word) (reply : Reply) → IsAfterMedia old seq ssrc word reply new → new.mark ≡ old.mark
media_keeps_mark old new seq ssrc word Admitted after =
    let a = some_and (position_on old seq ssrc) (λ p. new ≡ with_media (run_on old ssrc) seq ssrc p word) after in
    ap (λ (s : State). s.mark) a.2 ∙ run_keeps_mark old (sender_of old ssrc)
media_keeps_mark old new seq ssrc word reply after = ap (λ (s : State). s.mark) after

pub parity_keeps_mark : (old new : State) (parity : Parity) (reply : Reply) → IsAfterParity old parity reply new → new.mark ≡ old.mark
parity_keeps_mark old new parity Admitted after =
    let a = some_and (base_on old parity.base)
    (λ position. (place : ℕ) × IsLeastFree old.equations place × (new ≡ with_equation old place (equation_at position parity))) after in
    ap (λ (s : State). s.mark) a.2.2
parity_keeps_mark old new parity reply after = ap (λ (s : State). s.mark) after

flush_spans : (old : State) (plays : List Play) (new : State) → IsFlush old plays new → Spans old.mark plays new.mark
flush_spans old [] new is = spans_none old.mark new.mark (ap (λ (s : State). s.mark) is.1)
flush_spans old (play ∷ plays) new is = spans_play _ old play is.0 plays new.mark is.1.plays (flush_spans is.0 plays new is.2)

before_spans :
    (old : State) (seq ssrc : ℕ) (plays : List Play) (new : State) → ArePlaysBefore old seq ssrc plays new
    → Spans old.mark plays new.mark
before_spans old seq ssrc plays new (by_flush empty fresh flush counts) =
    subst (λ (n : ℕ). Spans old.mark plays n) (sym (ap (λ (s : State). s.mark) counts)) (flush_spans old plays empty flush)
before_spans old seq ssrc plays new (by_due stale due) = due_spans old seq ssrc plays new due

steps_held_span : (old : State) (time : ℕ) (plays : List Play) (new : State) → AreHeldPlays old time plays new → Spans old.mark plays new.mark
steps_held_span old time [] new is = spans_none old.mark new.mark (ap (λ (s : State). s.mark) is.1)
steps_held_span old time (play ∷ plays) new is =
    spans_play _ (at_time old time) play is.0 plays new.mark is.1.plays (steps_held_span is.0 time plays new is.2)

held_spans : (old : State) (time : ℕ) (plays : List Play) (new : State) → ArePlaysHeld old time plays new → Spans old.mark plays new.mark
held_spans old time plays new (unlimited none no_plays same) =
    subst (λ (ps : List Play). Spans old.mark ps new.mark) (sym no_plays)
    (spans_none old.mark new.mark (ap (λ (s : State). s.mark) same))
held_spans old time plays new (limited some steps) = steps_held_span old time plays new steps

then_spans : (old : State) (arrival : Arrival) (plays : List Play) (reply : Option Reply) (new : State) → TakesThen old arrival plays reply new → Spans old.mark plays new.mark
then_spans old (carries time seq ssrc word) plays None new takes = absurd takes
then_spans old (carries time seq ssrc word) plays (Some reply) new takes =
    let same : new.mark ≡ takes.0.mark = media_keeps_mark takes.0 new seq ssrc word reply takes.2.after in
    subst (λ (n : ℕ). Spans old.mark plays n) (sym same) (before_spans old seq ssrc plays takes.0 takes.1)
then_spans old (protects time stream parity) plays None new takes = absurd takes
then_spans old (protects time stream parity) plays (Some reply) new takes =
    subst (λ (ps : List Play). Spans old.mark ps new.mark) (sym takes.0)
    (spans_none old.mark new.mark (parity_keeps_mark old new parity reply takes.1.after))
then_spans old (refused time stream) plays None new takes =
    subst (λ (ps : List Play). Spans old.mark ps new.mark) (sym takes.0)
    (spans_none old.mark new.mark (ap (λ (s : State). s.mark) takes.1))
then_spans old (refused time stream) plays (Some reply) new takes = absurd takes

takes_spans : (old : State) (arrival : Arrival) (plays : List Play) (reply : Option Reply) (new : State) → Takes old arrival plays reply new → Spans old.mark plays new.mark
takes_spans old arrival plays reply new takes =
    subst (λ (ps : List Play). Spans old.mark ps new.mark) (sym takes.plays_are)
    (spans_append old.mark takes.ready.mark new.mark takes.held takes.after
    (held_spans old (time_of arrival) takes.held takes.ready takes.holds)
    (then_spans takes.ready arrival takes.after reply new takes.takes))

all_spans : (old : State) (arrivals : List Arrival) (plays : List Play) (replies : List (Option Reply)) (new : State) → TakesAll old arrivals plays replies new → Spans old.mark plays new.mark
all_spans old [] plays replies new takes =
    subst (λ (ps : List Play). Spans old.mark ps new.mark) (sym takes.0)
    (spans_none old.mark new.mark (ap (λ (s : State). s.mark) takes.2))
all_spans old (arrival ∷ arrivals) plays [] new takes = absurd takes
all_spans old (arrival ∷ arrivals) plays (reply ∷ replies) new takes =
    subst (λ (ps : List Play). Spans old.mark ps new.mark) (sym takes.3)
    (spans_append old.mark takes.2.mark new.mark takes.0 takes.1
    (takes_spans old arrival takes.0 reply takes.2 takes.4)
    (all_spans takes.2 arrivals takes.1 replies new takes.5))

pub plays_follow : PlaysFollow
plays_follow playout arrivals plays replies run =
    let spans = spans_append (opening playout).mark run.filled.mark run.empty.mark run.taken run.flushed
    (all_spans (opening playout) arrivals run.taken replies run.filled run.takes)
    (flush_spans run.filled run.flushed run.empty run.flush) in
    subst (λ (ps : List Play). AreInSuccession 0 ps) (sym run.plays_are) spans.follow
