-- A desk where a run begins is sound.
use Rattle.std.proofs.Common.{[], ◌≡◌, ◌≢◌, ◌+◌, ◌<◌, ◌^◌, ℕ, List, Option, Some, None, MatchOption, refl, sym, ap, subst, ◌∙◌, ⊎_elim, arith}
use Rattle.std.proofs.lemmas.Option.{none-some, same_Some}
use Rattle.std.specs.FinMap.{get, empty, get-empty}
use Rattle.std.proofs.lemmas.Bool.{cases_lt}
use Rattle.std.specs.Ordering.{nat_cmp}
use Rattle.fg_words.specs.declared.Word.{Word}
use Rattle.fg_words.specs.Word.{IsMedia}
use Rattle.fg_unwrap.specs.Position.{position_of}
use Rattle.fg_peel.specs.Peeling.{Step, end_of}
use Rattle.fg_peel.specs.Laws.{PeelingsTakeWords}
use Rattle.fg_peel.proofs.Options.{none_or_some, none_has_no_value, some_and, some_and_from}
use Rattle.fg_peel.proofs.Maps.{nothing_in_empty}
use Rattle.fg_playout.specs.declared.reply.Reply.TheVariants.{Admitted, Late}
use Rattle.fg_playout.specs.State.{State, Top, known, current}
use Rattle.fg_playout.specs.Admission.{Sender, own, another, sender_of, IsFresh, IsDue, IsReplyAt, IsReplyBy, IsTakenBy, AdmitsMedia, begun, with_media}
use Rattle.fg_playout.specs.Solution.{InClosure, given, derived}
use Rattle.fg_playout.specs.Play.{HasMore}
use Rattle.fg_playout.specs.Facts.{Holds}
use Rattle.fg_desk.specs.Contents.{GivesWay}
use Rattle.fg_desk.specs.Inside.{AreLimited, Parts, AreSound, state_of, contents_of}
use Rattle.fg_buffer.specs.PlayoutBuffer.{buffer_received, buffer_known, buffer_words}
use Rattle.fg_buffer.specs.LiveEquations.{no_equations}
use Rattle.fg_playout.proofs.Equations.{serial_of}
use Rattle.fg_playout.proofs.NothingLeft.{nothing_ahead_is_known, nothing_is_peeled}
use Rattle.fg_playout.proofs.Opened.{media_keeps}
use Rattle.fg_playout.proofs.Orderly.{known_ahead, known_below}
use Rattle.fg_playout.proofs.Senders.{SaysOf, says_of}
use Rattle.fg_desk.proofs.DeskPlays.{ComeByPeeling}
use Rattle.fg_desk.proofs.DeskReceives.{AreFound, taken, sound_with_word}
use Rattle.fg_desk.proofs.DeskWords.{or_neither, received_ahead}

-- The parts where a run begins, with no datagram yet.
abbrev pub begun_parts : Parts → Parts
begun_parts parts = record parts {
  top = None;
  previous = current (state_of parts);
  origin = parts.buffer.mark;
  runs = parts.runs + 1;
  lines = no_equations;
}

-- The parts after the run's first datagram.
abbrev pub run_parts : Parts → ℕ → ℕ → Word → Parts
run_parts parts seq ssrc word =
    taken (begun_parts parts) parts.buffer.mark seq ssrc word parts.buffer no_equations parts.epoch

-- Before the first datagram of all nothing follows.
nothing_follows : (desk : State) → Holds desk → desk.top ≡ None → (position : ℕ) → InClosure desk position → ⊥
nothing_follows desk holds none position (given some) =
    let u = holds.unopened none in
    none_has_no_value (known desk position) (⊎_elim
    (λ below. known_below desk position below ∙ ap (λ m. get m position) u.2 ∙ nothing_at position)
    (λ ahead. known_ahead desk position ahead ∙ ap (λ m. get m position) u.1 ∙ nothing_at position)
    (cases_lt position desk.mark)) some
  where
    nothing_at : (q : ℕ) → get (empty {X = Word} {R = nat_cmp}) q ≡ None
    nothing_at q = get-empty nat_cmp q
nothing_follows desk holds none position (derived equation listed slot ahead others) =
    let r = serial_of desk equation listed in
    nothing_in_empty r.0 r.1 (sym (ap (λ m. get m r.0) (holds.unopened none).3) ∙ r.2)

module _ (desk : State) (ssrc : ℕ) (holds : Holds desk) (is : sender_of desk ssrc ≡ another) where
  says : SaysOf desk ssrc another
  says = subst (SaysOf desk ssrc) is (says_of desk ssrc)

  -- Whether the run is the first or not, nothing is left.
  pub nothing_more : (IsFresh desk ssrc → ¬ HasMore desk) → ¬ HasMore desk
  nothing_more flushed = ⊎_elim
      (λ none more. nothing_follows desk holds none more.0 more.1)
      (λ some. flushed (some_and_from desk.top (λ top. top.ssrc ≢ ssrc) some.0 some.1 (says.1 some.0 some.1), says.0))
      (none_or_some desk.top)

  -- No play is due before the datagram.
  none_due : (seq : ℕ) → ¬ IsDue desk seq ssrc
  none_due seq due = let t = some_and desk.top _ due in says.1 t.0 t.1 t.2.0

  pub begins :
      (seq : ℕ) (word : Word)
      → AdmitsMedia desk seq ssrc word Admitted (with_media (begun desk) seq ssrc desk.mark word)
  begins seq word = record {
    reply_is = subst (λ (s : Sender). IsReplyBy desk seq word Admitted s) (sym is) refl;
    after = subst (λ (s : Sender). IsTakenBy desk seq ssrc word (with_media (begun desk) seq ssrc desk.mark word) s)
        (sym is) refl;
  }

  pub holds_in_run : (seq : ℕ) (word : Word) → IsMedia word → Holds (with_media (begun desk) seq ssrc desk.mark word)
  holds_in_run seq word media =
      media_keeps desk (with_media (begun desk) seq ssrc desk.mark word) seq ssrc word Admitted holds media (none_due seq)
      (begins seq word)

module _ (parts : Parts) (sound : AreSound parts) (none : ¬ HasMore (state_of parts)) where
  -- What was found comes from a peeling without a step.
  nothing_peeled : (words : ℕ → Option Word) → ComeByPeeling parts words → words ≡ known (state_of parts)
  nothing_peeled words p =
      p.2
      ∙ ap (λ (steps : List Step). end_of (known (state_of parts)) steps)
      (nothing_is_peeled (state_of parts) p.0 sound.facts none p.1)

  words_at_mark : buffer_words parts.buffer parts.buffer.mark ≡ None
  words_at_mark =
      ap (λ (f : ℕ → Option Word). f parts.buffer.mark) (nothing_peeled (buffer_words parts.buffer) sound.peeled)
      ∙ nothing_ahead_is_known (state_of parts) none parts.buffer.mark (omega arith)

  solved_at_mark : get parts.buffer.solved parts.buffer.mark ≡ None
  solved_at_mark =
      let known = (or_neither (buffer_known parts.buffer parts.buffer.mark) (get parts.buffer.cached parts.buffer.mark)
      words_at_mark).0 in
      (or_neither (buffer_received parts.buffer parts.buffer.mark) (get parts.buffer.solved parts.buffer.mark) known).1

  pub received_at_mark : get parts.buffer.media parts.buffer.mark ≡ None
  received_at_mark =
      sym (received_ahead parts.buffer parts.buffer.mark (omega arith))
      ∙ nothing_ahead_is_known (state_of parts) none parts.buffer.mark (omega arith)

  begun_found : AreFound (begun_parts parts)
  begun_found = record {
    cached = sound.cached;
    solved = ([], tt, nothing_peeled (buffer_known parts.buffer) sound.solved);
    peeled = ([], tt, nothing_peeled (buffer_words parts.buffer) sound.peeled);
    beside = sound.beside;
    settled = λ serial live is. absurd (nothing_in_empty serial live is);
    rooms = λ serial live is. absurd (nothing_in_empty serial live is);
  }

  limited :
      (seq ssrc : ℕ) (word : Word) → parts.buffer.mark < 2 ^ 61 → parts.calls < 2 ^ 62
      → AreLimited (run_parts parts seq ssrc word)
  limited seq ssrc word mark calls =
      let runs = sound.limits.runs_limit in
      let admitted = sound.limits.admitted_limit in
      let epoch = sound.limits.epoch_limit in
      record {
        depth_limit = sound.limits.depth_limit;
        reach_is = sound.limits.reach_is;
        mark_limit = sound.limits.mark_limit;
        top_limit = λ top is.
            (let same : record { position = parts.buffer.mark; seq = seq; ssrc = ssrc } ≡ top =
            same_Some (record { position = parts.buffer.mark; seq = seq; ssrc = ssrc }) top is in
            subst (λ (t : Top). t.position < 2 ^ 61 + 2 ^ 16) same (omega (arith, mark)));
        runs_limit = omega (arith, runs);
        admitted_limit = omega (arith, admitted);
        calls_limit = omega (arith, calls);
        epoch_limit = omega (arith, epoch);
      }

  pub sound_in_run :
      (seq ssrc : ℕ) (word : Word) → PeelingsTakeWords → parts.buffer.mark < 2 ^ 61 → parts.calls < 2 ^ 62
      → Holds (with_media (begun (state_of parts)) seq ssrc parts.buffer.mark word) → AreSound (run_parts parts seq ssrc word)
  sound_in_run seq ssrc word take mark calls facts =
      sound_with_word (begun_parts parts) begun_found parts.buffer.mark seq ssrc word (omega arith) received_at_mark take
      parts.epoch
      (λ found is. absurd (none-some found (sym words_at_mark ∙ is)))
      (limited seq ssrc word mark calls) facts

  -- No word was solved at the mark, so none is withdrawn.
  pub gives_way_in_run :
      (seq ssrc : ℕ) (word : Word)
      → GivesWay (contents_of parts) parts.buffer.mark word (contents_of (run_parts parts seq ssrc word))
  gives_way_in_run seq ssrc word = record {
    withdrawn = λ contradicted.
        (let s = some_and (get parts.buffer.solved parts.buffer.mark) (λ other. other ≢ word) contradicted in
        absurd (none-some s.0 (sym solved_at_mark ∙ s.1)));
    agreed = λ _. refl;
  }

-- The facts hold where a word of the current run is taken in.
pub holds_with_own :
    (desk : State) (seq ssrc position : ℕ) (top : Top) (word : Word) → Holds desk → sender_of desk ssrc ≡ own top
    → position_of top.position top.seq seq ≡ Some position → IsReplyAt desk position word Admitted → IsMedia word
    → ¬ IsDue desk seq ssrc → Holds (with_media desk seq ssrc position word)
holds_with_own desk seq ssrc position top word holds is at replies media not_due =
    let new : State = with_media desk seq ssrc position word in
    media_keeps desk new seq ssrc word Admitted holds media not_due
    (record {
      reply_is = subst (λ (s : Sender). IsReplyBy desk seq word Admitted s) (sym is)
          (subst (λ (o : Option ℕ). MatchOption o (Admitted ≡ Late) (λ p. IsReplyAt desk p word Admitted)) (sym at) replies);
      after = subst (λ (s : Sender). IsTakenBy desk seq ssrc word new s) (sym is)
          (some_and_from (position_of top.position top.seq seq) (λ p. new ≡ with_media desk seq ssrc p word) position at refl);
    })
