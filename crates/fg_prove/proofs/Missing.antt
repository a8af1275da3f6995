-- What a play misses, and the case of it.
use Rattle.std.proofs.Common.{◌≡◌, ◌≢◌, ℕ, zero, suc, ◌+◌, ◌-◌, ◌<◌, ◌≤◌, min, List, [], ◌∷◌, ◌++◌, length, Option, Some, None, IsSome, refl, sym, ap, subst, ◌∙◌, append-nil, arith}
use Rattle.std.proofs.lemmas.List.Elements.{All-nil, All-cons}
use Rattle.std.proofs.lemmas.List.FromFn.{length-map-range_with_len}
use Rattle.fg_words.specs.declared.Word.{Word}
use Rattle.fg_io.specs.Sink.{GainsPart}
use Rattle.fg_io.specs.Sent.{Sent}
use Rattle.fg_io.proofs.SentLemmas.{Sent-start}
use Rattle.fg_playout.specs.declared.reply.Outcome.{Outcome}
use Rattle.fg_playout.specs.declared.reply.Outcome.TheVariants.{Repaired}
use Rattle.fg_playout.specs.State.{State, known}
use Rattle.fg_desk.specs.Contents.{Contents, kept_from, kept_shown}
use Rattle.fg_playout.specs.Facts.{Holds}
use Rattle.fg_playout.specs.Room.{HasRoom}
use Rattle.fg_playout.specs.Solution.{InClosure, given, derived, IsSolution}
use Rattle.fg_playout.specs.Play.{Play, Decides, IsPlay, IsGreatest}
use Rattle.fg_playout.specs.Held.{at_time, IsHeld, IsHeldStep}
use Rattle.fg_closure.specs.Holes.{IsHole, HasMissing}
use Rattle.fg_proof.specs.declared.case.Case.{Case}
use Rattle.fg_proof.specs.declared.judging.Answer.TheVariants.{Yes}
use Rattle.fg_proof.specs.Case.{IsCase}
use Rattle.fg_proof.specs.Judgement.{IsAnswer}
use Rattle.fg_proof.specs.Laws.{TrueCasesAreProved}
use Rattle.fg_prove.specs.Proved.{ShowsALoss, no_loss, a_loss}
use Rattle.fg_prove.specs.declared.gaps.Gaps.{Gaps}
use Rattle.fg_prove.specs.Steps.{HaveTold, HavePart, TellsGap, whole, gap, BreaksGap, unmade, unwritten, TellsOne, BreaksOne, no_play, one_play}
use Rattle.fg_prove.proofs.Telling.{one_case_of, no_part}
use Rattle.fg_prove.proofs.Texts.{cases_text-one}

-- What a solution doesn't show

none_or_some : (word : Option Word) → ¬ IsSome word → word ≡ None
none_or_some None none = refl
none_or_some (Some word) none = absurd (none refl)

pub not_some : (word : Option Word) → word ≡ None → ¬ IsSome word
not_some None is some = cc
not_some (Some word) is some = cc

pub solution_of : (desk : State) (outcome : Outcome) (words : ℕ → Option Word) → outcome ≡ Repaired → Decides desk outcome words → IsSolution desk words
solution_of desk outcome words is decides = subst (λ (o : Outcome). Decides desk o words) is decides

-- A play shows a loss exactly where it is repaired and misses a position.
pub missing_if_lost : (count : ℕ) (desk new : State) (play : Play) → IsPlay count desk play new → ShowsALoss play → HasMissing desk count
missing_if_lost count desk new play is loss =
    let solution = solution_of desk play.outcome is.words loss.repaired is.decides in
    let below : loss.at < count = subst (λ n. loss.at < n) is.length_is loss.within in
    let none : is.words (desk.mark + loss.at) ≡ None = sym (ap (λ s. s.word) (is.shows loss.at below)) ∙ loss.missing in (
      desk.mark + loss.at,
      omega arith,
      omega (arith, below),
      λ inside. not_some (is.words (desk.mark + loss.at)) none ((solution.domain (desk.mark + loss.at)).1 inside),
    )

pub lost_if_missing : (count : ℕ) (desk new : State) (play : Play) → IsPlay count desk play new → play.outcome ≡ Repaired → HasMissing desk count → ShowsALoss play
lost_if_missing count desk new play is repaired missing =
    let solution = solution_of desk play.outcome is.words repaired is.decides in
    let position = missing.0 in
    let from : desk.mark ≤ position = missing.1 in
    let to : position < desk.mark + count = missing.2 in
    let below : position - desk.mark < count = omega (arith, from, to) in
    let same : desk.mark + (position - desk.mark) ≡ position = omega (arith, from) in
    let none : is.words position ≡ None = none_or_some (is.words position) (λ some. missing.3 ((solution.domain position).0 some)) in
    record {
      repaired = repaired;
      at = position - desk.mark;
      within = subst (λ n. position - desk.mark < n) (sym is.length_is) below;
      missing = ap (λ s. s.word) (is.shows (position - desk.mark) below) ∙ ap is.words same ∙ none;
    }

pub missing_more : (desk : State) (few many : ℕ) → few ≤ many → HasMissing desk few → HasMissing desk many
missing_more desk few many fits missing = (let to = missing.2 in (missing.0, missing.1, omega (arith, fits, to), missing.3))

-- Telling a desk the time makes no difference

closure_then : (desk : State) (time : ℕ) {position : ℕ} → InClosure desk position → InClosure (at_time desk time) position
closure_then desk time (given some) = given some
closure_then desk time (derived equation live slot ahead others) =
    derived equation live slot ahead (λ other is ne. closure_then desk time (others other is ne))

closure_before : (desk : State) (time : ℕ) {position : ℕ} → InClosure (at_time desk time) position → InClosure desk position
closure_before desk time (given some) = given some
closure_before desk time (derived equation live slot ahead others) =
    derived equation live slot ahead (λ other is ne. closure_before desk time (others other is ne))

hole_then : (desk : State) (time count position : ℕ) → IsHole desk count position → IsHole (at_time desk time) count position
hole_then desk time count position hole = record {
  looked_at = record { ahead = hole.looked_at.ahead; near = hole.looked_at.near };
  underivable = λ inside. hole.underivable (closure_before desk time inside);
}

hole_before : (desk : State) (time count position : ℕ) → IsHole (at_time desk time) count position → IsHole desk count position
hole_before desk time count position hole = record {
  looked_at = record { ahead = hole.looked_at.ahead; near = hole.looked_at.near };
  underivable = λ inside. hole.underivable (closure_then desk time inside);
}

-- Two desks with the same positions missing and the same cases.
pub record SameGaps (one other : State) : Type 0 where
  pub missing : (count : ℕ) → HasMissing one count → HasMissing other count
  pub found : (count : ℕ) → HasMissing other count → HasMissing one count
  pub cases : (port count : ℕ) (case : Case) → IsCase port one count case → IsCase port other count case

pub same_gaps : (desk : State) → SameGaps desk desk
same_gaps desk = record { missing = λ count missing. missing; found = λ count missing. missing; cases = λ port count case is. is }

pub same_gaps_then : (desk : State) (time : ℕ) → SameGaps desk (at_time desk time)
same_gaps_then desk time = record {
  missing = λ count missing. (missing.0, missing.1, missing.2, λ inside. missing.3 (closure_before desk time inside));
  found = λ count missing. (missing.0, missing.1, missing.2, λ inside. missing.3 (closure_then desk time inside));
  cases = λ port count case is. record {
    port_is = is.port_is;
    mark_is = is.mark_is;
    count_is = is.count_is;
    known_are = is.known_are;
    lines_are = is.lines_are;
    holes_are = record {
      apart = is.holes_are.apart;
      inside = λ position. (
        λ run. hole_then desk time count position ((is.holes_are.inside position).0 run),
        λ hole. (is.holes_are.inside position).1 (hole_before desk time count position hole),
      );
    };
  };
}

-- What is told after a play

module _ (law : TrueCasesAreProved) (port count n : ℕ) (found desk new : State) (play : Play) (same : SameGaps found desk) (is : IsPlay n desk play new) (counts : length play.shown ≡ count) where
  played : IsPlay count desk play new
  played = subst (λ m. IsPlay m desk play new) (sym is.length_is ∙ counts) is

  -- a gap is a loss that the play shows
  its_case : (case : Case) → play.outcome ≡ Repaired → HasMissing found count → IsCase port found count case → ShowsALoss play × IsCase port desk (length play.shown) case
  its_case case repaired missing of = (
    lost_if_missing count desk new play played repaired (same.missing count missing),
    subst (λ m. IsCase port desk m case) (sym counts) (same.cases port count case of),
  )

  told_after :
      (held held' : List ℕ) (before after : Option (List ℕ)) → Holds found → HasRoom found → found.playout.depth ≤ 1000 → count ≤ 100
      → TellsGap port found count play.outcome held before held' after
      → HaveTold port (record { desk = desk; play = play } ∷ []) held before held' after
  told_after held held' before after holds room depth few (whole none quiet) = record {
    cases = [];
    are = one_case_of port (record { desk = desk; play = play }) []
        (no_loss (λ loss. none (loss.repaired, same.found count (missing_if_lost count desk new play played loss))) refl);
    judged = All-nil (λ case. IsAnswer case Yes);
    sent =
        subst (λ (t : List ℕ). Sent before t held' after) (sym (append-nil held))
        (subst (λ (w : Option (List ℕ)). Sent before held held' w) (sym quiet.written)
        (subst (λ (t : List ℕ). Sent before held t before) (sym quiet.held_is) (Sent-start before held)));
  }
  told_after held held' before after holds room depth few (gap case repaired missing of sent) =
      let its = its_case case repaired missing of in
      record {
        cases = case ∷ [];
        are = one_case_of port (record { desk = desk; play = play }) (case ∷ []) (a_loss case its.0 its.1 refl);
        judged = All-cons (λ case. IsAnswer case Yes) case [] (law port count found case holds room depth few of missing) (All-nil (λ case. IsAnswer case Yes));
        sent = subst (λ (t : List ℕ). Sent before (held ++ t) held' after) (sym (cases_text-one case)) sent;
      }

  broken_after :
      (Plays : Play → State → Type 0) (held : List ℕ) (before after : Option (List ℕ)) → Plays play new
      → BreaksGap port found count play.outcome held before after → BreaksOne Plays desk port held before after
  broken_after Plays held before after plays (unmade same_written) =
      no_play (subst (λ (w : Option (List ℕ)). HavePart port [] held before w) (sym same_written) (no_part port held before))
  broken_after Plays held before after plays (unwritten case repaired missing of part) =
      let its = its_case case repaired missing of in
      one_play play new plays (record {
        cases = case ∷ [];
        are = one_case_of port (record { desk = desk; play = play }) (case ∷ []) (a_loss case its.0 its.1 refl);
        part = subst (λ (t : List ℕ). GainsPart before (held ++ t) after) (sym (cases_text-one case)) part;
      })

-- So it is told of such a play, and so its telling breaks off, after a look that left what is told of the gaps as it was.
module _
    (law : TrueCasesAreProved) {looked gaps : Gaps} (left : looked ≡ gaps) {count n : ℕ} {found desk new : State} (play : Play)
    (Plays : Play → State → Type 0) (plays : Plays play new) (same : SameGaps found desk) (is : IsPlay n desk play new)
    (counts : length play.shown ≡ count) {before after : Option (List ℕ)} where
  pub tells_one :
      {held' : List ℕ} → Holds found → HasRoom found → found.playout.depth ≤ 1000 → count ≤ 100
      → TellsGap looked.port found count play.outcome looked.text.held before held' after
      → TellsOne Plays desk gaps.port gaps.text.held before new held' after
  tells_one {held'} holds room depth few so = record {
    play = play;
    plays = plays;
    told = told_after law gaps.port count n found desk new play same is counts gaps.text.held held' before after holds room depth few
        (subst (λ (at : Gaps). TellsGap at.port found count play.outcome at.text.held before held' after) left so);
  }

  pub breaks_one :
      BreaksGap looked.port found count play.outcome looked.text.held before after
      → BreaksOne Plays desk gaps.port gaps.text.held before after
  breaks_one off =
      broken_after law gaps.port count n found desk new play same is counts Plays gaps.text.held before after plays
      (subst (λ (at : Gaps). BreaksGap at.port found count play.outcome at.text.held before after) left off)

-- How many positions a held play closes

pub held_counts :
    (desk new : State) (time greatest : ℕ) (play : Play) → IsGreatest (IsHeld (at_time desk time)) greatest → IsHeldStep desk time (Some play) new
    → length play.shown ≤ min desk.playout.window (greatest + 1 - desk.mark)
held_counts desk new time greatest play is step =
    let most : step.greatest ≤ greatest = is.greatest step.greatest step.greatest_is.inside in
    let long : length play.shown ≡ min desk.playout.window (step.greatest + 1 - desk.mark) = step.plays.length_is in
    omega (arith, most, long)

-- How many positions are kept from a first one on.
pub kept_long : (desk : Contents) (first count : ℕ) → length (kept_from desk first count) ≡ count
kept_long desk first count = length-map-range_with_len (kept_shown (known desk.state) desk.repaired) first count

-- A held play closes no more positions than were looked at.
pub held_looked :
    (desk new : State) (time count : ℕ) (play : Play) → (count ≡ 0 → (position : ℕ) → ¬ IsHeld (at_time desk time) position)
    → (count ≢ 0 → (greatest : ℕ) × IsGreatest (IsHeld (at_time desk time)) greatest × (count ≡ min desk.playout.window (greatest + 1 - desk.mark)))
    → IsHeldStep desk time (Some play) new → length play.shown ≤ count
held_looked desk new time zero play none some step = absurd (none refl step.greatest step.greatest_is.inside)
held_looked desk new time (suc n) play none some step =
    let looked = some (λ e. omega (arith, e)) in
    subst (λ m. length play.shown ≤ m) (sym looked.2) (held_counts desk new time looked.0 play looked.1 step)
