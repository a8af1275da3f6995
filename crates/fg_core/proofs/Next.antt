-- What each call of the admitter keeps of a desk.
use Rattle.std.proofs.Common.{◌≡◌, ◌+◌, ◌<◌, ◌≤◌, ℕ, true, Some, IsSome, sym, ap, subst, ◌∙◌, arith}
use Rattle.std.specs.FinMap.{get}
use Rattle.std.specs.FinSet.{contains}
use Rattle.fg_words.specs.declared.Word.{Word}
use Rattle.fg_playout.specs.declared.reply.Outcome.{Outcome}
use Rattle.fg_playout.specs.declared.reply.Outcome.TheVariants.{Repaired, Inconsistent}
use Rattle.fg_playout.specs.State.{State, Live}
use Rattle.fg_playout.specs.Admission.{kept_count, counted}
use Rattle.fg_playout.specs.Held.{at_time}
use Rattle.fg_desk.specs.Contents.{Contents, AreSolved, ChangesInPlay, known_in}

-- Each bare position is a kept one.
abbrev pub AreBareKept : Contents → Type 0
AreBareKept desk = (position : ℕ) → contains desk.bare position ≡ true → IsSome (get desk.state.kept position)

pub record IsNext (old new : Contents) : Type 0 where
  -- The three numbers never fall, and the epoch rises by one at most.
  pub mark : old.state.mark ≤ new.state.mark
  pub admitted : old.state.admitted ≤ new.state.admitted
  pub epoch : old.epoch ≤ new.epoch
  pub one_more : new.epoch ≤ old.epoch + 1
  -- In one epoch a word stays known, as long as it isn't more than 100 positions before the mark.
  pub words :
      new.epoch ≡ old.epoch → (slot : ℕ) (word : Word) → new.state.mark ≤ slot + kept_count
      → known_in old slot ≡ Some word → known_in new slot ≡ Some word
  -- No equation becomes live under a serial number that was given before.
  pub lives :
      (serial : ℕ) (live : Live) → serial < old.state.admitted → get new.state.equations serial ≡ Some live
      → get old.state.equations serial ≡ Some live
  pub solved : AreSolved new
  pub bare : AreBareKept new

-- The desk with the clock at a time, after a call that is counted.
abbrev counted_at : State → ℕ → State
counted_at desk clock = record (counted desk) { clock = clock }

counted_is_next :
    (old new : Contents) (clock : ℕ) → AreSolved old → AreBareKept old → new ≡ record old { state = new.state }
    → new.state ≡ counted_at old.state clock → IsNext old new
counted_is_next old new clock solved bare rest is =
    let same : new ≡ record old { state = counted_at old.state clock } = rest ∙ ap (λ (s : State). record old { state = s }) is in
    subst (λ (d : Contents). IsNext old d) (sym same) (record {
      mark = omega arith;
      admitted = omega arith;
      epoch = omega arith;
      one_more = omega arith;
      words = λ _ slot word _ known. known;
      lives = λ serial live _ is. is;
      solved = record { peeled = solved.peeled; beside = solved.beside };
      bare = bare;
    })

-- A call that is counted, and changes nothing else.
pub is_next_counted :
    (old new : Contents) → AreSolved old → AreBareKept old → new ≡ record old { state = new.state }
    → new.state ≡ counted old.state → IsNext old new
is_next_counted old new solved bare rest is = counted_is_next old new old.state.clock solved bare rest is

-- The desk once it is told a time.
abbrev pub desk_told : Contents → ℕ → Contents
desk_told desk time = record desk { state = at_time desk.state time }

-- A call that is counted, and tells a time.
pub is_next_told :
    (old new : Contents) (time : ℕ) → AreSolved old → AreBareKept old → new ≡ record old { state = new.state }
    → new.state ≡ counted (at_time old.state time) → IsNext old new
is_next_told old new time solved bare rest is =
    counted_is_next old new (at_time old.state time).clock solved bare rest is

-- What is solved and known is so whatever the clock tells.
module _ (old new : Contents) (time : ℕ) where
  pub told_solved : AreSolved old → AreSolved (desk_told old time)
  told_solved solved = record { peeled = solved.peeled; beside = solved.beside }

  pub told_changes : (outcome : Outcome) → ChangesInPlay outcome old new → ChangesInPlay outcome (desk_told old time) new
  told_changes Repaired changes =
      record { bare = changes.bare; repaired = changes.repaired; solved = changes.solved; epoch = changes.epoch }
  told_changes Inconsistent changes =
      record { bare = changes.bare; repaired = changes.repaired; solved = changes.solved; epoch = changes.epoch }

  pub next_of_told : IsNext (desk_told old time) new → IsNext old new
  next_of_told next = record {
    mark = next.mark;
    admitted = next.admitted;
    epoch = next.epoch;
    one_more = next.one_more;
    words = next.words;
    lives = next.lives;
    solved = next.solved;
    bare = next.bare;
  }
