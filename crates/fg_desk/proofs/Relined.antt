-- What was said of a desk's lines before some of them were settled holds of them after.
use Rattle.std.proofs.Common.{◌≡◌, ℕ, Bool, sym, ap, subst, ◌∙◌}
use Rattle.std.specs.FinMap.{FinMap, get}
use Rattle.std.specs.Ordering.{nat_cmp}
use Rattle.fg_peel.specs.Equation.{IsSettled}
use Rattle.fg_playout.specs.declared.reply.Outcome.{Outcome}
use Rattle.fg_playout.specs.declared.reply.Outcome.TheVariants.{Repaired, Inconsistent}
use Rattle.fg_playout.specs.State.{Live}
use Rattle.fg_hold.specs.Waiting.{WaitingState}
use Rattle.fg_buffer.specs.PlayoutBuffer.{BufferState, buffer_words}
use Rattle.fg_buffer.specs.LiveEquations.{LiveState}
use Rattle.fg_desk.specs.declared.desk.Played.{Played}
use Rattle.fg_desk.specs.Closing.{ClosesFirst}
use Rattle.fg_desk.specs.Inside.{Parts, AreSound}
use Rattle.fg_desk.specs.Storage.{AreInBuffer, EachSettled, Closes}
use Rattle.fg_desk.proofs.DeskPlays.{sound_from}

-- A desk is sound with its lines, of which others are settled that come out.
module _
    (parts : Parts) (sound : AreSound parts) (left : LiveState) (live : left.live ≡ parts.lines.live)
    (settled : EachSettled left (IsSettled (buffer_words parts.buffer))) where
  lines_then : LiveState
  lines_then = record { live = parts.lines.live; settled = left.settled }

  lines_are : record { live = parts.lines.live; settled = left.settled } ≡ left
  lines_are = λ i. record { live = sym live i; settled = left.settled }

  pub sound_relined : AreSound (record parts { lines = left })
  sound_relined =
      subst (λ (l : LiveState). AreSound (record parts { lines = l })) lines_are
      (sound_from (record parts { lines = record { live = parts.lines.live; settled = left.settled } }) sound.limits sound.facts sound.cached
      sound.solved sound.peeled
      (λ serial line is here. settled serial line (ap (λ (m : FinMap nat_cmp Live). get m serial) live ∙ is) here)
      sound.rooms sound.beside)

module _ (lines now : LiveState) (live : now.live ≡ lines.live) where
  at : (serial : ℕ) → get now.live serial ≡ get lines.live serial
  at serial = ap (λ (m : FinMap nat_cmp Live). get m serial) live

  pub in_buffer_still : (buffer : BufferState) → AreInBuffer buffer lines → AreInBuffer buffer now
  in_buffer_still buffer within serial line is = within serial line (sym (at serial) ∙ is)

  closes_from :
      (outcome : Outcome) (count : ℕ) (buffer new : BufferState) (left : LiveState) → Closes outcome count buffer now new left
      → Closes outcome count buffer lines new left
  closes_from Inconsistent count buffer new left closes = closes
  closes_from Repaired count buffer new left closes = (
    closes.0,
    record {
      live = λ serial line. (
        λ is. (let r = (closes.1.live serial line).0 is in (sym (at serial) ∙ r.0, r.1)),
        λ r. (closes.1.live serial line).1 (at serial ∙ r.0, r.1),
      );
      settled = closes.1.settled;
    },
  )

  pub closes_still :
      (solved : Bool) (count : ℕ) (buffer : BufferState) (waiting : WaitingState) (epoch : ℕ) (play : Played) (new : BufferState)
      (left : LiveState) (rest : WaitingState) (raised : ℕ)
      → ClosesFirst solved count buffer now waiting epoch play new left rest raised
      → ClosesFirst solved count buffer lines waiting epoch play new left rest raised
  closes_still solved count buffer waiting epoch play new left rest raised closes = record {
    facts = closes.facts;
    first = closes.first;
    count_is = closes.count_is;
    closes = closes_from play.verdict count buffer new left closes.closes;
    outcome = closes.outcome;
    moves = closes.moves;
    epoch_is = closes.epoch_is;
  }
