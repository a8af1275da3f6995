-- What is played before a media datagram: all that is left, where its SSRC is fresh, and else what is due.
use Rattle.std.proofs.Common.{◌≡◌, ℕ, Option, sym, ap, subst, ◌∙◌, inl, inr}
use Rattle.fg_io.specs.Outlet.{Lanes}
use Rattle.fg_desk.specs.Arrivals.{FlushesWithin, ThenStaysWithin}
use Rattle.fg_playout.specs.State.{State}
use Rattle.fg_playout.specs.Admission.{IsDue, IsFresh, counted}
use Rattle.fg_playout.specs.Play.{HasMore}
use Rattle.fg_playout.specs.Room.{HasRoom}
use Rattle.fg_playout.specs.Run.{ArePlaysBefore, by_flush, IsFlush}
use Rattle.fg_playout.specs.Laws.{HavePlayed, HavePlayedBefore, AreFlushSteps, FlushStepsEnd, ReadyAfterPlays}
use Rattle.fg_report.specs.declared.flow_sum.FlowSum.{FlowSum}
use Rattle.fg_engine.specs.Steps.{HaveShown, BreakOff}

-- A flush was shown, and then a call found nothing left.
abbrev HasFlushed : State → FlowSum → Option Lanes → State → FlowSum → Option Lanes → Type 0
HasFlushed old sum before new sum' after =
    (empty : State) × (new ≡ counted empty) × HaveShown (IsFlush old) old sum before empty sum' after

module _ (old : State) (seq ssrc : ℕ) where
  pub flushes_if_fresh : ThenStaysWithin old → IsFresh old ssrc → FlushesWithin old
  flushes_if_fresh within fresh flushed new steps = (let h = within seq ssrc flushed new (inl (fresh, steps)) in (h.0, h.1))

  -- A flush, where the SSRC is fresh.
  module _ (fresh : IsFresh old ssrc) {new : State} {sum sum' : FlowSum} {before after : Option Lanes} where
    pub flushed_before : HasFlushed old sum before new sum' after → HaveShown (ArePlaysBefore old seq ssrc) old sum before new sum' after
    flushed_before (empty, counts, so) = record {
      plays = so.plays;
      are = by_flush empty fresh so.are counts;
      mark = ap (λ (desk : State). desk.mark) counts ∙ so.mark;
      grows = so.grows;
      counts = so.counts;
    }

    pub room_if_flushed : FlushStepsEnd → ThenStaysWithin old → HasFlushed old sum before new sum' after → HasRoom new
    room_if_flushed end within (empty, counts, so) =
        subst HasRoom (sym counts) (within seq ssrc so.plays empty (inl (fresh, ((end old empty so.plays).0 so.are).0))).2

    -- The datagram can be admitted then.
    pub none_due_then : ReadyAfterPlays → HasFlushed old sum before new sum' after → ¬ IsDue new seq ssrc
    none_due_then ready flushed = (let so = flushed_before flushed in (ready old new seq ssrc so.plays so.are).0)

    pub nothing_left_then : ReadyAfterPlays → HasFlushed old sum before new sum' after → IsFresh new ssrc → ¬ HasMore new
    nothing_left_then ready flushed = (let so = flushed_before flushed in (ready old new seq ssrc so.plays so.are).1)

  -- A fault.
  module _ {port : ℕ} {before after : Option Lanes} where
    pub flush_breaks_off :
        IsFresh old ssrc → BreakOff (AreFlushSteps old) port before after → BreakOff (HavePlayedBefore old seq ssrc) port before after
    flush_breaks_off fresh off = record { plays = off.plays; now = off.now; are = inl (fresh, off.are); part = off.part }

    pub due_breaks_off :
        ¬ IsFresh old ssrc → BreakOff (HavePlayed old seq ssrc) port before after → BreakOff (HavePlayedBefore old seq ssrc) port before after
    due_breaks_off stale off = record { plays = off.plays; now = off.now; are = inr (stale, off.are); part = off.part }
