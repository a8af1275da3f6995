-- What comes of a datagram that is taken.
use Rattle.std.proofs.Common.{◌≡◌, ◌≢◌, ◌++◌, ℕ, List, [], Option, Some, None, refl, sym, ap, subst, ◌∙◌, append_assoc}
use Rattle.fg_words.specs.declared.Word.{Word}
use Rattle.fg_io.specs.Outlet.{Lanes}
use Rattle.fg_rtp.specs.MediaDatagram.{IsMediaDatagram}
use Rattle.fg_rtp.specs.Laws.{ReadsOneWay}
use Rattle.fg_shape.specs.declared.kind.Kind.{Kind}
use Rattle.fg_shape.specs.declared.kind.Kind.TheVariants.{Media}
use Rattle.fg_playout.specs.declared.reply.Reply.{Reply}
use Rattle.fg_shape.specs.declared.kind.Kind.TheVariants as kind
use Rattle.fg_playout.specs.State.{State}
use Rattle.fg_playout.specs.Admission.{AdmitsMedia}
use Rattle.fg_playout.specs.Play.{Play}
use Rattle.fg_playout.specs.Run.{Arrival, carries, protects, refused, time_of, ArePlaysHeld, ArePlaysBefore, TakesThen}
use Rattle.fg_playout.specs.Laws.{AreHeldSteps, HavePlayedBefore, HavePlayedThen, still_held, then_played, FreshIsDecided}
use Rattle.fg_report.specs.declared.flow_sum.FlowSum.{FlowSum}
use Rattle.fg_results.specs.Flow.{IsReadAs, lane_of}
use Rattle.fg_engine.specs.Steps.{Grows, HaveShown, HaveHeld, BreakOff, AdmitsDatagram, AdmitsThen, BreaksAtDatagram, BreaksThen, with_plays}
use Rattle.fg_desk.proofs.Within.{nothing_before}
use Rattle.fg_results.proofs.ShownLemmas.{lane_more}
use Rattle.fg_engine.proofs.Counting.{plays_more}
use Rattle.fg_engine.proofs.Growing.{grows_none, grows_join}
use Rattle.fg_io.proofs.PrefixLemmas.{IsPrefix-nil}
use Rattle.fg_engine.proofs.Showing.{counts_none}

-- One that plays nothing.
pub plays_nothing :
    (kind : Kind) (time : ℕ) (bytes : List ℕ) (old : State) (sum : FlowSum) (lanes : Option Lanes) (reply : Option Reply) (new : State)
    (arrival : Arrival) → time_of arrival ≡ time → IsReadAs kind bytes arrival → TakesThen old arrival [] reply new
    → AdmitsThen kind time bytes old sum lanes reply new sum lanes
plays_nothing kind time bytes old sum lanes reply new arrival came read takes = record {
  arrival = arrival;
  came = came;
  due = [];
  read = read;
  takes = takes;
  grows = grows_none lanes sum.port;
  counts = counts_none sum old.mark;
}

pub media_is_refused :
    (time : ℕ) (bytes : List ℕ) (old : State) (sum : FlowSum) (lanes : Option Lanes)
    → ((seq ssrc : ℕ) (word : Word) → ¬ IsMediaDatagram bytes seq ssrc word)
    → AdmitsThen Media time bytes old sum lanes None old sum lanes
media_is_refused time bytes old sum lanes none =
    plays_nothing Media time bytes old sum lanes None old (refused time kind.Media) refl (refl, none) (refl, refl)

pub media_is_admitted :
    (time : ℕ) (bytes : List ℕ) (old due new : State) (sum sum' : FlowSum) (before after : Option Lanes) (seq ssrc : ℕ) (word : Word)
    (reply : Reply) → IsMediaDatagram bytes seq ssrc word
    → HaveShown (ArePlaysBefore old seq ssrc) old sum before due sum' after → AdmitsMedia due seq ssrc word reply new
    → AdmitsThen Media time bytes old sum before (Some reply) new sum' after
media_is_admitted time bytes old due new sum sum' before after seq ssrc word reply is so admits = record {
  arrival = carries time seq ssrc word;
  came = refl;
  due = so.plays;
  read = is;
  takes = (due, so.are, admits);
  grows = so.grows;
  counts = so.counts;
}

-- Nothing was played yet.
nothing_then : FreshIsDecided → (old : State) (arrival : Arrival) → HavePlayedThen old arrival [] old
nothing_then decided old (carries time seq ssrc word) = nothing_before decided old seq ssrc
nothing_then decided old (protects time stream parity) = (refl, refl)
nothing_then decided old (refused time stream) = (refl, refl)

-- A fault before any play.
pub breaks_at_once :
    FreshIsDecided → (kind : Kind) (time : ℕ) (bytes : List ℕ) (old : State) (port : ℕ) (lanes : Option Lanes)
    → BreaksThen kind time bytes old port lanes lanes
breaks_at_once decided kind time bytes old port lanes = record {
  part = [];
  grows = grows_none lanes port;
  begins = λ arrival came read.
      record { plays = []; now = old; are = nothing_then decided old arrival; front = IsPrefix-nil [] };
}

same_sender :
    ReadsOneWay → (bytes : List ℕ) (old : State) (seq ssrc : ℕ) (word : Word) (plays : List Play) (now : State)
    → IsMediaDatagram bytes seq ssrc word → HavePlayedBefore old seq ssrc plays now
    → (arrival : Arrival) → IsReadAs Media bytes arrival → HavePlayedThen old arrival plays now
same_sender one bytes old seq ssrc word plays now is played (carries time' seq' ssrc' word') read =
    let same = one bytes seq ssrc seq' ssrc' word word' is read in
    subst (λ (n : ℕ). HavePlayedBefore old n ssrc' plays now) same.0
    (subst (λ (n : ℕ). HavePlayedBefore old seq n plays now) same.1 played)
same_sender one bytes old seq ssrc word plays now is played (protects time' by parity) read = absurd read
same_sender one bytes old seq ssrc word plays now is played (refused time' by) read = absurd (read.1 seq ssrc word is)

pub media_breaks_off :
    ReadsOneWay → (time : ℕ) (bytes : List ℕ) (old : State) (port : ℕ) (before after : Option Lanes) (seq ssrc : ℕ) (word : Word)
    → IsMediaDatagram bytes seq ssrc word → BreakOff (HavePlayedBefore old seq ssrc) port before after
    → BreaksThen Media time bytes old port before after
media_breaks_off one time bytes old port before after seq ssrc word is off = record {
  part = off.part.0;
  grows = off.part.2;
  begins = λ arrival came read. record {
    plays = off.plays;
    now = off.now;
    are = same_sender one bytes old seq ssrc word off.plays off.now is off.are arrival read;
    front = off.part.1;
  };
}

-- Held plays were made where there is a limit.
pub held_off :
    (old : State) (time : ℕ) {port : ℕ} {before after : Option Lanes} → old.playout.hold ≢ 0
    → BreakOff (AreHeldSteps old time) port before after → BreakOff (HaveHeld old time) port before after
held_off old time some off = record { plays = off.plays; now = off.now; are = (some, off.are); part = off.part }

-- A datagram that is taken where its held plays are made, is taken.
pub admitted_whole :
    (kind : Kind) (time : ℕ) (bytes : List ℕ) (old ready new : State) (sum between last : FlowSum) (before middle after : Option Lanes)
    (reply : Option Reply) → between.port ≡ sum.port
    → HaveShown (ArePlaysHeld old time) old sum before ready between middle
    → ((t : ℕ) → AdmitsThen kind t bytes ready between middle reply new last after)
    → AdmitsDatagram kind time bytes old sum before reply new last after
admitted_whole kind time bytes old ready new sum between last before middle after reply port so admits =
    let a = admits time in
    record {
      arrival = a.arrival;
      came = a.came;
      due = so.plays ++ a.due;
      read = a.read;
      takes = record {
        held = so.plays;
        after = a.due;
        ready = ready;
        plays_are = refl;
        holds = subst (λ (t : ℕ). ArePlaysHeld old t so.plays ready) (sym a.came) so.are;
        takes = a.takes;
      };
      grows =
          subst (λ (piece : List ℕ). Grows before sum.port piece after) (sym (lane_more so.plays a.due))
          (grows_join before middle after sum.port (lane_of so.plays) (lane_of a.due) so.grows
          (subst (λ (at : ℕ). Grows middle at (lane_of a.due) after) port a.grows));
      counts =
          a.counts
          ∙ (λ i. with_plays (so.counts i) (so.mark i) a.due)
          ∙ plays_more sum old.mark so.plays a.due;
    }

-- And a fault that comes so, comes while it is taken.
pub held_breaks_off :
    (kind : Kind) (time : ℕ) (bytes : List ℕ) (old : State) (port : ℕ) (before after : Option Lanes)
    → BreakOff (HaveHeld old time) port before after → BreaksAtDatagram kind time bytes old port before after
held_breaks_off kind time bytes old port before after off = record {
  part = off.part.0;
  grows = off.part.2;
  begins = λ arrival came read. record {
    plays = off.plays;
    now = off.now;
    are = still_held off.are.0 (subst (λ (t : ℕ). AreHeldSteps old t off.plays off.now) (sym came) off.are.1);
    front = off.part.1;
  };
}

pub then_breaks_off :
    (kind : Kind) (time : ℕ) (bytes : List ℕ) (old ready : State) (sum between : FlowSum) (before middle after : Option Lanes)
    → between.port ≡ sum.port → HaveShown (ArePlaysHeld old time) old sum before ready between middle
    → ((t : ℕ) → BreaksThen kind t bytes ready between.port middle after)
    → BreaksAtDatagram kind time bytes old sum.port before after
then_breaks_off kind time bytes old ready sum between before middle after port so breaks =
    let off = breaks time in
    record {
      part = lane_of so.plays ++ off.part;
      grows =
          grows_join before middle after sum.port (lane_of so.plays) off.part so.grows
          (subst (λ (at : ℕ). Grows middle at off.part after) port off.grows);
      begins = λ arrival came read.
          (let b = off.begins arrival came read in
          record {
            plays = so.plays ++ b.plays;
            now = b.now;
            are = then_played so.plays b.plays ready (subst (λ (t : ℕ). ArePlaysHeld old t so.plays ready) (sym came) so.are) refl b.are;
            front = (
              b.front.0,
              lane_more so.plays b.plays
                  ∙ ap (λ (bytes : List ℕ). lane_of so.plays ++ bytes) b.front.1
                  ∙ sym (append_assoc (lane_of so.plays) off.part b.front.0),
            );
          });
    }
