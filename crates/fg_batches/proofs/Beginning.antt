-- Each stage before its first batch.
use Rattle.std.proofs.Common.{◌≡◌, ℕ, ◌<◌, ◌^◌, ◌-◌, Bool, false, Option, None, List, [], length, take, zero, suc, slice_index, refl, sym, ap, ◌∙◌, subst, arith}
use Rattle.std.specs.List.{slice_index_or}
use Rattle.std.proofs.lemmas.List.Elements.{All-nil}
use Rattle.fg_io.specs.Outlet.{Lanes}
use Rattle.fg_shape.specs.Playout.{Playout, PlayoutFits}
use Rattle.fg_trace.specs.Reader.{ReaderState}
use Rattle.fg_flows.specs.declared.Plan.{Plan}
use Rattle.fg_flows.specs.Flows.{IsTable}
use Rattle.fg_flows.specs.Plan.{PlanFits}
use Rattle.fg_flows.specs.Sheaf.{no_items}
use Rattle.fg_engine.specs.View.{FlowView}
use Rattle.fg_engine.specs.Engine.{FlowStands}
use Rattle.fg_engine.proofs.Lanes.{grow_none}
use Rattle.fg_engine.proofs.Standing.{flow_taken}
use Rattle.fg_batches.specs.declared.gathering.Gathering.{Gathering}
use Rattle.fg_batches.specs.BatchView.{BatchView}
use Rattle.fg_batches.specs.Batches.{CanRun, HasRun, WaitFor}
use Rattle.fg_batches.specs.Gathering.{HasGathered}
use Rattle.fg_batches.specs.Stages.{GivesBatches, HavePlayed, PutsRows, RanRows}
use Rattle.fg_batches.specs.Walking.{IsReady}
use Rattle.fg_batches.proofs.Runs.{ran_none}

-- The reader has given none.
pub gives_none :
    (plan : Plan) → PlanFits plan → (left : Option (List ℕ)) (faults : ℕ) (reader : ReaderState) (gathering : Gathering) (first : Option (List ℕ))
    → HasGathered plan first left reader [] [] gathering → gathering.sheaf ≡ no_items (length plan.table) → reader.kept ≡ None → reader.max ≡ plan.max
    → GivesBatches plan left left (faults, faults) reader reader gathering gathering None []
gives_none plan fits left faults reader gathering first h free unkept max = record {
  fits = fits;
  begins = (first, h);
  came = λ first h. ([], tt, (h, unkept));
  far = λ first h. h;
  free = free;
  max = max;
  counts = refl;
}

-- The flows have run none.
fresh : (plan : Plan) → PlanFits plan → (port : ℕ) (flow : FlowView) (lane : List ℕ) → FlowStands plan [] port flow lane → CanRun flow (2 ^ 43 - 1)
fresh plan fits port flow lane h = record {
  records = [];
  lane = lane;
  few = omega arith;
  taken = flow_taken plan [] port flow lane h;
  fits = subst (λ (w : Playout). PlayoutFits w) (sym h.playout_is) fits.playout;
}

ran_no_rows :
    (table : List ℕ) (flows : List BatchView) → ((k : ℕ) (d : BatchView) → k < length flows → (slice_index_or flows k d).shelf ≡ []) → RanRows table flows [] [] flows
ran_no_rows table flows empty = record {
  count = refl;
  long = refl;
  wait = All-nil (WaitFor table);
  empty = empty;
  ran = λ k d below.
      let flow = slice_index_or flows k d in
      subst (λ (bytes : List ℕ). HasRun [] flow (record flow { shelf = bytes })) (empty k d below) (ran_none flow);
}

none_at : (table : List ℕ) (flows : List BatchView) → RanRows table flows [] [] flows → (j : ℕ) → RanRows table flows (take j []) (take j []) flows
none_at table flows h zero = h
none_at table flows h (suc j) = h

pub played_none :
    (plan : Plan) → PlanFits plan → (first now : Option (List ℕ)) (reader : ReaderState) (gathering : Gathering) (flows : List BatchView) (before after : Option Lanes) (table : List ℕ) (starved : Bool)
    → plan.table ≡ table → starved ≡ false → IsReady plan first now reader gathering flows before after → HavePlayed table flows flows [] [] starved
played_none plan fits first now reader gathering flows before after table starved named fed h =
    let within : (k : ℕ) → k < length flows → k < length plan.table = λ k below. subst (λ n. k < n) h.count below in
    let none = ran_no_rows table flows (λ k d below. h.empty k d (within k below)) in
    record {
      good = subst IsTable named fits.table;
      count = h.count ∙ ap length named;
      fresh = λ k d below. fresh plan fits (slice_index plan.table k) (slice_index_or flows k d).flow (h.gained (slice_index plan.table k)) (h.stand k d (within k below));
      at = λ j few. (flows, none_at table flows none j);
      last = λ _. none;
      short = λ is. absurd (let no = fed in cc);
    }

-- The lanes have gained nothing.
pub put_none : (table : List ℕ) (lanes : Option Lanes) (faults : ℕ) → PutsRows table lanes lanes (faults, faults) [] false
put_none table lanes faults = record {
  gained = λ plan fits is. grow_none lanes table;
  counts = refl;
}
