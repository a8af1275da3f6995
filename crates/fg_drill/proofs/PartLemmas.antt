-- Outputs that are as they were have gained parts of what a drill or a sample gives.
use Rattle.std.proofs.Common.{◌≡◌, ◌⊎◌, inl, ℕ, List, [], ◌∷◌, Option, None, Some, IfSome, refl, sym, append-nil}
use Rattle.std.specs.List.{AllZip}
use Rattle.fg_io.specs.Outlet.{Lanes, lane_bytes, WhereTold}
use Rattle.fg_io.specs.Sink.{GainsPart}
use Rattle.fg_shape.specs.declared.encoding.Losses.{Losses}
use Rattle.fg_shape.specs.declared.encoding.Settings.{Settings}
use Rattle.fg_shape.specs.Playout.{Playout}
use Rattle.fg_trace.specs.Trace.{Record, Ended}
use Rattle.fg_flows.specs.declared.Plan.{Plan}
use Rattle.fg_flows.specs.Plan.{playout_of}
use Rattle.fg_encode.specs.Stream.{StreamEnding, IsCut}
use Rattle.fg_results.specs.Flow.{FlowResult, IsFlowResult}
use Rattle.fg_results.specs.Lanes.{LaneGainsPart, PutsAll, PutsAllPart, OthersStay}
use Rattle.fg_results.specs.Repair.{AreResults, lanes_of, report_text}
use Rattle.fg_drill.specs.Drill.{DrillsPart, records_sent}
use Rattle.fg_drill.specs.Sample.{SamplesPart, sample_line}

lane_stays : (lanes : Lanes) (port : ℕ) (piece : List ℕ) → LaneGainsPart lanes lanes port piece
lane_stays lanes port piece = record {
  part = [];
  front = (piece, refl);
  bytes = sym (append-nil (lane_bytes lanes port));
  kept = λ h. h;
}

lanes_stay : (playout : Playout) (records : List Record) (lanes : Lanes) (ports : List ℕ) (results : List FlowResult)
    → AllZip (IsFlowResult playout records) ports results → AllZip (LaneGainsPart lanes lanes) ports (lanes_of results)
lanes_stay playout records lanes [] [] h = tt
lanes_stay playout records lanes [] (r ∷ rs) h = absurd h
lanes_stay playout records lanes (p ∷ ps) [] h = absurd h
lanes_stay playout records lanes (p ∷ ps) (r ∷ rs) h = (lane_stays lanes p r.lane, lanes_stay playout records lanes ps rs h.1)

pub nothing_put : (plan : Plan) (records : List Record) (results : List FlowResult) (lanes : Option Lanes)
    → AreResults plan records results → PutsAllPart lanes plan.table (lanes_of results) lanes
nothing_put plan records results None h = tt
nothing_put plan records results (Some lanes) h = record {
  lanes = lanes_stay (playout_of plan) records lanes plan.table results h;
  others = λ other no. refl;
}

pub others_stay : (plan : Plan) (lanes : Option Lanes) → WhereTold (OthersStay plan.table) lanes lanes
others_stay plan None = tt
others_stay plan (Some lanes) = λ other no. refl

no_front : {K : Type 0} (settings : Settings) (plan : Plan) (losses : Losses) (max : ℕ) (input : Option (List ℕ)) (lanes : Option Lanes) (written : K → Option (List ℕ)) (out : K)
    → IfSome input (λ bytes. (payloads : List (List ℕ)) (end : StreamEnding) (results : List FlowResult)
    → IsCut settings.packets max bytes payloads end → AreResults plan (records_sent settings losses payloads) results
    → (PutsAllPart lanes plan.table (lanes_of results) lanes × (out ≡ out))
    ⊎ (PutsAll lanes plan.table (lanes_of results) lanes × GainsPart (written out) (report_text plan (records_sent settings losses payloads) results Ended) (written out)))
no_front settings plan losses max None lanes written out = tt
no_front settings plan losses max (Some bytes) lanes written out = λ payloads end results cut are. inl (nothing_put plan (records_sent settings losses payloads) results lanes are, refl)

pub no_drill : {K : Type 0} (settings : Settings) (plan : Plan) (losses : Losses) (max : ℕ) (input : Option (List ℕ)) (lanes : Option Lanes) (written : K → Option (List ℕ)) (out : K)
    → DrillsPart settings plan losses max input lanes lanes written out out
no_drill settings plan losses max input lanes written out = record {
  others = others_stay plan lanes;
  front = no_front settings plan losses max input lanes written out;
}

-- where the sink has gained part of the line at most, and no lane is touched
pub no_sample : (seed datagrams loss : ℕ) (plan : Plan) (lanes : Option Lanes) (written written' : Option (List ℕ))
    → GainsPart written (sample_line seed datagrams loss) written' → SamplesPart seed datagrams loss plan lanes lanes written written'
no_sample seed datagrams loss plan lanes written written' part = record {
  others = others_stay plan lanes;
  front = inl (refl, part);
}
