-- Where a fault stops a repair, in the trace of its input.
use Rattle.std.proofs.Common.{◌≡◌, ◌⊎◌, inl, inr, ℕ, suc, ◌+◌, Option, Some, None, List, [], ◌∷◌, ◌++◌, length, map, take, drop, refl, sym, ap, ◌∙◌, subst, arith, append_assoc, length-append}
use Rattle.std.specs.List.{AllZip, Contains}
use Rattle.std.proofs.Math.Seq.{take-append_seam}
use Rattle.std.proofs.lemmas.List.{take-append-drop}
use Rattle.fg_io.specs.Outlet.{Lanes, lane_of, lane_bytes}
use Rattle.fg_flows.specs.declared.Plan.{Plan}
use Rattle.fg_flows.specs.Plan.{playout_of}
use Rattle.fg_trace.specs.declared.step.Finish.{Finish}
use Rattle.fg_trace.specs.Trace.{Record}
use Rattle.fg_engine.specs.Engine.{GrowAll, AreThere, BreaksAfter, MakesFirst}
use Rattle.fg_results.specs.Lanes.{PutsAll}
use Rattle.fg_results.specs.Stops.{Growth, LanesShow, LeavesWhole, MayStopAt, Stops, HasShown, LiesBetween, Stage, Making, Taking, made_at, HasGained, HasGainedPart}
use Rattle.fg_results.proofs.StopLemmas.{may_make, may_take}
use Rattle.fg_engine.proofs.Flushing.{some_is}

-- What the lanes have gained, in the order of the ports

pub each_piece : (ports : List ℕ) (P : ℕ → List ℕ → Type 0) (gained : ℕ → List ℕ) → ((port : ℕ) → Contains ports port → P port (gained port)) → AllZip P ports (map gained ports)
each_piece [] P gained f = tt
each_piece (p ∷ ports) P gained f = (f p (0, omega arith, refl), each_piece ports P gained (λ port c. f port (suc c.0, omega (arith, c.1), c.2)))

each_put : (ports : List ℕ) (gained : ℕ → List ℕ) (before after : Option Lanes) → GrowAll before ports gained after → AreThere ports after → PutsAll before ports (map gained ports) after
each_put ports gained (Some old) (Some new) g t = record {
  lanes = each_piece ports (λ port piece. lane_of new port ≡ Some (lane_bytes old port ++ piece)) gained
      (λ port c. some_is (lane_of new port) (lane_bytes old port ++ gained port) (t port c) (g.lanes port c).bytes);
  others = g.others;
}
each_put ports gained (Some old) None g t = absurd g
each_put ports gained None (Some new) g t = absurd g
each_put ports gained None None g t = tt

pub stops_at :
    (growth : Growth) (plan : Plan) (answer : Finish) (records : List Record) (stage : Stage) (broken : Option ℕ) (gained : ℕ → List ℕ) (before after : Option Lanes)
    → MayStopAt growth answer stage → (LeavesWhole growth answer stage → broken ≡ None)
    → ((flow : ℕ) → Contains (made_at plan stage) flow
    → HasGained plan records stage flow (gained flow) ⊎ ((broken ≡ Some flow) × HasGainedPart plan records stage flow (gained flow)))
    → GrowAll before (made_at plan stage) gained after → AreThere (made_at plan stage) after → Stops growth plan answer records before after
stops_at growth plan answer records stage broken gained before after may quiet exact grow there = record {
  stage = stage;
  may = may;
  broken = broken;
  unbroken = quiet;
  pieces = map gained (made_at plan stage);
  gained = each_piece (made_at plan stage)
      (λ flow piece. HasGained plan records stage flow piece ⊎ ((broken ≡ Some flow) × HasGainedPart plan records stage flow piece))
      gained exact;
  puts = each_put (made_at plan stage) gained before after grow there;
}

-- Lanes that have gained what each flow has shown
pub lanes_show :
    (plan : Plan) (records : List Record) (gained : ℕ → List ℕ) (before after : Option Lanes)
    → ((flow : ℕ) → Contains plan.table flow → HasShown (playout_of plan) flow records (gained flow))
    → GrowAll before plan.table gained after → AreThere plan.table after → LanesShow plan records before after
lanes_show plan records gained before after shown grow there = record {
  pieces = map gained plan.table;
  shown = each_piece plan.table (λ flow piece. HasShown (playout_of plan) flow records piece) gained shown;
  puts = each_put plan.table gained before after grow there;
}

-- While lanes are made

pub making_stops : (growth : Growth) (plan : Plan) (answer : Finish) (records : List Record) (before after : Option Lanes) → MakesFirst plan.table before after → Stops growth plan answer records before after
making_stops growth plan answer records before after h =
    stops_at growth plan answer records (Making h.count) None (λ _. []) before after (may_make growth answer h.count) (λ _. refl) (λ flow c. inl refl) h.grow h.there

-- While records are taken

-- The fault came while one more record was taken, or between two.
abbrev pub Follows : List Record → List Record → Option ℕ → Type 0
Follows taken next broken = ((next ≡ taken) × (broken ≡ None)) ⊎ ((r : Record) × (next ≡ taken ++ r ∷ []))

taken_first : (taken next all : List Record) (broken : Option ℕ) → Follows taken next broken → next ≡ take (length next) all → take (length taken) all ≡ taken
taken_first taken next all broken (inl still) walked = subst (λ (rs : List Record). take (length rs) all ≡ rs) still.0 (sym walked)
taken_first taken next all broken (inr one) walked =
    let rest = drop (length next) all in
    let split : all ≡ taken ++ (one.0 ∷ rest) =
    sym (take-append-drop (length next) all) ∙ ap (λ (rs : List Record). rs ++ rest) (sym walked ∙ one.1) ∙ append_assoc taken (one.0 ∷ []) rest in
    ap (take (length taken)) split ∙ take-append_seam taken (one.0 ∷ rest)

next_first : (taken next all : List Record) (broken : Option ℕ) → Follows taken next broken → next ≡ take (length next) all → (flow : ℕ) → broken ≡ Some flow → take (length taken + 1) all ≡ next
next_first taken next all broken (inl still) walked flow is = absurd (let none = sym still.1 ∙ is in cc)
next_first taken next all broken (inr one) walked flow is =
    let long : length next ≡ length taken + 1 = ap length one.1 ∙ length-append taken (one.0 ∷ []) in
    ap (λ n. take n all) (sym long) ∙ sym walked

shown_at_stage :
    (plan : Plan) (all taken next : List Record) (broken : Option ℕ) (flow : ℕ) (bytes : List ℕ)
    → take (length taken) all ≡ taken → (broken ≡ Some flow → take (length taken + 1) all ≡ next)
    → HasShown (playout_of plan) flow taken bytes
    ⊎ ((broken ≡ Some flow) × LiesBetween (HasShown (playout_of plan) flow taken) (HasShown (playout_of plan) flow next) bytes)
    → HasGained plan all (Taking (length taken)) flow bytes ⊎ ((broken ≡ Some flow) × HasGainedPart plan all (Taking (length taken)) flow bytes)
shown_at_stage plan all taken next broken flow bytes now then (inl shown) =
    inl (subst (λ (rs : List Record). HasShown (playout_of plan) flow rs bytes) (sym now) shown)
shown_at_stage plan all taken next broken flow bytes now then (inr part) =
    inr (
      part.0,
      record {
        first = part.1.first;
        are = subst (λ (rs : List Record). HasShown (playout_of plan) flow rs part.1.first) (sym now) part.1.are;
        begins = part.1.begins;
        next = λ more h. part.1.next more (subst (λ (rs : List Record). HasShown (playout_of plan) flow rs more) (then part.0) h);
      },
    )

pub taking_stops :
    (growth : Growth) (plan : Plan) (answer : Finish) (all taken next : List Record) (broken : Option ℕ) (before after : Option Lanes)
    → (LeavesWhole growth answer (Taking (length taken)) → broken ≡ None) → Follows taken next broken → next ≡ take (length next) all → BreaksAfter plan taken next broken before after
    → Stops growth plan answer all before after
taking_stops growth plan answer all taken next broken before after quiet follows walked h =
    stops_at growth plan answer all (Taking (length taken)) broken h.gained before after (may_take growth answer (length taken)) quiet
    (λ flow c. shown_at_stage plan all taken next broken flow (h.gained flow) (taken_first taken next all broken follows walked)
    (next_first taken next all broken follows walked flow) (h.exact flow c))
    h.grow h.there
