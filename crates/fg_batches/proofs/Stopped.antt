-- Where a repair in batches stops, in the trace of its input.
use Rattle.std.proofs.Common.{◌≡◌, ◌⊎◌, inl, inr, ℕ, ◌+◌, ◌≤◌, Option, Some, None, IfSome, List, ◌++◌, length, take, drop, refl, sym, ap, ◌∙◌, subst, arith, append_assoc, length-append}
use Rattle.std.specs.List.{Contains}
use Rattle.std.proofs.Math.Seq.{take-append_seam}
use Rattle.std.proofs.lemmas.List.{take_all, take-append-drop}
use Rattle.fg_io.specs.Outlet.{Lanes}
use Rattle.fg_trace.specs.declared.step.Finish.{Finish}
use Rattle.fg_trace.specs.declared.step.Finish.TheVariants as finish
use Rattle.fg_trace.specs.Laws.{WalksTheFront, OneTrace}
use Rattle.fg_trace.specs.Reader.{ReaderState, StandsAfter}
use Rattle.fg_trace.specs.Trace.{Record, Ending, IsTrace}
use Rattle.fg_flows.specs.declared.Plan.{Plan}
use Rattle.fg_flows.specs.Plan.{playout_of}
use Rattle.fg_results.specs.Stops.{ByBatch, LeavesWhole, Stage, StopsIn, Taking, Emptying, HasGained, HasGainedPart, HasShown, LiesBetween}
use Rattle.fg_engine.specs.Engine.{GrowAll, AreThere, LanesStop}
use Rattle.fg_engine.proofs.Stopping.{stops_at}
use Rattle.fg_engine.proofs.Walking.{others_told}
use Rattle.fg_batches.specs.Walking.{HasPut, BreaksInBatch, IsFront}

-- The first records of the trace

pub front_standing :
    WalksTheFront → (plan : Plan) (first now : Option (List ℕ)) (reader : ReaderState) (records : List Record)
    → reader.max ≡ plan.max → StandsAfter reader first now records → IsFront plan first records
front_standing law plan None now reader records max h = tt
front_standing law plan (Some bytes) now reader records max h = λ all end trace.
    sym (law reader bytes now records all end h (subst (λ n. IsTrace bytes n all end) (sym max) trace))

pub front_ended :
    OneTrace → (plan : Plan) (first : Option (List ℕ)) (records : List Record) (end : Ending)
    → IfSome first (λ bytes. IsTrace bytes plan.max records end) → IsFront plan first records
front_ended law plan None records end h = tt
front_ended law plan (Some bytes) records end h = λ all other trace.
    ap (take (length records)) (law bytes plan.max all records other end trace h).0 ∙ take_all (length records) records (omega arith)

-- the first of the first
front_of_front : (records more all : List Record) (n : ℕ) → records ++ more ≡ take n all → take (length records) all ≡ records
front_of_front records more all n e =
    let split : all ≡ records ++ (more ++ drop n all) =
    sym (take-append-drop n all) ∙ ap (λ (rs : List Record). rs ++ drop n all) (sym e) ∙ append_assoc records more (drop n all) in
    ap (take (length records)) split ∙ take-append_seam records (more ++ drop n all)

pub shorter_front : (plan : Plan) (first : Option (List ℕ)) (records more : List Record) → IsFront plan first (records ++ more) → IsFront plan first records
shorter_front plan None records more h = tt
shorter_front plan (Some bytes) records more h = λ all end trace.
    front_of_front records more all (length (records ++ more)) (sym (h all end trace))

-- Between two batches

between :
    (plan : Plan) (answer : Finish) (first : Option (List ℕ)) (records : List Record) (gained : ℕ → List ℕ) (before after : Option Lanes)
    → IsFront plan first records → ((port : ℕ) → Contains plan.table port → HasShown (playout_of plan) port records (gained port))
    → GrowAll before plan.table gained after → AreThere plan.table after → StopsIn ByBatch plan answer first before after
between plan answer None records gained before after front shown grow there = tt
between plan answer (Some bytes) records gained before after front shown grow there = λ all end trace.
    stops_at ByBatch plan answer all (Taking (length records)) None gained before after tt (λ _. refl)
    (λ flow c. inl (subst (λ (rs : List Record). HasShown (playout_of plan) flow rs (gained flow)) (sym (front all end trace)) (shown flow c)))
    grow there

pub stops_between :
    (plan : Plan) (answer : Finish) (first : Option (List ℕ)) (records : List Record) (gained : ℕ → List ℕ) (before after : Option Lanes)
    → IsFront plan first records → ((port : ℕ) → Contains plan.table port → HasShown (playout_of plan) port records (gained port))
    → GrowAll before plan.table gained after → AreThere plan.table after → LanesStop ByBatch plan answer first before after
stops_between plan answer first records gained before after front shown grow there = record {
  others = others_told plan.table gained before after grow;
  stops = between plan answer first records gained before after front shown grow there;
}

-- While what a batch shows is put

put_at :
    (plan : Plan) (all taken next : List Record) (done flow : ℕ) (bytes : List ℕ) → take (length taken) all ≡ taken → take (length next) all ≡ next
    → HasPut plan taken next done flow bytes → HasGained plan all (Emptying done (length taken) (length next)) flow bytes
put_at plan all taken next done flow bytes first then (inl put) = inl (put.0, subst (λ (rs : List Record). HasShown (playout_of plan) flow rs bytes) (sym then) put.1)
put_at plan all taken next done flow bytes first then (inr not) = inr (not.0, subst (λ (rs : List Record). HasShown (playout_of plan) flow rs bytes) (sym first) not.1)

gained_at :
    (plan : Plan) (all taken next : List Record) (done flow : ℕ) (bytes : List ℕ) → take (length taken) all ≡ taken → take (length next) all ≡ next
    → HasGained plan all (Emptying done (length taken) (length next)) flow bytes → HasPut plan taken next done flow bytes
gained_at plan all taken next done flow bytes first then (inl put) = inl (put.0, subst (λ (rs : List Record). HasShown (playout_of plan) flow rs bytes) then put.1)
gained_at plan all taken next done flow bytes first then (inr not) = inr (not.0, subst (λ (rs : List Record). HasShown (playout_of plan) flow rs bytes) first not.1)

broken_at :
    (plan : Plan) (all taken next : List Record) (done : ℕ) (broken : Option ℕ) (flow : ℕ) (bytes : List ℕ) → take (length taken) all ≡ taken → take (length next) all ≡ next
    → HasPut plan taken next done flow bytes ⊎ ((broken ≡ Some flow) × LiesBetween (HasPut plan taken next done flow) (HasPut plan taken next (done + 1) flow) bytes)
    → HasGained plan all (Emptying done (length taken) (length next)) flow bytes ⊎ ((broken ≡ Some flow) × HasGainedPart plan all (Emptying done (length taken) (length next)) flow bytes)
broken_at plan all taken next done broken flow bytes first then (inl put) = inl (put_at plan all taken next done flow bytes first then put)
broken_at plan all taken next done broken flow bytes first then (inr part) =
    inr (
      part.0,
      record {
        first = part.1.first;
        are = put_at plan all taken next done flow part.1.first first then part.1.are;
        begins = part.1.begins;
        next = λ more h. part.1.next more (gained_at plan all taken next (done + 1) flow more first then h);
      },
    )

longer : (records batch : List Record) → length records ≤ length (records ++ batch)
longer records batch = omega (arith, length-append records batch)

write_loud : (stage : Stage) → LeavesWhole ByBatch finish.WriteFault stage → ⊥
write_loud stage (inl read) = let no = read in cc
write_loud stage (inr (memory, taking)) = let no = memory in cc

broken_in :
    (plan : Plan) (first : Option (List ℕ)) (put ran : List Record) (before after : Option Lanes) → BreaksInBatch plan put (put ++ ran) before after
    → IsFront plan first (put ++ ran) → StopsIn ByBatch plan finish.WriteFault first before after
broken_in plan None put ran before after h front = tt
broken_in plan (Some bytes) put ran before after h front = λ all end trace.
    let next : take (length (put ++ ran)) all ≡ put ++ ran = front all end trace in
    let taken : take (length put) all ≡ put = front_of_front put ran all (length (put ++ ran)) (sym next) in
    stops_at ByBatch plan finish.WriteFault all (Emptying h.done (length put) (length (put ++ ran))) h.broken h.gained before after (refl, longer put ran)
    (λ whole. absurd (write_loud (Emptying h.done (length put) (length (put ++ ran))) whole))
    (λ flow c. broken_at plan all put (put ++ ran) h.done h.broken flow (h.gained flow) taken next (h.exact flow c))
    h.grow h.there

pub stops_putting :
    (plan : Plan) (first : Option (List ℕ)) (put ran : List Record) (before after : Option Lanes) → BreaksInBatch plan put (put ++ ran) before after
    → IsFront plan first (put ++ ran) → LanesStop ByBatch plan finish.WriteFault first before after
stops_putting plan first put ran before after h front = record {
  others = others_told plan.table h.gained before after h.grow;
  stops = broken_in plan first put ran before after h front;
}
