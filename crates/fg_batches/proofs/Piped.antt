-- What the three stages come to, in the trace of the input.
use Rattle.std.proofs.Common.{◌≡◌, inl, inr, ℕ, ◌⊎◌, ◌+◌, ◌<◌, ◌≤◌, Bool, true, false, Option, Some, None, IfSome, Result, Ok, Err, IfOk, IfErr, List, [], ◌∷◌, ◌++◌, length, take, drop, slice_index, refl, sym, ap, ◌∙◌, subst, arith, append_assoc, append-nil, length-append}
use Rattle.std.specs.List.{AllZip, Contains, slice_index_or}
use Rattle.std.specs.Option.{IsSome, is_some}
use Rattle.std.proofs.Math.Seq.{take-append_seam}
use Rattle.std.proofs.lemmas.Grind.{flat_map-append}
use Rattle.std.proofs.lemmas.List.{get_or_default, take-append-drop, take-take, take_all}
use Rattle.fg_io.specs.declared.fault.Fault.{Fault}
use Rattle.fg_io.specs.declared.fault.Fault.TheVariants.{Read, Write, Memory}
use Rattle.fg_io.specs.Outlet.{Lanes}
use Rattle.fg_trace.specs.Finish.{finish_after}
use Rattle.fg_trace.specs.Laws.{AnsweredIsLongest, OneTrace, WalksTheFront}
use Rattle.fg_trace.specs.Reader.{ReaderState, StandsAfter}
use Rattle.fg_trace.specs.Reading.{HasReached, HoldsNext}
use Rattle.fg_trace.specs.Trace.{Record}
use Rattle.fg_flows.specs.declared.Plan.{Plan}
use Rattle.fg_flows.specs.Plan.{PlanFits, playout_of}
use Rattle.fg_flows.specs.Laws.{OneFlowHasAPort}
use Rattle.fg_flows.specs.Sheaf.{SheafState}
use Rattle.fg_report.specs.declared.tail.Tail.{Tail}
use Rattle.fg_results.specs.Counted.{CountsBeside}
use Rattle.fg_results.specs.Laws.{OneGained}
use Rattle.fg_results.specs.Stops.{ByBatch, HasShown, StandsAtRead}
use Rattle.fg_results.proofs.AtRead.{shown_at_read}
use Rattle.fg_engine.specs.declared.shelved.Shelved.{Shelved}
use Rattle.fg_engine.specs.Engine.{AreThere, FlowStands, GrowAll, LanesStop, StandsAtFault, told_finish}
use Rattle.fg_engine.proofs.Breaking.{shown_of}
use Rattle.fg_engine.proofs.Stopping.{lanes_show}
use Rattle.fg_batches.specs.declared.gathering.Gathering.{Gathering}
use Rattle.fg_batches.specs.BatchView.{BatchView}
use Rattle.fg_batches.specs.Batches.{BreaksEmptying, HoldsBatch, waiting}
use Rattle.fg_batches.specs.Gathering.{HasGathered, HasReadAll}
use Rattle.fg_batches.specs.Stages.{GivesBatches, HaveGained, HavePlayed, PutsRows, RanRows, StandsAtEnd, all_of, answer_to, waiting_in}
use Rattle.fg_batches.specs.Walking.{IsFront, IsReady, RanAll}
use Rattle.fg_batches.proofs.Batched.{ran_stands}
use Rattle.fg_batches.proofs.Counting.{stages_count}
use Rattle.fg_batches.proofs.Emptied.{emptying_breaks, grow_then, there_then}
use Rattle.fg_batches.proofs.HeldRecords.{holds_all}
use Rattle.fg_batches.proofs.Runs.{zip_split}
use Rattle.fg_batches.proofs.Stopped.{front_ended, front_standing, shorter_front, stops_between, stops_putting}

-- Fronts

abbrev Begins : {A : Type 0} → List A → List A → Type 0
Begins {A} front all = (rest : List A) × (all ≡ front ++ rest)

begins_take : {A : Type 0} (n : ℕ) (xs : List A) → Begins (take n xs) xs
begins_take n xs = (drop n xs, sym (take-append-drop n xs))

begins_then : {A : Type 0} (xs ys zs : List A) → Begins xs ys → Begins ys zs → Begins xs zs
begins_then xs ys zs one other =
    (one.0 ++ other.0, other.1 ∙ ap (λ l. l ++ other.0) one.1 ∙ append_assoc xs one.0 other.0)

-- so many of the first are the first
front_is : {A : Type 0} (front all : List A) → Begins front all → take (length front) all ≡ front
front_is front all begins = ap (take (length front)) begins.1 ∙ take-append_seam front begins.0

-- of one list, the shorter of two fronts begins the longer
take_begins : {A : Type 0} (n : ℕ) (xs : List A) → Begins (take n xs) (take (n + 1) xs)
take_begins {A} n xs = subst (λ (l : List A). Begins l (take (n + 1) xs)) (take-take n (n + 1) xs (omega arith)) (begins_take n (take (n + 1) xs))

-- The first of the batches have the first of the sheaves.
first_batches :
    (plan : Plan) (batches : List (List Record)) (sheaves front : List SheafState) → Begins front sheaves → AllZip (HoldsBatch plan) batches sheaves
    → (first : List (List Record)) × Begins first batches × AllZip (HoldsBatch plan) first front
first_batches plan batches sheaves front begins zip =
    let cut = zip_split (HoldsBatch plan) batches front begins.0 (subst (λ (all : List SheafState). AllZip (HoldsBatch plan) batches all) begins.1 zip) in
    (cut.0, (cut.1, cut.2), cut.3)

-- their records are the first
first_records : (first batches : List (List Record)) → Begins first batches → Begins (all_of first) (all_of batches)
first_records first batches begins = (all_of begins.0, ap all_of begins.1 ∙ flat_map-append (λ (batch : List Record). batch) first begins.0)

-- What a row more has for a port
pub waiting_more : (rows : List (List Shelved)) (row : List Shelved) (port : ℕ) → waiting_in (rows ++ row ∷ []) port ≡ waiting_in rows port ++ waiting row port
waiting_more [] row port = append-nil (waiting row port)
waiting_more (first ∷ rows) row port =
    ap (λ (bytes : List ℕ). waiting first port ++ bytes) (waiting_more rows row port)
    ∙ sym (append_assoc (waiting first port) (waiting_in rows port) (waiting row port))

-- How flows stand

abbrev pub Stand : Plan → List Record → List BatchView → (ℕ → List ℕ) → Type 0
Stand plan records flows gained =
    (k : ℕ) (d : BatchView) → k < length plan.table → FlowStands plan records (slice_index plan.table k) (slice_index_or flows k d).flow (gained (slice_index plan.table k))

some_flow : (flows : List BatchView) → 0 < length flows → BatchView
some_flow [] h = absurd (omega (arith, h))
some_flow (f ∷ flows) h = f

pub stand_shown :
    (plan : Plan) (records : List Record) (flows : List BatchView) (gained : ℕ → List ℕ) → length flows ≡ length plan.table
    → Stand plan records flows gained → (port : ℕ) → Contains plan.table port → HasShown (playout_of plan) port records (gained port)
stand_shown plan records flows gained count stand port c =
    let any = some_flow flows (omega (arith, count, c.1)) in
    let same : slice_index plan.table c.0 ≡ port = get_or_default plan.table c.0 0 port c.1 ∙ c.2 in
    let flow = (slice_index_or flows c.0 any).flow in
    subst (λ p. HasShown (playout_of plan) p records (gained p)) same
    (shown_of (playout_of plan) (slice_index plan.table c.0) records flow.state flow.sum (gained (slice_index plan.table c.0)) (stand c.0 any c.1).taken)

-- The trace begins with these records.
at_front :
    WalksTheFront → OneTrace → (plan : Plan) (first now : Option (List ℕ)) (reader : ReaderState) (gathering : Gathering) (end : Option (Result Tail Fault)) (records : List Record)
    → reader.max ≡ plan.max → StandsAtEnd plan first now reader gathering end records → IsFront plan first records
at_front walks one plan first now reader gathering None records max h =
    shorter_front plan first records [] (shorter_front plan first (records ++ []) h.0.left
    (front_standing walks plan first now reader ((records ++ []) ++ h.0.left) max h.0.stands))
at_front walks one plan first now reader gathering (Some (Ok tail)) records max h = front_ended one plan first records h.0.end h.0.of_input
at_front walks one plan first now reader gathering (Some (Err fault)) records max h = front_standing walks plan first now reader records max h.1

-- What the stages come to: all was run and put, or the lanes have stopped.
pub record Come
    (plan : Plan) (first now : Option (List ℕ)) (flows : List BatchView) (other : ℕ) (before after : Option Lanes) (answer : Result Tail Fault) : Type 0 where
  pub whole : IfOk answer (λ tail. RanAll plan first flows other tail before after)
  pub stops : IfErr answer (λ fault. LanesStop ByBatch plan (finish_after fault) first before after)
  pub at_read : IfErr answer (λ fault. StandsAtFault plan fault first now before after)

-- what they have done
pub record Done
    (plan : Plan) (first now : Option (List ℕ)) (reader : ReaderState) (gathering : Gathering) (end : Option (Result Tail Fault))
    (old new : List BatchView) (starved broken : Bool) (lanes after : Option Lanes) : Type 0 where
  pub given : List SheafState
  pub batches : List (List Record)
  pub took : List SheafState
  pub made : List (List Shelved)
  pub stored : List (List Shelved)
  pub holds : AllZip (HoldsBatch plan) batches given
  pub at_end : StandsAtEnd plan first now reader gathering end (all_of batches)
  pub played : HavePlayed plan.table old new took made starved
  pub gained : HaveGained plan.table lanes after stored broken
  pub took_front : Begins took given
  pub stored_front : Begins stored made

module _ (law : OneFlowHasAPort) (once : OneGained) (walks : WalksTheFront) (one : OneTrace)
    (plan : Plan) (fits : PlanFits plan) (first now : Option (List ℕ)) (reader : ReaderState) (gathering : Gathering) (end : Option (Result Tail Fault))
    (old new : List BatchView) (starved broken : Bool) (before lanes after : Option Lanes) (gained : ℕ → List ℕ)
    (count : length old ≡ length plan.table) (stand : Stand plan [] old gained)
    (empty : (k : ℕ) (d : BatchView) → k < length plan.table → (slice_index_or old k d).shelf ≡ [])
    (grow : GrowAll before plan.table gained lanes) (there : AreThere plan.table lanes) (max : reader.max ≡ plan.max)
    (h : Done plan first now reader gathering end old new starved broken lanes after) where
  front : IsFront plan first (all_of h.batches)
  front = at_front walks one plan first now reader gathering end (all_of h.batches) max h.at_end

  -- once flows have run some of the batches
  rows_stand :
      (batches : List (List Record)) (sheaves : List SheafState) (rows : List (List Shelved)) (flows : List BatchView)
      → AllZip (HoldsBatch plan) batches sheaves → RanRows plan.table old sheaves rows flows
      → Stand plan (all_of batches) flows (λ port. gained port ++ waiting_in rows port)
  rows_stand batches sheaves rows flows zip ran = λ k d below.
      let port = slice_index plan.table k in
      ran_stands plan [] (all_of batches) port (slice_index_or old k d) (record (slice_index_or flows k d) { shelf = waiting_in rows port }) _ (gained port)
      (stand k d below) (empty k d below) (holds_all plan batches sheaves k below zip) (ran.ran k d (subst (λ n. k < n) (sym count) below))

  rows_shown :
      (batches : List (List Record)) (sheaves : List SheafState) (rows : List (List Shelved)) (flows : List BatchView)
      → AllZip (HoldsBatch plan) batches sheaves → RanRows plan.table old sheaves rows flows
      → (port : ℕ) → Contains plan.table port → HasShown (playout_of plan) port (all_of batches) (gained port ++ waiting_in rows port)
  rows_shown batches sheaves rows flows zip ran port c =
      stand_shown plan (all_of batches) flows (λ port. gained port ++ waiting_in rows port) (ran.count ∙ count) (rows_stand batches sheaves rows flows zip ran) port c

  -- what some of the batches show was put
  grown : (rows : List (List Shelved)) (to : Option Lanes) → GrowAll lanes plan.table (waiting_in rows) to → GrowAll before plan.table (λ port. gained port ++ waiting_in rows port) to
  grown rows to h = grow_then before lanes to plan.table gained (waiting_in rows) grow h

  -- those are the first
  first_front : (batches : List (List Record)) → Begins batches h.batches → IsFront plan first (all_of batches)
  first_front batches begins =
      let more = first_records batches h.batches begins in
      shorter_front plan first (all_of batches) more.0 (subst (λ (rs : List Record). IsFront plan first rs) more.1 front)

  -- Where a put failed

  put_fails : (rows : List (List Shelved)) (row : List Shelved) (to : Option Lanes) → h.stored ≡ rows ++ row ∷ []
      → GrowAll lanes plan.table (waiting_in rows) to → BreaksEmptying plan.table row to after → LanesStop ByBatch plan (finish_after Write) first before after
  put_fails rows row to is all breaks =
      let n = length rows in
      let all_rows : Begins (rows ++ row ∷ []) h.made = subst (λ (l : List (List Shelved)). Begins l h.made) is h.stored_front in
      let long : length (rows ++ row ∷ []) ≡ n + 1 = length-append rows (row ∷ []) in
      let most : n + 1 ≤ length h.made =
      omega (arith, long, ap length all_rows.1, length-append (rows ++ row ∷ []) all_rows.0) in
      let these : take (n + 1) h.made ≡ rows ++ row ∷ [] = ap (λ m. take m h.made) (sym long) ∙ front_is (rows ++ row ∷ []) h.made all_rows in
      let before_it : take n h.made ≡ rows =
      front_is rows h.made (begins_then rows (rows ++ row ∷ []) h.made (row ∷ [], refl) all_rows) in
      let at = h.played.at n (omega (arith, most)) in
      let next = h.played.at (n + 1) most in
      let sheaves = take (n + 1) h.took in
      let batches = first_batches plan h.batches h.given sheaves (begins_then sheaves h.took h.given (begins_take (n + 1) h.took) h.took_front) h.holds in
      let fewer = first_batches plan batches.0 sheaves (take n h.took) (take_begins n h.took) batches.2 in
      let records = first_records fewer.0 batches.0 fewer.1 in
      let ran : RanRows plan.table old (take n h.took) rows at.0 = subst (λ (l : List (List Shelved)). RanRows plan.table old (take n h.took) l at.0) before_it at.1 in
      let ran_next : RanRows plan.table old sheaves (rows ++ row ∷ []) next.0 = subst (λ (l : List (List Shelved)). RanRows plan.table old sheaves l next.0) these next.1 in
      stops_putting plan first (all_of fewer.0) records.0 before after
      (emptying_breaks law once plan fits.table (all_of fewer.0) (all_of fewer.0 ++ records.0) row (λ port. gained port ++ waiting_in rows port) before to after
      (grown rows to all) (there_then lanes to plan.table (waiting_in rows) there all)
      (rows_shown fewer.0 (take n h.took) rows at.0 fewer.2 ran)
      (λ port c. subst (λ (rs : List Record). HasShown (playout_of plan) port rs ((gained port ++ waiting_in rows port) ++ waiting row port)) records.1
      (subst (λ (bytes : List ℕ). HasShown (playout_of plan) port (all_of batches.0) bytes)
      (ap (λ (bytes : List ℕ). gained port ++ bytes) (waiting_more rows row port) ∙ sym (append_assoc (gained port) (waiting_in rows port) (waiting row port)))
      (rows_shown batches.0 sheaves (rows ++ row ∷ []) next.0 batches.2 ran_next port c)))
      breaks)
      (subst (λ (rs : List Record). IsFront plan first rs) records.1 (first_front batches.0 batches.1))

  -- Where a flow found no memory, all that was made was put.
  starves : h.stored ≡ h.made → GrowAll lanes plan.table (waiting_in h.stored) after → LanesStop ByBatch plan (finish_after Memory) first before after
  starves is all =
      let n = length h.made in
      let at = h.played.at n (omega arith) in
      let sheaves = take n h.took in
      let batches = first_batches plan h.batches h.given sheaves (begins_then sheaves h.took h.given (begins_take n h.took) h.took_front) h.holds in
      let ran : RanRows plan.table old sheaves h.made at.0 = subst (λ (l : List (List Shelved)). RanRows plan.table old sheaves l at.0) (take_all n h.made (omega arith)) at.1 in
      let put : GrowAll lanes plan.table (waiting_in h.made) after = subst (λ (l : List (List Shelved)). GrowAll lanes plan.table (waiting_in l) after) is all in
      stops_between plan (finish_after Memory) first (all_of batches.0) (λ port. gained port ++ waiting_in h.made port) before after
      (first_front batches.0 batches.1) (rows_shown batches.0 sheaves h.made at.0 batches.2 ran) (grown h.made after put)
      (there_then lanes after plan.table (waiting_in h.made) there put)

  -- Where all was run and put

  all_ran : starved ≡ false → h.took ≡ h.given → RanRows plan.table old h.given h.made new
  all_ran none is = subst (λ (l : List SheafState). RanRows plan.table old l h.made new) is (h.played.last none)

  all_put : h.stored ≡ h.made → GrowAll lanes plan.table (waiting_in h.stored) after → GrowAll lanes plan.table (waiting_in h.made) after
  all_put is all = subst (λ (l : List (List Shelved)). GrowAll lanes plan.table (waiting_in l) after) is all

  ended : (tail : Tail) → HasReadAll plan first (all_of h.batches) gathering.other tail → RanRows plan.table old h.given h.made new
      → GrowAll lanes plan.table (waiting_in h.made) after → RanAll plan first new gathering.other tail before after
  ended tail all ran put = record {
    records = all_of h.batches;
    all = all;
    gained = λ port. gained port ++ waiting_in h.made port;
    count = ran.count ∙ count;
    stand = rows_stand h.batches h.given h.made new h.holds ran;
    grow = grown h.made after put;
    there = there_then lanes after plan.table (waiting_in h.made) there put;
  }

  unread : (fault : Fault) → RanRows plan.table old h.given h.made new → GrowAll lanes plan.table (waiting_in h.made) after
      → LanesStop ByBatch plan (finish_after fault) first before after
  unread fault ran put =
      stops_between plan (finish_after fault) first (all_of h.batches) (λ port. gained port ++ waiting_in h.made port) before after
      front (rows_shown h.batches h.given h.made new h.holds ran) (grown h.made after put)
      (there_then lanes after plan.table (waiting_in h.made) there put)

  -- and no record that was read whole was left
  shown_unread : AnsweredIsLongest → StandsAfter reader first now (all_of h.batches) → (HoldsNext reader → ⊥) → RanRows plan.table old h.given h.made new
      → GrowAll lanes plan.table (waiting_in h.made) after → IfSome first (λ bytes. StandsAtRead plan bytes now before after)
  shown_unread answered stands none ran put =
      shown_at_read answered plan first now reader (all_of h.batches) before after max stands none
      (lanes_show plan (all_of h.batches) (λ port. gained port ++ waiting_in h.made port) before after
      (rows_shown h.batches h.given h.made new h.holds ran) (grown h.made after put)
      (there_then lanes after plan.table (waiting_in h.made) there put))

-- What is answered, by which of these it was

pub come :
    AnsweredIsLongest → OneFlowHasAPort → OneGained → WalksTheFront → OneTrace → (plan : Plan) → PlanFits plan
    → (first now : Option (List ℕ)) (reader : ReaderState) (gathering : Gathering) (end : Option (Result Tail Fault))
    (old new : List BatchView) (starved broken : Bool) (before lanes after : Option Lanes) (gained : ℕ → List ℕ) → length old ≡ length plan.table
    → Stand plan [] old gained → ((k : ℕ) (d : BatchView) → k < length plan.table → (slice_index_or old k d).shelf ≡ [])
    → GrowAll before plan.table gained lanes → AreThere plan.table lanes → reader.max ≡ plan.max
    → (h : Done plan first now reader gathering end old new starved broken lanes after)
    → (broken ≡ true) ⊎ ((h.stored ≡ h.made) × ((starved ≡ true) ⊎ ((h.took ≡ h.given) × IsSome end)))
    → Come plan first now new gathering.other before after (answer_to end starved broken)
come answered law once walks one plan fits first now reader gathering end old new starved true before lanes after gained count stand empty grow there max h which =
    let put = h.gained in
    record {
      whole = tt;
      stops =
          put_fails law once walks one plan fits first now reader gathering end old new starved true before lanes after gained count stand empty grow there max h
          put.0 put.1 put.2 put.3 put.5 put.6;
      at_read = λ read. absurd cc;
    }
come answered law once walks one plan fits first now reader gathering end old new starved false before lanes after gained count stand empty grow there max h (inl e) = absurd (let no = e in cc)
come answered law once walks one plan fits first now reader gathering end old new true false before lanes after gained count stand empty grow there max h (inr which) = record {
  whole = tt;
  stops =
      starves law once walks one plan fits first now reader gathering end old new true false before lanes after gained count stand empty grow there max h which.0 h.gained;
  at_read = λ read. absurd cc;
}
come answered law once walks one plan fits first now reader gathering end old new false false before lanes after gained count stand empty grow there max h (inr (stored, inl e)) =
    absurd (let no = e in cc)
come answered law once walks one plan fits first now reader gathering None old new false false before lanes after gained count stand empty grow there max h (inr (stored, inr (took, some))) =
    absurd (let no = some in cc)
come answered law once walks one plan fits first now reader gathering (Some (Ok tail)) old new false false before lanes after gained count stand empty grow there max h (inr (stored, inr (took, some))) =
    let ran = all_ran law once walks one plan fits first now reader gathering (Some (Ok tail)) old new false false before lanes after gained count stand empty grow there max h refl took in
    let put = all_put law once walks one plan fits first now reader gathering (Some (Ok tail)) old new false false before lanes after gained count stand empty grow there max h stored h.gained in
    record {
      whole =
          ended law once walks one plan fits first now reader gathering (Some (Ok tail)) old new false false before lanes after gained count stand empty grow there max h tail
          h.at_end.0 ran put;
      stops = tt;
      at_read = tt;
    }
come answered law once walks one plan fits first now reader gathering (Some (Err fault)) old new false false before lanes after gained count stand empty grow there max h (inr (stored, inr (took, some))) =
    let ran = all_ran law once walks one plan fits first now reader gathering (Some (Err fault)) old new false false before lanes after gained count stand empty grow there max h refl took in
    let put = all_put law once walks one plan fits first now reader gathering (Some (Err fault)) old new false false before lanes after gained count stand empty grow there max h stored h.gained in
    record {
      whole = tt;
      stops =
          unread law once walks one plan fits first now reader gathering (Some (Err fault)) old new false false before lanes after gained count stand empty grow there max h
          fault ran put;
      at_read = λ _.
          shown_unread law once walks one plan fits first now reader gathering (Some (Err fault)) old new false false before lanes after gained count stand empty grow there max h
          answered h.at_end.1 h.at_end.2 ran put;
    }

-- What the stages' own relations say of it

module _ (law : OneFlowHasAPort) (once : OneGained) (walks : WalksTheFront) (one : OneTrace)
    (plan : Plan) (fits : PlanFits plan) {table : List ℕ} (named : plan.table ≡ table)
    {left now : Option (List ℕ)} {reads puts : ℕ × ℕ} {reader reader' : ReaderState} {gathering gathering' : Gathering} {end : Option (Result Tail Fault)}
    {old new : List BatchView} {starved broken : Bool} {lanes after : Option Lanes}
    {given took : List SheafState} {made stored : List (List Shelved)}
    (gives : GivesBatches plan left now reads reader reader' gathering gathering' end given)
    (played : HavePlayed table old new took made starved)
    (put : PutsRows table lanes after puts stored broken)
    (took_front : Begins took given) (stored_front : Begins stored made)
    (whole : (broken ≡ true) ⊎ ((stored ≡ made) × ((starved ≡ true) ⊎ ((took ≡ given) × IsSome end)))) where
  has_done : (first : Option (List ℕ)) → HasGathered plan first left reader [] [] gathering → Done plan first now reader' gathering' end old new starved broken lanes after
  has_done first h =
      let came = gives.came first h in
      record {
        given = given;
        batches = came.0;
        took = took;
        made = made;
        stored = stored;
        holds = came.1;
        at_end = came.2;
        played = subst (λ (ports : List ℕ). HavePlayed ports old new took made starved) (sym named) played;
        gained = subst (λ (ports : List ℕ). HaveGained ports lanes after stored broken) (sym named) (put.gained plan fits named);
        took_front = took_front;
        stored_front = stored_front;
      }

  pub stages_come : AnsweredIsLongest → (first : Option (List ℕ)) (before : Option Lanes) → IsReady plan first left reader gathering old before lanes
      → Come plan first now new gathering'.other before after (answer_to end starved broken)
  unfolding has_done
  stages_come answered first before h =
      come answered law once walks one plan fits first now reader' gathering' end old new starved broken before lanes after h.gained h.count h.stand h.empty h.grow h.there gives.max
      (has_done first h.gathered) whole

  -- how far the trace was read
  reached : (end : Option (Result Tail Fault)) (records : List Record) (tail : Tail) → end ≡ Some (Ok tail) → (first : Option (List ℕ))
      → StandsAtEnd plan first now reader' gathering' end records → HasReached (told_finish tail) reader' now
  reached None records tail is first h = absurd (let no = is in cc)
  reached (Some (Ok other)) records tail is first h = subst (λ t. HasReached (told_finish t) reader' now) (let same = is in cc) h.1
  reached (Some (Err fault)) records tail is first h = absurd (let no = is in cc)

  pub stages_reach : IfOk (answer_to end starved broken) (λ tail. HasReached (told_finish tail) reader' now)
  stages_reach = reach end starved broken refl refl whole
    where
      reach : (e : Option (Result Tail Fault)) (s b : Bool) → e ≡ end → b ≡ broken
          → (broken ≡ true) ⊎ ((stored ≡ made) × ((starved ≡ true) ⊎ ((took ≡ given) × IsSome end)))
          → IfOk (answer_to e s b) (λ tail. HasReached (told_finish tail) reader' now)
      reach e s true same is which = tt
      reach e true false same is which = tt
      reach None false false same is which = tt
      reach (Some (Ok tail)) false false same is which =
          let at = gives.begins in
          reached end (all_of (gives.came at.0 at.1).0) tail (sym same) at.0 (gives.came at.0 at.1).2
      reach (Some (Err fault)) false false same is which = tt

  pub stages_counted : CountsBeside (answer_to end starved broken) (reads ∷ []) (puts ∷ [])
  stages_counted =
      stages_count end starved broken reads.0 reads.1 puts.0 puts.1 gives.counts put.counts
      (λ unbroken fed none. over unbroken fed none whole)
      (λ fault is. let at = gives.begins in failed end fault is at.0 (all_of (gives.came at.0 at.1).0) (gives.came at.0 at.1).2)
    where
      over : broken ≡ false → starved ≡ false → end ≡ None → (broken ≡ true) ⊎ ((stored ≡ made) × ((starved ≡ true) ⊎ ((took ≡ given) × IsSome end))) → ⊥
      over unbroken fed none (inl is) = cc
      over unbroken fed none (inr (all, inl is)) = cc
      over unbroken fed none (inr (all, inr (took, some))) = let is = ap is_some none in cc

      failed : (e : Option (Result Tail Fault)) (fault : Fault) → e ≡ Some (Err fault) → (first : Option (List ℕ)) (records : List Record)
          → StandsAtEnd plan first now reader' gathering' e records → fault ≡ Read
      failed None fault is first records h = absurd (let no = is in cc)
      failed (Some (Ok tail)) fault is first records h = absurd (let no = is in cc)
      failed (Some (Err other)) fault is first records h = (let same = is in cc) ∙ h.0
