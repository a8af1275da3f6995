-- How the records of a trace are picked, one after another, and what a pick comes to.
use Rattle.std.proofs.Common.{◌≡◌, ℕ, ◌≤◌, Option, Some, None, IfSome, Result, Ok, Err, IfOk, OnErr, List, [], ◌∷◌, ◌++◌, length, refl, sym, ap, ◌∙◌, subst, arith, append-nil}
use Rattle.std.specs.List.{flat_map, AllByRecursion}
use Rattle.fg_io.specs.declared.fault.Fault.{Fault}
use Rattle.fg_io.specs.Sink.{Gains, GainsPart}
use Rattle.fg_io.specs.Sent.{Sent}
use Rattle.fg_io.proofs.SentLemmas.{Sent-cut, Sent-part, Sent-then, Sent-whole, part_sent}
use Rattle.fg_io.proofs.SinkLemmas.{Gains-nil, GainsPart-front, GainsPart-nil}
use Rattle.fg_flows.specs.declared.selection.Selection.{Selection}
use Rattle.fg_trace.specs.declared.step.Finish.{Finish}
use Rattle.fg_trace.specs.Finish.{finish_of}
use Rattle.fg_trace.specs.Laws.{OneTrace, SpelledIsRead}
use Rattle.fg_trace.specs.Trace.{Record, Ending, Ended, NotTrace, Cut, TooLong, Fits as FitsTrace, IsTrace, magic, spelling, trace_of}
use Rattle.fg_trace.proofs.Traces.{trace_more}
use Rattle.fg_walk.specs.Walk.{IsBegun, Walked, WalkedPart}
use Rattle.fg_pick.specs.Laws.{OnePicked, PickedExist, PickedJoin}
use Rattle.fg_pick.specs.Pick.{ComesBack, Picks, PicksPart, WritesTrace, written_of}
use Rattle.fg_pick.specs.Picked.{IsPicked}
use Rattle.fg_pick.specs.Steps.{HasGained, HasPart, HasSent, SendsPart, SendsPicked}
use Rattle.fg_pick.proofs.Picking.{no_longer, picked_fit, picked_front, picked_none}

-- Parts

-- a prefix of the trace of what is picked so far is one of what is picked of all
pub front_part : OnePicked → PickedJoin → PickedExist → (selection : Selection) (records picked : List Record) (before after : Option (List ℕ)) → IsPicked selection records picked → GainsPart before (trace_of picked) after → (later : List Record) → HasPart selection (records ++ later) before after
front_part one join exist selection records picked before after is part later chosen are =
    GainsPart-front before after (trace_of picked) (trace_of chosen) (picked_front one join exist selection records later picked chosen is are) part

pub none_is_part : (selection : Selection) (records : List Record) (written : Option (List ℕ)) → HasPart selection records written written
none_is_part selection records written picked is = GainsPart-nil written (trace_of picked)

-- The magic

-- it is written or held
pub sent_first : PickedExist → (selection : Selection) (held next : List ℕ) (before after : Option (List ℕ)) → held ≡ [] → Sent before (held ++ magic) next after → HasSent selection [] next before after
sent_first exist selection held next before after none sent = record {
  picked = [];
  is_picked = picked_none exist selection;
  sent = subst (λ t. Sent before t next after) (ap (λ t. t ++ magic) none ∙ sym (append-nil magic)) sent;
}

-- it isn't all written
pub part_first : OnePicked → PickedJoin → PickedExist → (selection : Selection) (held : List ℕ) (before after : Option (List ℕ)) → held ≡ [] → GainsPart before (held ++ magic) after → (records : List Record) → HasPart selection records before after
part_first one join exist selection held before after none part records =
    front_part one join exist selection [] [] before after (picked_none exist selection)
    (subst (λ t. GainsPart before t after) (ap (λ t. t ++ magic) none ∙ sym (append-nil magic)) part) records

-- A record

pub sent_more : PickedJoin → (selection : Selection) (records : List Record) (r : Record) (held next : List ℕ) (before at after : Option (List ℕ)) → HasSent selection records held before at → SendsPicked selection r held next at after
    → HasSent selection (records ++ r ∷ []) next before after
sent_more join selection records r held next before at after h k = record {
  picked = h.picked ++ k.picked;
  is_picked = join selection records (r ∷ []) h.picked k.picked h.is_picked k.is_picked;
  sent = subst (λ t. Sent before t next after) (sym (trace_more h.picked k.picked)) (Sent-then before at after (trace_of h.picked) held (flat_map spelling k.picked) next h.sent k.sent);
}

pub part_more : OnePicked → PickedJoin → PickedExist → (selection : Selection) (records : List Record) (r : Record) (held : List ℕ) (before at after : Option (List ℕ)) → HasSent selection records held before at → SendsPart selection r held at after
    → (later : List Record) → HasPart selection ((records ++ r ∷ []) ++ later) before after
part_more one join exist selection records r held before at after h k later =
    let p = h.picked in
    front_part one join exist selection (records ++ r ∷ []) (p ++ k.picked) before after (join selection records (r ∷ []) p k.picked h.is_picked k.is_picked)
    (subst (λ t. GainsPart before t after) (sym (trace_more p k.picked)) (Sent-part before at after (trace_of p) held (flat_map spelling k.picked) h.sent k.part)) later

-- What is sent so far

pub so_far : OnePicked → PickedJoin → PickedExist → (selection : Selection) (records : List Record) (held : List ℕ) (before after : Option (List ℕ)) → HasSent selection records held before after → (later : List Record) → HasPart selection (records ++ later) before after
so_far one join exist selection records held before after h later =
    front_part one join exist selection records h.picked before after h.is_picked (part_sent before after (trace_of h.picked) held h.sent) later

-- The end

written_begun : (end : Ending) (picked : List Record) → IsBegun (finish_of end) → written_of end picked ≡ trace_of picked
written_begun Ended picked b = refl
written_begun (Cut n) picked b = refl
written_begun (TooLong n) picked b = refl
written_begun (NotTrace n) picked b = absurd b

pub sent_whole : (selection : Selection) (records : List Record) (end : Ending) (finish : Finish) (held : List ℕ) (before at after : Option (List ℕ)) → IsBegun finish → finish ≡ finish_of end → HasSent selection records held before at → Gains at held after → HasGained selection records end before after
sent_whole selection records end finish held before at after begun is h gained = record {
  picked = h.picked;
  is_picked = h.is_picked;
  gained = subst (λ t. Gains before t after) (sym (written_begun end h.picked (subst IsBegun is begun))) (Sent-whole before at after (trace_of h.picked) held h.sent gained);
}

pub sent_part : OnePicked → (selection : Selection) (records : List Record) (held : List ℕ) (before at after : Option (List ℕ)) → HasSent selection records held before at → GainsPart at held after → HasPart selection records before after
sent_part one selection records held before at after h part picked is =
    subst (λ t. GainsPart before t after) (ap trace_of (one selection records h.picked picked h.is_picked is)) (Sent-cut before at after (trace_of h.picked) held h.sent part)

pub gained_none : PickedExist → (selection : Selection) (place : ℕ) (written : Option (List ℕ)) → HasGained selection [] (NotTrace place) written written
gained_none exist selection place written = record { picked = []; is_picked = picked_none exist selection; gained = Gains-nil written }

-- What a call comes to

pub picks : (selection : Selection) (max : ℕ) (input before after : Option (List ℕ)) (came : Result Finish Fault) → IfOk came (λ finish. Walked HasGained selection max finish input before after) → IfOk came (λ finish. Picks selection max finish input before after)
picks selection max input before after (Ok finish) h = record {
  records = h.records;
  picked = h.told.picked;
  end = h.end;
  answer_is = h.answer_is;
  of_input = h.of_input;
  is_picked = h.told.is_picked;
  gained = h.told.gained;
}
picks selection max input before after (Err fault) h = tt

-- of what is no trace nothing is written
abbrev IsRefused : ℕ → Option (List ℕ) → Type 0 → Type 0
IsRefused max input P = IfSome input (λ bytes. (place : ℕ) → IsTrace bytes max [] (NotTrace place) → P)

pub refused : {A : Type 0} (written : A → Option (List ℕ)) (new old : A) (max : ℕ) (input : Option (List ℕ)) → IsRefused max input (new ≡ old) → IsRefused max input (written new ≡ written old)
refused written new old max None h = tt
refused written new old max (Some bytes) h = λ place trace. ap written (h place trace)

part_at : (selection : Selection) (bytes : List ℕ) (max : ℕ) (records picked : List Record) (end : Ending) (before after : Option (List ℕ)) → HasPart selection records before after → ((place : ℕ) → IsTrace bytes max [] (NotTrace place) → after ≡ before)
    → IsTrace bytes max records end → IsPicked selection records picked → GainsPart before (written_of end picked) after
part_at selection bytes max records picked Ended before after h none trace is = h picked is
part_at selection bytes max records picked (Cut n) before after h none trace is = h picked is
part_at selection bytes max records picked (TooLong n) before after h none trace is = h picked is
part_at selection bytes max records picked (NotTrace n) before after h none trace is =
    subst (λ w. GainsPart before [] w) (sym (none n (subst (λ (rs : List Record). IsTrace bytes max rs (NotTrace n)) trace.0 trace))) (GainsPart-nil before [])

part_of : (selection : Selection) (max : ℕ) (input before after : Option (List ℕ)) → IsRefused max input (after ≡ before) → WalkedPart HasPart selection max input before after → PicksPart selection max input before after
part_of selection max None before after none h = tt
part_of selection max (Some bytes) before after none h = λ records picked end trace is. part_at selection bytes max records picked end before after (h records end trace) none trace is

pub picks_part : (selection : Selection) (max : ℕ) (input before after : Option (List ℕ)) (came : Result Finish Fault) → IsRefused max input (after ≡ before) → OnErr came (WalkedPart HasPart selection max input before after) → OnErr came (PicksPart selection max input before after)
picks_part selection max input before after (Ok finish) none h = tt
picks_part selection max input before after (Err fault) none h = part_of selection max input before after none h

pub picks_none : (selection : Selection) (max : ℕ) (input written : Option (List ℕ)) → PicksPart selection max input written written
picks_none selection max None written = tt
picks_none selection max (Some bytes) written = λ records picked end trace is. GainsPart-nil written (written_of end picked)

-- What is written is read back

writes : (end : Ending) (picked : List Record) → WritesTrace (finish_of end) → written_of end picked ≡ trace_of picked
writes Ended picked w = refl
writes (Cut n) picked w = refl
writes (TooLong n) picked w = refl
writes (NotTrace n) picked w = absurd w

records_fit : (end : Ending) (bytes : List ℕ) (max : ℕ) (records : List Record) → IsTrace bytes max records end → AllByRecursion FitsTrace records
records_fit Ended bytes max records h = h.1.begins.fit
records_fit (Cut n) bytes max records h = h.1.begins.fit
records_fit (TooLong n) bytes max records h = h.1.begins.fit
records_fit (NotTrace n) bytes max records h = subst (λ (rs : List Record). AllByRecursion FitsTrace rs) (sym h.0) tt

records_within : (end : Ending) (bytes : List ℕ) (max : ℕ) (records : List Record) → WritesTrace (finish_of end) → IsTrace bytes max records end → length (trace_of records) ≤ max
records_within Ended bytes max records w h = h.1.begins.within
records_within (Cut n) bytes max records w h = h.1.begins.within
records_within (TooLong n) bytes max records w h = h.1.begins.within
records_within (NotTrace n) bytes max records w h = absurd w

pub comes_back : OneTrace → SpelledIsRead → OnePicked → (selection : Selection) (max : ℕ) (answer : Finish) (first before after : Option (List ℕ)) → Picks selection max answer first before after
    → IfSome first (λ bytes. WritesTrace answer → ComesBack selection max bytes before after)
comes_back one_trace law one selection max answer None before after h = tt
comes_back one_trace law one selection max answer (Some bytes) before after h = λ w.
    let writes_it : WritesTrace (finish_of h.end) = subst WritesTrace h.answer_is w in
    record {
      trace = trace_of h.picked;
      gained = subst (λ t. Gains before t after) (writes h.end h.picked writes_it) h.gained;
      within = omega (arith, no_longer selection h.records h.picked h.is_picked, records_within h.end bytes max h.records writes_it h.of_input);
      read_back = λ records picked end limit trace is within.
          let same = one_trace bytes max records h.records end h.end trace h.of_input in
          let chosen : h.picked ≡ picked = one selection h.records h.picked picked h.is_picked (subst (λ (rs : List Record). IsPicked selection rs picked) same.0 is) in
          subst (λ (rs : List Record). IsTrace (trace_of h.picked) limit rs Ended) chosen
          (law h.picked limit (picked_fit selection h.records h.picked h.is_picked (records_fit h.end bytes max h.records h.of_input)) within);
    }
