-- What a failed read leaves of the lanes.
use Rattle.std.proofs.Common.{◌≡◌, inl, inr, ℕ, ◌<◌, Option, None, Some, IfSome, List, length, refl, ap, subst, arith, length-append}
use Rattle.std.specs.List.{flat_map}
use Rattle.fg_io.specs.Outlet.{Lanes}
use Rattle.fg_trace.specs.Laws.{AnsweredIsLongest, OneLongest, UnopenedIsShort}
use Rattle.fg_trace.specs.Reader.{ReaderState, StandsBefore, StandsAfter}
use Rattle.fg_trace.specs.Reading.{HoldsNext}
use Rattle.fg_trace.specs.Trace.{Record, Begins, IsLongest, magic, spelling, trace_of}
use Rattle.fg_flows.specs.declared.Plan.{Plan}
use Rattle.fg_results.specs.Laws.{WholeRecordsAreShown}
use Rattle.fg_results.specs.Stops.{LanesShow, StandsAtRead}

-- Where the reader stands after the records that the lanes show, and holds no next one, these are the whole ones.
pub shown_at_read :
    AnsweredIsLongest → (plan : Plan) (first now : Option (List ℕ)) (reader : ReaderState) (records : List Record) (before after : Option Lanes) → reader.max ≡ plan.max
    → StandsAfter reader first now records → (HoldsNext reader → ⊥) → LanesShow plan records before after → IfSome first (λ bytes. StandsAtRead plan bytes now before after)
shown_at_read law plan None now reader records before after max h none shows = tt
shown_at_read law plan (Some bytes) now reader records before after max h none shows = λ read rest is e.
    let there : StandsAfter reader (Some bytes) (Some rest) records = subst (λ (left : Option (List ℕ)). StandsAfter reader (Some bytes) left records) is h in
    inr (records, subst (λ n. IsLongest read n records) max (law reader bytes read rest records there none e), shows)

-- Where it holds fewer bytes than the magic has, no lane was made.
pub unmade_at_read :
    UnopenedIsShort → (plan : Plan) (first now : Option (List ℕ)) (reader : ReaderState) (lanes : Option Lanes) → StandsBefore reader first now
    → length reader.held < length magic → IfSome first (λ bytes. StandsAtRead plan bytes now lanes lanes)
unmade_at_read law plan None now reader lanes h few = tt
unmade_at_read law plan (Some bytes) now reader lanes h few = λ read rest is e.
    let there : StandsBefore reader (Some bytes) (Some rest) = subst (λ (left : Option (List ℕ)). StandsBefore reader (Some bytes) left) is h in
    inl (law reader bytes read rest there few e, refl)

-- What begins with a trace is no shorter than the magic.
not_short : (read : List ℕ) (max : ℕ) (records : List Record) → Begins read max records → length read < length magic → ⊥
not_short read max records h few =
    omega (arith, few, ap length h.spelled, length-append (trace_of records) h.rest, length-append magic (flat_map spelling records))

pub whole_shown : OneLongest → WholeRecordsAreShown
whole_shown law plan bytes read rest records before after h e longest =
    elim (h read rest refl e) [
      | inl short ↦ absurd (not_short read plan.max records longest.begins short.0)
      | inr w ↦ subst (λ (rs : List Record). LanesShow plan rs before after) (law read plan.max w.0 records w.1 longest) w.2
    ]
