-- How far a pick has come. No public contract cites what stands here.
use Rattle.std.specs.Prelude.{◌≡◌, ℕ, Bool, Option, List, [], ◌∷◌, ◌++◌}
use Rattle.std.specs.List.{flat_map}
use Rattle.fg_io.specs.Sent.{Sent}
use Rattle.fg_io.specs.Sink.{Gains, GainsPart}
use Rattle.fg_flows.specs.declared.selection.Selection.{Selection}
use Rattle.fg_trace.specs.Trace.{Record, Ending, spelling, trace_of}
use Rattle.fg_pick.specs.Pick.{written_of}
use Rattle.fg_pick.specs.Picked.{IsPicked}
use Rattle.fg_pick.specs.Ports.{IsPortTable}

-- What is picked of the record is sent behind what is held: the sink has gained the front of both, and the rest is held.
pub record SendsPicked (selection : Selection) (r : Record) (held next : List ℕ) (before after : Option (List ℕ)) : Type 0 where
  pub picked : List Record
  pub is_picked : IsPicked selection (r ∷ []) picked
  pub sent : Sent before (held ++ flat_map spelling picked) next after

-- A prefix of that was written.
pub record SendsPart (selection : Selection) (r : Record) (held : List ℕ) (before after : Option (List ℕ)) : Type 0 where
  pub picked : List Record
  pub is_picked : IsPicked selection (r ∷ []) picked
  pub part : GainsPart before (held ++ flat_map spelling picked) after

-- The trace of what is picked of these records is sent: the sink has gained its front since then, and the rest is held.
pub record HasSent
    (selection : Selection) (records : List Record) (held : List ℕ) (before after : Option (List ℕ)) : Type 0 where
  pub picked : List Record
  pub is_picked : IsPicked selection records picked
  pub sent : Sent before (trace_of picked) held after

-- Nothing is sent, and the table has the ports that are picked.
pub record IsNew (selection : Selection) (entries : List Bool) (held : List ℕ) : Type 0 where
  pub table : IsPortTable selection entries
  pub empty : held ≡ []

-- What is picked of these records by that table is sent.
pub record HasPicked
    (selection : Selection) (entries : List Bool) (records : List Record) (held : List ℕ) (before after : Option (List ℕ)) : Type 0 where
  pub table : IsPortTable selection entries
  pub has_sent : HasSent selection records held before after

-- The sink has gained what is written of these records, where their trace ends so.
pub record HasGained (selection : Selection) (records : List Record) (end : Ending) (before after : Option (List ℕ)) : Type 0 where
  pub picked : List Record
  pub is_picked : IsPicked selection records picked
  pub gained : Gains before (written_of end picked) after

-- It has gained a prefix of the trace of what is picked of them.
abbrev pub HasPart : Selection → List Record → Option (List ℕ) → Option (List ℕ) → Type 0
HasPart selection records before after =
    (picked : List Record) → IsPicked selection records picked → GainsPart before (trace_of picked) after
