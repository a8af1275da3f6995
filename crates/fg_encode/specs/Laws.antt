-- Laws of the encoding.
use Rattle.std.specs.Prelude.{◌≡◌, ◌<◌, ◌≤◌, ◌^◌, ℕ, None, List, [], ◌∷◌, ◌++◌, length}
use Rattle.std.specs.List.{concat, AllByRecursion}
use Rattle.fg_shape.specs.declared.layouts.Layout.{Layout}
use Rattle.fg_shape.specs.declared.encoding.Settings.{Settings}
use Rattle.fg_shape.specs.Layout.{ColumnEnds, RowEnds}
use Rattle.fg_io.specs.Prefix.{IsPrefix}
use Rattle.fg_trace.specs.Trace.{trace_of, Fits}
use Rattle.fg_shape.specs.Settings.{CanEncode}
use Rattle.fg_encode.specs.Ends.{columns_ending, rows_ending}
use Rattle.fg_encode.specs.Encoding.{encoding, records_at}
use Rattle.fg_encode.specs.Payloads.{total_length, ArePayloads}
use Rattle.fg_encode.specs.Stream.{AreFirst, IsCut}

-- The columns that end at a slot are the one that the layout has there, or none.
abbrev pub ColumnsAreTheLayouts : Type 0
ColumnsAreTheLayouts =
    (layout : Layout) (slot : ℕ)
    → ((base : ℕ) → ColumnEnds layout slot base → columns_ending layout slot ≡ base ∷ [])
    × (((base : ℕ) → ¬ ColumnEnds layout slot base) → columns_ending layout slot ≡ [])

-- And so are the rows.
abbrev pub RowsAreTheLayouts : Type 0
RowsAreTheLayouts =
    (layout : Layout) (slot : ℕ)
    → ((base : ℕ) → RowEnds layout slot base → rows_ending layout slot ≡ base ∷ [])
    × (((base : ℕ) → ¬ RowEnds layout slot base) → rows_ending layout slot ≡ [])

-- What comes later changes nothing that was sent before.
abbrev pub LaterChangesNothing : Type 0
LaterChangesNothing =
    (settings : Settings) (payloads more : List (List ℕ)) (slot : ℕ) → slot < length payloads
    → records_at settings (payloads ++ more) slot ≡ records_at settings payloads slot

-- One payload more adds what is sent for its slot.
abbrev pub OneMoreAdds : Type 0
OneMoreAdds =
    (settings : Settings) (payloads : List (List ℕ)) (payload : List ℕ)
    → encoding settings (payloads ++ payload ∷ [])
    ≡ encoding settings payloads ++ records_at settings (payloads ++ payload ∷ []) (length payloads)

-- Where payloads have at most 2^40 bytes in all, each record of what they are sent as fits into a trace.
abbrev pub RecordsFit : Type 0
RecordsFit =
    (settings : Settings) (payloads : List (List ℕ))
    → CanEncode settings → ArePayloads settings.packets payloads → total_length payloads ≤ 2 ^ 40
    → AllByRecursion Fits (encoding settings payloads)

-- And the whole trace has at most 2^42 bytes.
abbrev pub TracesAreShort : Type 0
TracesAreShort =
    (settings : Settings) (payloads : List (List ℕ))
    → CanEncode settings → ArePayloads settings.packets payloads → total_length payloads ≤ 2 ^ 40
    → length (trace_of (encoding settings payloads)) ≤ 2 ^ 42

-- The first payloads of a stream can be encoded. One after another they are a front of its bytes, within the limit.
abbrev pub CutsArePayloads : Type 0
CutsArePayloads =
    (packets max : ℕ) (bytes : List ℕ) (payloads : List (List ℕ))
    → 1 ≤ packets → AreFirst packets max bytes payloads
    → ArePayloads packets payloads × (total_length payloads ≤ max) × IsPrefix (concat payloads) bytes

-- A stream that ends with its last payload is its payloads, one after another.
abbrev pub WholeCutIsAll : Type 0
WholeCutIsAll =
    (packets max : ℕ) (bytes : List ℕ) (payloads : List (List ℕ))
    → IsCut packets max bytes payloads None → concat payloads ≡ bytes
