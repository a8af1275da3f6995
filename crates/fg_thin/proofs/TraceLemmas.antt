-- A trace of some of the records of another.
use Rattle.std.proofs.Common.{ℕ, ◌+◌, ◌≤◌, ◌^◌, Bool, true, false, if◌then◌else◌, List, [], ◌∷◌, length, arith, length-append}
use Rattle.std.specs.List.{AllByRecursion, flat_map}
use Rattle.fg_trace.specs.Laws.{SpelledIsRead}
use Rattle.fg_trace.specs.Trace.{Record, Fits, magic, spelling, trace_of, IsTrace, Ended}
use Rattle.fg_shape.specs.Settings.{CanEncode}
use Rattle.fg_encode.specs.Encoding.{encoding}
use Rattle.fg_encode.specs.Laws.{CutsArePayloads, RecordsFit, TracesAreShort}
use Rattle.fg_encode.specs.Payloads.{ArePayloads, total_length}
use Rattle.fg_shape.specs.declared.encoding.Losses.{Losses}
use Rattle.fg_shape.specs.declared.encoding.Settings.{Settings}
use Rattle.fg_thin.specs.PayloadLaws.{HasCut}
use Rattle.fg_thin.specs.Payloads.{payloads_of}
use Rattle.fg_thin.specs.Thinned.{is_lost, thinned, without}
use Rattle.fg_thin.specs.ThinnedSource.{thinned_trace}

fits_kept : (lost : Bool) (r : Record) (rs : List Record) → Fits r → AllByRecursion Fits rs → AllByRecursion Fits (if lost then rs else (r ∷ rs))
fits_kept true r rs one all = all
fits_kept false r rs one all = (one, all)

pub fits_without : (lost : ℕ → Bool) (n : ℕ) (rs : List Record) → AllByRecursion Fits rs → AllByRecursion Fits (without lost n rs)
fits_without lost n [] h = tt
fits_without lost n (r ∷ rs) h = fits_kept (lost n) r (without lost (n + 1) rs) h.0 (fits_without lost (n + 1) rs h.1)

short_kept : (lost : Bool) (r : Record) (rs : List Record) → length (flat_map spelling (if lost then rs else (r ∷ rs))) ≤ length (spelling r) + length (flat_map spelling rs)
short_kept true r rs = omega arith
short_kept false r rs = omega (arith, length-append (spelling r) (flat_map spelling rs))

short_without : (lost : ℕ → Bool) (n : ℕ) (rs : List Record) → length (flat_map spelling (without lost n rs)) ≤ length (flat_map spelling rs)
short_without lost n [] = omega arith
short_without lost n (r ∷ rs) =
    let rest = short_without lost (n + 1) rs in
    omega (arith, short_kept (lost n) r (without lost (n + 1) rs), rest, length-append (spelling r) (flat_map spelling rs))

pub thinned_is_trace : RecordsFit → TracesAreShort → SpelledIsRead → (settings : Settings) (lost : ℕ → Bool) (payloads : List (List ℕ))
    → CanEncode settings → ArePayloads settings.packets payloads → total_length payloads ≤ 2 ^ 40
    → IsTrace (trace_of (thinned settings lost payloads)) (2 ^ 42) (thinned settings lost payloads) Ended
thinned_is_trace fit short read settings lost payloads can are few =
    let sent : List Record = encoding settings payloads in
    read (without lost 0 sent) (2 ^ 42) (fits_without lost 0 sent (fit settings payloads can are few))
    (omega (arith, short settings payloads can are few, short_without lost 0 sent, length-append magic (flat_map spelling sent), length-append magic (flat_map spelling (without lost 0 sent))))

pub stream_is_trace : RecordsFit → TracesAreShort → SpelledIsRead → CutsArePayloads → HasCut → (settings : Settings) (losses : Losses) (max : ℕ) (bytes : List ℕ)
    → CanEncode settings → max ≤ 2 ^ 40
    → IsTrace (thinned_trace settings losses max bytes) (2 ^ 42) (thinned settings (is_lost losses) (payloads_of settings.packets max bytes)) Ended
stream_is_trace fit short read cuts has settings losses max bytes can limit =
    let payloads = payloads_of settings.packets max bytes in
    let cut = has settings.packets max bytes can.packets.0 in
    let are = cuts settings.packets max bytes payloads can.packets.0 cut.1.first in
    thinned_is_trace fit short read settings (is_lost losses) payloads can are.0 (omega (arith, are.1, limit))
